-- The words that runs hand over.
use Rattle.std.proofs.Common.{ℕ, ◌≡◌, ◌+◌, ◌*◌, ◌/◌, ◌%◌, ◌<◌, ◌≤◌, ◌==◌, ◌||◌, ◌⊎◌, inl, inr, Bool, true, false, List, [], ◌∷◌, ◌++◌, append_assoc, length, get_or, set, take, drop, refl, sym, ap, subst, ◌∙◌, arith, div-add-mod'}
use Rattle.std.proofs.lemmas.Bool.{cases_lt}
use Rattle.std.proofs.lemmas.Grind.{flat_map-append}
use Rattle.std.proofs.lemmas.List.{append-nil, get_or-take, get_or-drop, length-take, length-drop, take-take, take-append-drop, drop-take, get_or-set_other, get_or-set_same, take_more_set, take-set, take-set-le}
use Rattle.std.proofs.lemmas.List.Folds.{list_any-append}
use Rattle.std.proofs.lemmas.Nat.{mod_below}
use Rattle.runs.specs.Coverage.{is_reached}
use Rattle.reset_machine.specs.Watched.{Resettable}
use Rattle.fuzz_command.specs.declared.job.Job.{Job}
use Rattle.fuzz_command.specs.declared.job.Outcome.{Outcome}
use Rattle.fuzz_command.specs.declared.job.Outcome.TheVariants.{Waiting, Done, Refused}
use Rattle.fuzz_command.specs.declared.job.RunResult.{RunResult}
use Rattle.fuzz_command.specs.Jobs.{AreAmong, Hands, HandsIn, HandsOver, IsReadyMachine, but_for, handed, handed_over, job_input, job_name}
use Rattle.fuzz_command.specs.Lines.{reached_in}
use Rattle.fuzz_command.specs.Settings.{Setting}

-- ---- words among others

pub among_same : (xs : List ℕ) → AreAmong xs xs
among_same xs word is = is

pub none_among : (xs : List ℕ) → AreAmong [] xs
none_among xs word is = absurd (cc)

pub among_is : (xs ys : List ℕ) → xs ≡ ys → AreAmong xs ys
among_is xs ys same = subst (λ (l : List ℕ). AreAmong xs l) same (among_same xs)

among_then : (xs ys zs : List ℕ) → AreAmong xs ys → AreAmong ys zs → AreAmong xs zs
among_then xs ys zs one other word is = other word (one word is)

one_of : (a b : Bool) → (a || b) ≡ true → (a ≡ true) ⊎ (b ≡ true)
one_of true b is = inl refl
one_of false b is = inr is

or_left : (a b : Bool) → a ≡ true → (a || b) ≡ true
or_left true b is = refl
or_left false b is = absurd (cc)

or_right : (a b : Bool) → b ≡ true → (a || b) ≡ true
or_right true b is = refl
or_right false b is = is

in_both : (xs ys : List ℕ) (word : ℕ) → is_reached word (xs ++ ys) ≡ (is_reached word xs || is_reached word ys)
in_both xs ys word = list_any-append (λ (other : ℕ). other == word) xs ys

pub among_first : (xs ys : List ℕ) → AreAmong xs (xs ++ ys)
among_first xs ys word is = in_both xs ys word ∙ or_left (is_reached word xs) (is_reached word ys) is

among_last : (xs ys : List ℕ) → AreAmong ys (xs ++ ys)
among_last xs ys word is = in_both xs ys word ∙ or_right (is_reached word xs) (is_reached word ys) is

among_both : (xs ys zs : List ℕ) → AreAmong xs zs → AreAmong ys zs → AreAmong (xs ++ ys) zs
among_both xs ys zs one other word is = by (one_of (is_reached word xs) (is_reached word ys) (sym (in_both xs ys word) ∙ is))
  where
    by : (is_reached word xs ≡ true) ⊎ (is_reached word ys ≡ true) → is_reached word zs ≡ true
    by (inl first) = one word first
    by (inr last) = other word last

-- more at the end
among_more : (xs ys zs : List ℕ) → AreAmong xs ys → AreAmong (xs ++ zs) (ys ++ zs)
among_more xs ys zs is = among_both xs zs (ys ++ zs) (among_then xs ys (ys ++ zs) is (among_first ys zs)) (among_last ys zs)

-- ---- what is handed over

pub hands_over : (s : Setting) (name input : List ℕ) (done : RunResult) (m : Resettable) → IsReadyMachine s m
    → done.reached.items ≡ but_for m.coverage.reached (reached_in s (record { name = name; input = input; ran = done.ran })) → HandsOver s m.coverage.reached name input done
hands_over s name input done m ready reached =
    record { known = m.coverage.reached; among = among_same m.coverage.reached; alone = ready.alone; reached = reached }

wider_in : (s : Setting) (few more name input : List ℕ) (outcome : Outcome) → AreAmong few more → HandsIn s few name input outcome → HandsIn s more name input outcome
wider_in s few more name input Waiting among is = tt
wider_in s few more name input (Done done) among is =
    record { known = is.known; among = among_then is.known few more is.among among; alone = is.alone; reached = is.reached }
wider_in s few more name input (Refused want) among is = tt

-- what holds behind some words holds behind more
pub wider : (s : Setting) (few more : List ℕ) (job : Job) → AreAmong few more → Hands s few job → Hands s more job
wider s few more job among is = wider_in s few more (job_name job) (job_input job) job.outcome among is

-- what is known behind some words is known behind more
pub known_wider : (few more now : List ℕ) (job : Job) → AreAmong few more → AreAmong now (few ++ handed job) → AreAmong now (more ++ handed job)
known_wider few more now job among is = among_then now (few ++ handed job) (more ++ handed job) is (among_more few more (handed job) among)

-- ---- inputs that are gone through

-- those before this index hand over what they do, each behind those before it
abbrev pub HandSoFar : Setting → List ℕ → List Job → ℕ → Type 0
HandSoFar s known jobs index = (i : ℕ) (d : Job) → i < index → Hands s (known ++ handed_over (take i jobs)) (get_or jobs i d)

pub hand_more : (s : Setting) (known mid : List ℕ) (jobs : List Job) (index : ℕ) (job : Job) → HandSoFar s known jobs index → index < length jobs
    → AreAmong mid (known ++ handed_over (take index jobs)) → Hands s mid job → HandSoFar s known (set jobs index job) (index + 1)
hand_more s known mid jobs index job so inside among is i d less = by (cases_lt i index)
  where
    by : (i < index) ⊎ (index ≤ i) → Hands s (known ++ handed_over (take i (set jobs index job))) (get_or (set jobs index job) i d)
    by (inl first) =
        subst (λ (l : List Job). Hands s (known ++ handed_over l) (get_or (set jobs index job) i d)) (sym (take-set-le i jobs index job (omega (arith, first))))
        (subst (λ (j : Job). Hands s (known ++ handed_over (take i jobs)) j) (sym (get_or-set_other jobs index i job d (λ same. omega (arith, first, same)))) (so i d first))
    by (inr past) =
        let same : i ≡ index = omega (arith, past, less) in
        let placed : Hands s (known ++ handed_over (take index jobs)) (get_or (set jobs index job) index d) =
        subst (λ (j : Job). Hands s (known ++ handed_over (take index jobs)) j) (sym (get_or-set_same jobs index job d inside)) (wider s mid (known ++ handed_over (take index jobs)) job among is) in
        subst (λ (k : ℕ). Hands s (known ++ handed_over (take k (set jobs index job))) (get_or (set jobs index job) k d)) (sym same)
        (subst (λ (l : List Job). Hands s (known ++ handed_over l) (get_or (set jobs index job) index d)) (sym (take-set jobs index job)) placed)

-- and what is known behind one more
pub known_more : (known mid now : List ℕ) (jobs : List Job) (index : ℕ) (job : Job) → index < length jobs → AreAmong mid (known ++ handed_over (take index jobs)) → AreAmong now (mid ++ handed job)
    → AreAmong now (known ++ handed_over (take (index + 1) (set jobs index job)))
known_more known mid now jobs index job inside among more =
    subst (λ (l : List ℕ). AreAmong now l) (sym joined)
    (among_then now (mid ++ handed job) ((known ++ handed_over (take index jobs)) ++ handed job) more (among_more mid (known ++ handed_over (take index jobs)) (handed job) among))
  where
    joined : known ++ handed_over (take (index + 1) (set jobs index job)) ≡ (known ++ handed_over (take index jobs)) ++ handed job
    joined =
        ap (λ (l : List Job). known ++ handed_over l) (take_more_set jobs index job inside)
        ∙ ap (λ (l : List ℕ). known ++ l) (flat_map-append handed (take index jobs) (job ∷ []) ∙ ap (λ (l : List ℕ). handed_over (take index jobs) ++ l) (append-nil (handed job)))
        ∙ sym (append_assoc known (handed_over (take index jobs)) (handed job))

-- ---- inputs in chunks

-- what a part of the first hands over is among what these do
handed_part : (known : List ℕ) (jobs : List Job) (at k : ℕ) → AreAmong (handed_over (take k (drop at jobs))) (known ++ handed_over (take (at + k) jobs))
handed_part known jobs at k =
    among_then part (handed_over (take (at + k) jobs)) (known ++ handed_over (take (at + k) jobs))
    (subst (λ (l : List ℕ). AreAmong part l) (sym joined) (among_last (handed_over (take at (take (at + k) jobs))) part))
    (among_last known (handed_over (take (at + k) jobs)))
  where
    part : List ℕ
    part = handed_over (take k (drop at jobs))

    joined : handed_over (take (at + k) jobs) ≡ handed_over (take at (take (at + k) jobs)) ++ part
    joined =
        ap handed_over (sym (take-append-drop at (take (at + k) jobs)))
        ∙ flat_map-append handed (take at (take (at + k) jobs)) (drop at (take (at + k) jobs))
        ∙ ap (λ (l : List Job). handed_over (take at (take (at + k) jobs)) ++ handed_over l) (drop-take at k jobs)

in_chunk : (s : Setting) (known : List ℕ) (jobs : List Job) (size at k : ℕ) (d : Job) → k < size
    → Hands s (handed_over (take k (take size (drop at jobs)))) (get_or (take size (drop at jobs)) k d) → Hands s (known ++ handed_over (take (at + k) jobs)) (get_or jobs (at + k) d)
in_chunk s known jobs size at k d within is =
    let few : k ≤ size = omega (arith, within) in
    let there : get_or (take size (drop at jobs)) k d ≡ get_or jobs (at + k) d = get_or-take size (drop at jobs) k d within ∙ get_or-drop at jobs k d in
    wider s (handed_over (take k (drop at jobs))) (known ++ handed_over (take (at + k) jobs)) (get_or jobs (at + k) d) (handed_part known jobs at k)
    (subst (λ (l : List Job). Hands s (handed_over l) (get_or jobs (at + k) d)) (take-take k size (drop at jobs) few)
    (subst (λ (j : Job). Hands s (handed_over (take k (take size (drop at jobs)))) j) there is))

-- what holds of each input behind those of its chunk holds of it behind all before it
pub in_chunks : (s : Setting) (known : List ℕ) (old new : List Job) (size : ℕ) → 0 < size
    → ((n : ℕ) → n * size < length old → (k : ℕ) (d : Job) → k < length (take size (drop (n * size) old))
    → Hands s (handed_over (take k (take size (drop (n * size) new)))) (get_or (take size (drop (n * size) new)) k d))
    → (i : ℕ) (d : Job) → i < length old → Hands s (known ++ handed_over (take i new)) (get_or new i d)
in_chunks s known old new size some each i d inside =
    let n = i / size in
    let k = i % size in
    let whole : n * size + k ≡ i = div-add-mod' i size in
    let within : k < size = mod_below i size some in
    let begun : n * size < length old = omega (arith, whole, inside) in
    let there : k < length (take size (drop (n * size) old)) = omega (arith, length-take size (drop (n * size) old), length-drop (n * size) old, whole, inside, within) in
    subst (λ (j : ℕ). Hands s (known ++ handed_over (take j new)) (get_or new j d)) whole (in_chunk s known new size (n * size) k d within (each n begun k d there))
