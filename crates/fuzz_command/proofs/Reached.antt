-- Coverage of runs.
use Rattle.std.proofs.Common.{ℕ, zero, suc, ◌≡◌, ◌≤◌, ◌/◌, ◌==◌, ◌&&◌, ◌||◌, not, nat_lt, cond, if◌then◌else◌, ◌⊎◌, inl, inr, Bool, true, false, List, [], ◌∷◌, ◌++◌, append_assoc, length, length-append, take, drop, Option, Some, None, Result, Ok, Err, refl, sym, ap, subst, ◌∙◌, arith, ne_eqb}
use Rattle.std.specs.List.{filter}
use Rattle.std.proofs.lemmas.Bool.{cases_eq, true≢false}
use Rattle.std.proofs.lemmas.List.{append-nil}
use Rattle.std.proofs.lemmas.List.Elements.{filter-append}
use Rattle.std.proofs.lemmas.List.Folds.{list_any-append}
use Rattle.std.proofs.lemmas.List.Prefix.{front_rest}
use Rattle.mips_cp0.specs.declared.exception.Exc.{Exc}
use Rattle.mips_tlb.specs.declared.kind.Kind.TheVariants.{Fetch}
use Rattle.machine.specs.declared.access.Size.TheVariants.{Word}
use Rattle.machine.specs.Places.{place}
use Rattle.machine.specs.Step.{Machine}
use Rattle.runs.specs.Coverage.{CoverageIs, covered, is_more, is_reached, with_place, with_word}
use Rattle.runs.specs.Runs.{after_steps, fed}
use Rattle.reset_machine.specs.Watched.{Resettable}
use Rattle.fuzz_command.specs.Jobs.{IsReadyMachine, RunsAgain, but_for}
use Rattle.fuzz_command.specs.Lines.{Trial, reached_in}
use Rattle.fuzz_command.specs.Settings.{Setting, coverage_of}

-- it is told of the same words
word_told : (word : ℕ) (c : CoverageIs) → (with_word word c).words ≡ c.words
word_told word c = by (is_more word c)
  where
    by : (b : Bool) → (if b then record c { reached = c.reached ++ word ∷ [] } else c).words ≡ c.words
    by true = refl
    by false = refl

place_told : (led : Result ℕ Exc) (c : CoverageIs) → (with_place led c).words ≡ c.words
place_told (Ok at) c = word_told (at / 4) c
place_told (Err e) c = refl

as_many_told : (count : ℕ) (m : Machine) (c : CoverageIs) → (covered count m c).words ≡ c.words
as_many_told zero m c = refl
as_many_told (suc k) m c = place_told (place Fetch Word (after_steps k m).cpu (after_steps k m).cpu.pc) (covered k m c) ∙ as_many_told k m c

-- a machine that was ready goes back there after a run
pub again : (s : Setting) (old new : Resettable) (count : ℕ) (m : Machine) → IsReadyMachine s old → new.home ≡ old.home → new.coverage ≡ covered count m old.coverage → RunsAgain s new
again s old new count m ready home reached = record {
  home = home ∙ ready.home;
  words = ap (λ (c : CoverageIs). c.words) reached ∙ as_many_told count m old.coverage ∙ ready.words;
}

-- ---- the words that a run reaches behind words that are known

-- a word is not among those that are known
abbrev pub is_new : List ℕ → ℕ → Bool
is_new known word = not (is_reached word known)

-- a word that passes a test is among the words that pass it where it is among all
kept_first : (p : ℕ → Bool) (x word : ℕ) (xs : List ℕ) → p word ≡ true → is_reached word (filter p xs) ≡ is_reached word xs
    → is_reached word (filter p (x ∷ xs)) ≡ is_reached word (x ∷ xs)
kept_first p x word xs is rest = by (p x) refl (cases_eq x word)
  where
    by : (b : Bool) → p x ≡ b → (x ≡ word) ⊎ (x ≡ word → ⊥) → is_reached word (cond b (x ∷ filter p xs) (filter p xs)) ≡ ((x == word) || is_reached word xs)
    by true at either = ap (λ (r : Bool). (x == word) || r) rest
    by false at (inl same) = absurd (true≢false (sym is ∙ ap p (sym same) ∙ at))
    by false at (inr apart) = rest ∙ ap (λ (b : Bool). b || is_reached word xs) (sym (ne_eqb x word apart))

kept_as_reached : (p : ℕ → Bool) (xs : List ℕ) (word : ℕ) → p word ≡ true → is_reached word (filter p xs) ≡ is_reached word xs
kept_as_reached p [] word is = refl
kept_as_reached p (x ∷ xs) word is = kept_first p x word xs is (kept_as_reached p xs word is)

one_new : (known : List ℕ) (word : ℕ) (xs : List ℕ) → is_reached word known ≡ false → but_for known (xs ++ word ∷ []) ≡ but_for known xs ++ word ∷ []
one_new known word xs is = filter-append (is_new known) xs (word ∷ []) ∙ ap (λ (b : Bool). but_for known xs ++ cond (not b) (word ∷ []) []) is

none_new : (known : List ℕ) (word : ℕ) (xs : List ℕ) → is_reached word known ≡ true → but_for known (xs ++ word ∷ []) ≡ but_for known xs
none_new known word xs is =
    filter-append (is_new known) xs (word ∷ []) ∙ ap (λ (b : Bool). but_for known xs ++ cond (not b) (word ∷ []) []) is ∙ append-nil (but_for known xs)

abbrev pub added : ℕ → CoverageIs → CoverageIs
added word c = record c { reached = c.reached ++ word ∷ [] }

if_more : (word : ℕ) (c : CoverageIs) (a r : Bool) → nat_lt word c.words ≡ a → is_reached word c.reached ≡ r → with_word word c ≡ (if a && not r then added word c else c)
if_more word c a r told is =
    ap (λ (b : Bool). if b && not (is_reached word c.reached) then added word c else c) told ∙ ap (λ (b : Bool). if a && not b then added word c else c) is

-- a coverage that began with words that are known, beside one that began with none
record IsBehind (known : List ℕ) (c d : CoverageIs) : Type 0 where
  pub words : c.words ≡ d.words
  pub reached : c.reached ≡ known ++ but_for known d.reached

word_behind : (known : List ℕ) (word : ℕ) (c d : CoverageIs) → IsBehind known c d → IsBehind known (with_word word c) (with_word word d)
word_behind known word c d so = by (nat_lt word c.words) refl (is_reached word known) refl (is_reached word d.reached) refl
  where
    there : is_reached word c.reached ≡ (is_reached word known || is_reached word (but_for known d.reached))
    there = ap (is_reached word) so.reached ∙ list_any-append (λ (other : ℕ). other == word) known (but_for known d.reached)

    told : (a : Bool) → nat_lt word c.words ≡ a → nat_lt word d.words ≡ a
    told a at = ap (nat_lt word) (sym so.words) ∙ at

    known_too : is_reached word known ≡ true → is_reached word c.reached ≡ true
    known_too is = there ∙ ap (λ (b : Bool). b || is_reached word (but_for known d.reached)) is

    as_there : (r : Bool) → is_reached word known ≡ false → is_reached word d.reached ≡ r → is_reached word c.reached ≡ r
    as_there r is at = there ∙ ap (λ (b : Bool). b || is_reached word (but_for known d.reached)) is ∙ kept_as_reached (is_new known) d.reached word (ap not is) ∙ at

    pair : (c' d' : CoverageIs) → with_word word c ≡ c' → with_word word d ≡ d' → IsBehind known c' d' → IsBehind known (with_word word c) (with_word word d)
    pair c' d' one other is = subst (λ (x : CoverageIs). IsBehind known x (with_word word d)) (sym one) (subst (λ (x : CoverageIs). IsBehind known c' x) (sym other) is)

    by : (a : Bool) → nat_lt word c.words ≡ a → (k : Bool) → is_reached word known ≡ k → (r : Bool) → is_reached word d.reached ≡ r → IsBehind known (with_word word c) (with_word word d)
    by false at k known_is r reached_is =
        pair c d (if_more word c false (is_reached word c.reached) at refl) (if_more word d false r (told false at) reached_is) so
    by true at true known_is true reached_is =
        pair c d (if_more word c true true at (known_too known_is)) (if_more word d true true (told true at) reached_is) so
    by true at true known_is false reached_is =
        pair c (added word d) (if_more word c true true at (known_too known_is)) (if_more word d true false (told true at) reached_is)
        (record { words = so.words; reached = so.reached ∙ ap (λ (l : List ℕ). known ++ l) (sym (none_new known word d.reached known_is)) })
    by true at false known_is true reached_is =
        pair c d (if_more word c true true at (as_there true known_is reached_is)) (if_more word d true true (told true at) reached_is) so
    by true at false known_is false reached_is =
        pair (added word c) (added word d) (if_more word c true false at (as_there false known_is reached_is)) (if_more word d true false (told true at) reached_is)
        (record {
          words = so.words;
          reached = ap (λ (l : List ℕ). l ++ word ∷ []) so.reached ∙ append_assoc known (but_for known d.reached) (word ∷ [])
              ∙ ap (λ (l : List ℕ). known ++ l) (sym (one_new known word d.reached known_is));
        })

place_behind : (known : List ℕ) (led : Result ℕ Exc) (c d : CoverageIs) → IsBehind known c d → IsBehind known (with_place led c) (with_place led d)
place_behind known (Ok at) c d so = word_behind known (at / 4) c d so
place_behind known (Err e) c d so = so

steps_behind : (known : List ℕ) (count : ℕ) (m : Machine) (c d : CoverageIs) → IsBehind known c d → IsBehind known (covered count m c) (covered count m d)
steps_behind known zero m c d so = so
steps_behind known (suc k) m c d so =
    place_behind known (place Fetch Word (after_steps k m).cpu (after_steps k m).cpu.pc) (covered k m c) (covered k m d) (steps_behind known k m c d so)

new_behind : (count : ℕ) (m : Machine) (c d : CoverageIs) → c.words ≡ d.words → d.reached ≡ [] → (covered count m c).reached ≡ c.reached ++ but_for c.reached (covered count m d).reached
new_behind count m c d words none =
    (steps_behind c.reached count m c d (record { words = words; reached = sym (append-nil c.reached) ∙ ap (λ (l : List ℕ). c.reached ++ but_for c.reached l) (sym none) })).reached

-- ---- what a run leaves on a machine that was ready

-- what it knows is what it knew, and behind that the words of the run that it did not
pub known_then : (s : Setting) (t : Trial) (old : Resettable) (d : CoverageIs) → IsReadyMachine s old → d ≡ covered t.ran.steps (fed (take t.ran.taken t.input) old.machine) old.coverage
    → d.reached ≡ old.coverage.reached ++ but_for old.coverage.reached (reached_in s t)
known_then s t old d ready is =
    ap (λ (c : CoverageIs). c.reached) is
    ∙ ap (λ (m : Machine). (covered t.ran.steps (fed (take t.ran.taken t.input) m) old.coverage).reached) ready.machine
    ∙ new_behind t.ran.steps (fed (take t.ran.taken t.input) s.home) old.coverage (coverage_of s) ready.words refl

pub words_new : (s : Setting) (t : Trial) (old : Resettable) (d : CoverageIs) → IsReadyMachine s old → d ≡ covered t.ran.steps (fed (take t.ran.taken t.input) old.machine) old.coverage
    → drop (length old.coverage.reached) d.reached ≡ but_for old.coverage.reached (reached_in s t)
words_new s t old d ready is = front_rest d.reached old.coverage.reached (but_for old.coverage.reached (reached_in s t)) (known_then s t old d ready is)

pub known_within : (s : Setting) (t : Trial) (old : Resettable) (d : CoverageIs) → IsReadyMachine s old → d ≡ covered t.ran.steps (fed (take t.ran.taken t.input) old.machine) old.coverage
    → length old.coverage.reached ≤ length d.reached
known_within s t old d ready is =
    omega (arith, ap length (known_then s t old d ready is), length-append old.coverage.reached (but_for old.coverage.reached (reached_in s t)))

-- where none is known, all are new
all_new : (xs : List ℕ) → but_for [] xs ≡ xs
all_new [] = refl
all_new (x ∷ xs) = ap (λ (l : List ℕ). x ∷ l) (all_new xs)

-- the words that are shown are those of the run alone
pub words_shown : (s : Setting) (t : Trial) (old : Resettable) (d : CoverageIs) → IsReadyMachine s old → d ≡ covered t.ran.steps (fed (take t.ran.taken t.input) old.machine) old.coverage
    → (let o : Option (List ℕ) = if s.reached then Some d.reached else None in o) ≡ (let o : Option (List ℕ) = if s.reached then Some (reached_in s t) else None in o)
words_shown s t old d ready is =
    by s.reached (λ shown. known_then s t old d ready is ∙ ap (λ (l : List ℕ). l ++ but_for l (reached_in s t)) (ready.alone shown) ∙ all_new (reached_in s t))
  where
    by : (b : Bool) → (b ≡ true → d.reached ≡ reached_in s t)
        → (let o : Option (List ℕ) = if b then Some d.reached else None in o) ≡ (let o : Option (List ℕ) = if b then Some (reached_in s t) else None in o)
    by true same = ap (λ (xs : List ℕ). let o : Option (List ℕ) = Some xs in o) (same refl)
    by false same = refl
