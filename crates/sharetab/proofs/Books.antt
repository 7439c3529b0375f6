-- What changes in the books by a change of one entry.
use Rattle.std.proofs.Common.{ℕ, zero, suc, ◌≡◌, ◌+◌, ◌-◌, ◌<◌, ◌≤◌, ◌↔◌, inl, inr, Bool, true, false, List, [], ◌∷◌, length, set, Option, Some, None, refl, sym, ap, subst, ◌∙◌, arith}
use Rattle.std.specs.Prelude.{nat_lt, if◌then◌else◌, IsSome}
use Rattle.std.specs.Option.{option_to_list}
use Rattle.std.proofs.lemmas.Bool.{cases_eq, cases_lt}
use Rattle.std.proofs.lemmas.Bool.Decides.{nat_tests, Decides-ltb}
use Rattle.std.proofs.lemmas.List.{get_or-set_same, get_or-set_other, set-set, length-set}
use Rattle.std.proofs.lemmas.List.Sums.{sum_by-set, sum_by-cons}
use Rattle.frames.specs.Frames.{FrameIs, SharedIs}
use Rattle.frames.specs.Counts.{one_at, count_of}
use Rattle.frames.proofs.Counting.{one_same, one_other, count_one}
use Rattle.sharetab.specs.Entries.{EntriesAre, entry_at, tickets_of, count_at, frame_in, frames_shared, one_entry, entry_count, ticket_count, HasBytes, Fits, AllFit, one_ticket_more, one_ticket_less, freed_frame}
use Rattle.sharetab.specs.Books.{shared_once, Admits, Joins, Leaves, KeepBytes, freed_at}
use Rattle.sharetab.proofs.Tables.{there, one_set, tickets_set}

-- ---- one place

frames_set : (k : ℕ) (es : EntriesAre) (i : ℕ) (x : Option SharedIs) → i < length es → frames_shared k (set es i x) + frame_in k (entry_at es i) ≡ frames_shared k es + frame_in k x
frames_set k es i x inside = sum_by-set (frame_in k) es i x None inside

-- one ticket more at a place
count_more : (es : EntriesAre) (i k : ℕ) (x : Option SharedIs) → i < length es → tickets_of x ≡ count_at es i + 1 → count_at (set es i x) k ≡ count_at es k + one_at k i
count_more es i k x inside more =
    elim (cases_eq k i) [
      | inl same ↦
          let here : count_at (set es i x) k ≡ tickets_of x = ap (λ (n : ℕ). count_at (set es i x) n) same ∙ ap tickets_of (get_or-set_same es i x None inside) in
          let was : count_at es k ≡ count_at es i = ap (count_at es) same in
          let one : one_at k i ≡ 1 = ap (λ (n : ℕ). one_at n i) same ∙ one_same i in
          omega (arith, here, was, one, more)
      | inr apart ↦
          let stays : count_at (set es i x) k ≡ count_at es k = ap tickets_of (get_or-set_other es i k x None apart) in
          let none : one_at k i ≡ 0 = one_other k i (λ e. apart (sym e)) in
          omega (arith, stays, none)
    ]

-- one ticket less at a place
count_less : (es : EntriesAre) (i k : ℕ) (x : Option SharedIs) → i < length es → tickets_of x + 1 ≡ count_at es i → count_at (set es i x) k + one_at k i ≡ count_at es k
count_less es i k x inside less =
    elim (cases_eq k i) [
      | inl same ↦
          let here : count_at (set es i x) k ≡ tickets_of x = ap (λ (n : ℕ). count_at (set es i x) n) same ∙ ap tickets_of (get_or-set_same es i x None inside) in
          let was : count_at es k ≡ count_at es i = ap (count_at es) same in
          let one : one_at k i ≡ 1 = ap (λ (n : ℕ). one_at n i) same ∙ one_same i in
          omega (arith, here, was, one, less)
      | inr apart ↦
          let stays : count_at (set es i x) k ≡ count_at es k = ap tickets_of (get_or-set_other es i k x None apart) in
          let none : one_at k i ≡ 0 = one_other k i (λ e. apart (sym e)) in
          omega (arith, stays, none)
    ]

-- the bytes of each place, where the changed one keeps its own
bytes_set : (es : EntriesAre) (i k : ℕ) (x : Option SharedIs) (b : List ℕ) → i < length es → (k ≡ i → HasBytes b (entry_at es i) → HasBytes b x) → HasBytes b (entry_at es k) → HasBytes b (entry_at (set es i x) k)
bytes_set es i k x b inside keeps has =
    elim (cases_eq k i) [
      | inl same ↦
          let old : HasBytes b (entry_at es i) = subst (λ (n : ℕ). HasBytes b (entry_at es n)) same has in
          subst (HasBytes b) (sym (ap (entry_at (set es i x)) same ∙ get_or-set_same es i x None inside)) (keeps same old)
      | inr apart ↦ subst (HasBytes b) (sym (get_or-set_other es i k x None apart)) has
    ]

some_of : (o : Option SharedIs) → IsSome o → (e : SharedIs) × (o ≡ Some e)
some_of None some = let no : false ≡ true = some in absurd (cc)
some_of (Some e) some = (e, refl)

counted_some : (o : Option SharedIs) → 0 < tickets_of o → (e : SharedIs) × (o ≡ Some e)
counted_some None some = absurd (omega arith)
counted_some (Some e) some = (e, refl)

-- ---- a frame is admitted

pub admit_frames : (k : ℕ) (old new : EntriesAre) (frame : FrameIs) → Admits old frame new → frames_shared k new ≡ frames_shared k old + one_at k frame.number
admit_frames k old new frame a =
    let is : frames_shared k new ≡ frames_shared k (set old frame.number (Some (shared_once frame))) = ap (frames_shared k) a.entries in
    let none : frame_in k (entry_at old frame.number) ≡ 0 = ap (frame_in k) a.vacant in
    omega (arith, is, none, frames_set k old frame.number (Some (shared_once frame)) a.there)

pub admit_tickets : (k : ℕ) (old new : EntriesAre) (frame : FrameIs) → Admits old frame new → count_at new k ≡ count_at old k + one_at k frame.number
admit_tickets k old new frame a =
    let none : count_at old frame.number ≡ 0 = ap tickets_of a.vacant in
    ap (λ (es : EntriesAre). count_at es k) a.entries ∙ count_more old frame.number k (Some (shared_once frame)) a.there (omega (arith, none))

pub admit_entries : (old new : EntriesAre) (frame : FrameIs) → Admits old frame new → entry_count new ≡ entry_count old + 1
admit_entries old new frame a =
    let is : entry_count new ≡ entry_count (set old frame.number (Some (shared_once frame))) = ap entry_count a.entries in
    let none : one_entry (entry_at old frame.number) ≡ 0 = ap one_entry a.vacant in
    omega (arith, is, none, one_set old frame.number (Some (shared_once frame)) a.there)

pub admit_all_tickets : (old new : EntriesAre) (frame : FrameIs) → Admits old frame new → ticket_count new ≡ ticket_count old + 1
admit_all_tickets old new frame a =
    let is : ticket_count new ≡ ticket_count (set old frame.number (Some (shared_once frame))) = ap ticket_count a.entries in
    let none : count_at old frame.number ≡ 0 = ap tickets_of a.vacant in
    omega (arith, is, none, tickets_set old frame.number (Some (shared_once frame)) a.there)

pub admit_bytes : (old new : EntriesAre) (frame : FrameIs) → Admits old frame new → KeepBytes old new
admit_bytes old new frame a = λ k b _ has.
    subst (λ (es : EntriesAre). HasBytes b (entry_at es k)) (sym a.entries)
    (bytes_set old frame.number k (Some (shared_once frame)) b a.there (λ _ old_has. absurd (subst (HasBytes b) a.vacant old_has)) has)

pub admit_places : (old new : EntriesAre) (frame : FrameIs) → Admits old frame new → length new ≡ length old
admit_places old new frame a = ap length a.entries ∙ length-set old frame.number (Some (shared_once frame))

-- ---- a page joins

more_is : (e : SharedIs) (o : Option SharedIs) → o ≡ Some e → one_ticket_more o ≡ Some (record e { tickets = e.tickets + 1 })
more_is e o is = ap one_ticket_more is

pub join_frames : (k place : ℕ) (old new : EntriesAre) → Joins old place new → frames_shared k new ≡ frames_shared k old
join_frames k place old new j =
    let s = some_of (entry_at old place) j.there in
    let inside : place < length old = there old place s.0 s.1 in
    let is : frames_shared k new ≡ frames_shared k (set old place (one_ticket_more (entry_at old place))) = ap (frames_shared k) j.entries in
    let was : frame_in k (entry_at old place) ≡ one_at k s.0.number = ap (frame_in k) s.1 in
    let now : frame_in k (one_ticket_more (entry_at old place)) ≡ one_at k s.0.number = ap (frame_in k) (more_is s.0 (entry_at old place) s.1) in
    omega (arith, is, was, now, frames_set k old place (one_ticket_more (entry_at old place)) inside)

pub join_tickets : (k place : ℕ) (old new : EntriesAre) → Joins old place new → count_at new k ≡ count_at old k + one_at k place
join_tickets k place old new j =
    let s = some_of (entry_at old place) j.there in
    let inside : place < length old = there old place s.0 s.1 in
    let was : count_at old place ≡ s.0.tickets = ap tickets_of s.1 in
    let now : tickets_of (one_ticket_more (entry_at old place)) ≡ s.0.tickets + 1 = ap tickets_of (more_is s.0 (entry_at old place) s.1) in
    ap (λ (es : EntriesAre). count_at es k) j.entries ∙ count_more old place k (one_ticket_more (entry_at old place)) inside (omega (arith, was, now))

pub join_entries : (place : ℕ) (old new : EntriesAre) → Joins old place new → entry_count new ≡ entry_count old
join_entries place old new j =
    let s = some_of (entry_at old place) j.there in
    let inside : place < length old = there old place s.0 s.1 in
    let is : entry_count new ≡ entry_count (set old place (one_ticket_more (entry_at old place))) = ap entry_count j.entries in
    let was : one_entry (entry_at old place) ≡ 1 = ap one_entry s.1 in
    let now : one_entry (one_ticket_more (entry_at old place)) ≡ 1 = ap one_entry (more_is s.0 (entry_at old place) s.1) in
    omega (arith, is, was, now, one_set old place (one_ticket_more (entry_at old place)) inside)

pub join_all_tickets : (place : ℕ) (old new : EntriesAre) → Joins old place new → ticket_count new ≡ ticket_count old + 1
join_all_tickets place old new j =
    let s = some_of (entry_at old place) j.there in
    let inside : place < length old = there old place s.0 s.1 in
    let is : ticket_count new ≡ ticket_count (set old place (one_ticket_more (entry_at old place))) = ap ticket_count j.entries in
    let was : count_at old place ≡ s.0.tickets = ap tickets_of s.1 in
    let now : tickets_of (one_ticket_more (entry_at old place)) ≡ s.0.tickets + 1 = ap tickets_of (more_is s.0 (entry_at old place) s.1) in
    omega (arith, is, was, now, tickets_set old place (one_ticket_more (entry_at old place)) inside)

more_bytes : (b : List ℕ) (o : Option SharedIs) → HasBytes b o → HasBytes b (one_ticket_more o)
more_bytes b None has = has
more_bytes b (Some e) has = has

pub join_bytes : (place : ℕ) (old new : EntriesAre) → Joins old place new → KeepBytes old new
join_bytes place old new j = λ k b _ has.
    let s = some_of (entry_at old place) j.there in
    let inside : place < length old = there old place s.0 s.1 in
    subst (λ (es : EntriesAre). HasBytes b (entry_at es k)) (sym j.entries)
    (bytes_set old place k (one_ticket_more (entry_at old place)) b inside (λ _ old_has. more_bytes b (entry_at old place) old_has) has)

pub join_places : (place : ℕ) (old new : EntriesAre) → Joins old place new → length new ≡ length old
join_places place old new j = ap length j.entries ∙ length-set old place (one_ticket_more (entry_at old place))

-- ---- a ticket is taken back

pub less_more : (e : SharedIs) → 1 < e.tickets → one_ticket_less (Some e) ≡ Some (record e { tickets = e.tickets - 1 })
less_more e more = ap (λ (b : Bool). if b then Some (record e { tickets = e.tickets - 1 }) else None) ((Decides-ltb 1 e.tickets).1 more)

pub less_last : (e : SharedIs) → e.tickets ≤ 1 → one_ticket_less (Some e) ≡ None
less_last e last = ap (λ (b : Bool). if b then Some (record e { tickets = e.tickets - 1 }) else None) (not_more e.tickets last)
  where
    not_more : (t : ℕ) → t ≤ 1 → nat_lt 1 t ≡ false
    not_more t h = grind (arith, nat_tests)

pub freed_more : (e : SharedIs) → 1 < e.tickets → freed_frame (Some e) ≡ None
freed_more e more = ap (λ (b : Bool). if b then None else Some e.number) ((Decides-ltb 1 e.tickets).1 more)

pub freed_last : (e : SharedIs) → e.tickets ≤ 1 → freed_frame (Some e) ≡ Some e.number
freed_last e last = ap (λ (b : Bool). if b then None else Some e.number) (not_more e.tickets last)
  where
    not_more : (t : ℕ) → t ≤ 1 → nat_lt 1 t ≡ false
    not_more t h = grind (arith, nat_tests)

-- what is left of an entry, and its frame where that is free, are together what it was
pub record Splits (o : Option SharedIs) : Type 0 where
  pub frames : (k : ℕ) → frame_in k (one_ticket_less o) + count_of k (option_to_list (freed_frame o)) ≡ frame_in k o
  pub entries : one_entry (one_ticket_less o) + length (option_to_list (freed_frame o)) ≡ one_entry o
  pub tickets : tickets_of (one_ticket_less o) + 1 ≡ tickets_of o
  pub bytes : (b : List ℕ) → 0 < tickets_of (one_ticket_less o) → HasBytes b o → HasBytes b (one_ticket_less o)

splits_some : (e : SharedIs) → 0 < e.tickets → Splits (Some e)
splits_some e some =
    elim (cases_lt 1 e.tickets) [
      | inl more ↦
          let left = less_more e more in
          let free = freed_more e more in
          record {
            frames = λ k. omega (arith, ap (frame_in k) left, ap (λ (f : Option ℕ). count_of k (option_to_list f)) free);
            entries = omega (arith, ap one_entry left, ap (λ (f : Option ℕ). length (option_to_list f)) free);
            tickets = omega (arith, ap tickets_of left);
            bytes = λ b _ has. subst (HasBytes b) (sym left) has;
          }
      | inr last ↦
          let left = less_last e last in
          let free = freed_last e last in
          record {
            frames = λ k. omega (arith, ap (frame_in k) left, ap (λ (f : Option ℕ). count_of k (option_to_list f)) free, count_one k e.number);
            entries = omega (arith, ap one_entry left, ap (λ (f : Option ℕ). length (option_to_list f)) free);
            tickets = omega (arith, ap tickets_of left);
            bytes = λ b out has. let none : tickets_of (one_ticket_less (Some e)) ≡ 0 = ap tickets_of left in absurd (omega (arith, none, out));
          }
    ]

splits : (o : Option SharedIs) → 0 < tickets_of o → Splits o
splits None some = absurd (omega arith)
splits (Some e) some = splits_some e some

pub count_inside : (es : EntriesAre) (place : ℕ) → 0 < count_at es place → place < length es
count_inside es place some = let s = counted_some (entry_at es place) some in there es place s.0 s.1

pub leave_frames : (k place : ℕ) (old new : EntriesAre) → Leaves old place new → frames_shared k new + count_of k (freed_at old place) ≡ frames_shared k old
leave_frames k place old new l =
    let is : frames_shared k new ≡ frames_shared k (set old place (one_ticket_less (entry_at old place))) = ap (frames_shared k) l.entries in
    let s = (splits (entry_at old place) l.out).frames k in
    omega (arith, is, s, frames_set k old place (one_ticket_less (entry_at old place)) (count_inside old place l.out))

pub leave_tickets : (k place : ℕ) (old new : EntriesAre) → Leaves old place new → count_at new k + one_at k place ≡ count_at old k
leave_tickets k place old new l =
    ap (λ (es : EntriesAre). count_at es k + one_at k place) l.entries
    ∙ count_less old place k (one_ticket_less (entry_at old place)) (count_inside old place l.out) (splits (entry_at old place) l.out).tickets

pub leave_entries : (place : ℕ) (old new : EntriesAre) → Leaves old place new → entry_count new + length (freed_at old place) ≡ entry_count old
leave_entries place old new l =
    let is : entry_count new ≡ entry_count (set old place (one_ticket_less (entry_at old place))) = ap entry_count l.entries in
    let s = (splits (entry_at old place) l.out).entries in
    omega (arith, is, s, one_set old place (one_ticket_less (entry_at old place)) (count_inside old place l.out))

pub leave_all_tickets : (place : ℕ) (old new : EntriesAre) → Leaves old place new → ticket_count new + 1 ≡ ticket_count old
leave_all_tickets place old new l =
    let is : ticket_count new ≡ ticket_count (set old place (one_ticket_less (entry_at old place))) = ap ticket_count l.entries in
    let s = (splits (entry_at old place) l.out).tickets in
    omega (arith, is, s, tickets_set old place (one_ticket_less (entry_at old place)) (count_inside old place l.out))

pub leave_bytes : (place : ℕ) (old new : EntriesAre) → Leaves old place new → KeepBytes old new
leave_bytes place old new l = λ k b out has.
    let less = one_ticket_less (entry_at old place) in
    let inside = count_inside old place l.out in
    let still : k ≡ place → 0 < tickets_of less = λ same. subst (λ (n : ℕ). 0 < n) (ap (λ (es : EntriesAre). count_at es k) l.entries ∙ ap (λ (n : ℕ). count_at (set old place less) n) same ∙ ap tickets_of (get_or-set_same old place less None inside)) out in
    subst (λ (es : EntriesAre). HasBytes b (entry_at es k)) (sym l.entries)
    (bytes_set old place k less b inside (λ same old_has. (splits (entry_at old place) l.out).bytes b (still same) old_has) has)

pub leave_places : (place : ℕ) (old new : EntriesAre) → Leaves old place new → length new ≡ length old
leave_places place old new l = ap length l.entries ∙ length-set old place (one_ticket_less (entry_at old place))

-- what the last ticket leaves
pub last_left : (old es : EntriesAre) (t k : ℕ) (x y : SharedIs) (z : Option SharedIs) → old ≡ es → t ≡ k → 0 < count_at old t → entry_at es k ≡ Some x → y.tickets + 1 ≡ x.tickets → y.tickets ≡ 0 → z ≡ None → Leaves old t (set (set es k (Some y)) k z)
last_left old es t k x y z same ticket out at less none is =
    let at_old : entry_at old t ≡ Some x = ap (λ (l : EntriesAre). entry_at l t) same ∙ ap (entry_at es) ticket ∙ at in
    let left : one_ticket_less (entry_at old t) ≡ None = ap one_ticket_less at_old ∙ less_last x (omega (arith, less, none)) in
    record {
      out = out;
      entries = set-set es k (Some y) z ∙ ap (set es k) (is ∙ sym left) ∙ ap (λ (n : ℕ). set es n (one_ticket_less (entry_at old t))) (sym ticket) ∙ ap (λ (l : EntriesAre). set l t (one_ticket_less (entry_at old t))) (sym same);
    }

-- ---- each entry at its place

fits_entry : (k : ℕ) (o : Option SharedIs) → Fits k o → frame_in k o ≡ one_entry o
fits_entry k None fit = refl
fits_entry k (Some e) fit = ap (one_at k) fit.0 ∙ one_same k

fits_elsewhere : (k j : ℕ) (o : Option SharedIs) → Fits j o → (j ≡ k → ⊥) → frame_in k o ≡ 0
fits_elsewhere k j None fit apart = refl
fits_elsewhere k j (Some e) fit apart = one_other k e.number (λ same. apart (sym fit.0 ∙ same))

-- in the later places of places whose first has number a, the first has the next number
later : (a : ℕ) (o : Option SharedIs) (es : EntriesAre) → ((i : ℕ) → Fits (a + i) (entry_at (o ∷ es) i)) → (i : ℕ) → Fits (a + 1 + i) (entry_at es i)
later a o es all i = let e : a + suc i ≡ a + 1 + i = omega arith in subst (λ (n : ℕ). Fits n (entry_at es i)) e (all (suc i))

first_fits : (a : ℕ) (o : Option SharedIs) (es : EntriesAre) → ((i : ℕ) → Fits (a + i) (entry_at (o ∷ es) i)) → Fits a o
first_fits a o es all = let e : a + 0 ≡ a = omega arith in subst (λ (n : ℕ). Fits n o) e (all 0)

none_before : (k a : ℕ) (es : EntriesAre) → ((i : ℕ) → Fits (a + i) (entry_at es i)) → k < a → frames_shared k es ≡ 0
none_before k a [] all before = refl
none_before k a (o ∷ es) all before =
    let rest = none_before k (a + 1) es (later a o es all) (omega arith) in
    let first = fits_elsewhere k a o (first_fits a o es all) (λ same. absurd (omega arith)) in
    omega (arith, rest, first, sum_by-cons (frame_in k) o es)

found_from : (k a j : ℕ) (es : EntriesAre) → ((i : ℕ) → Fits (a + i) (entry_at es i)) → k ≡ a + j → frames_shared k es ≡ one_entry (entry_at es j)
found_from k a j [] all at = refl
found_from k a zero (o ∷ es) all at =
    let rest = none_before k (a + 1) es (later a o es all) (omega arith) in
    let is : a ≡ k = omega arith in
    let first = fits_entry k o (subst (λ (n : ℕ). Fits n o) is (first_fits a o es all)) in
    omega (arith, rest, first, sum_by-cons (frame_in k) o es)
found_from k a (suc j) (o ∷ es) all at =
    let rest = found_from k (a + 1) j es (later a o es all) (omega arith) in
    let first = fits_elsewhere k a o (first_fits a o es all) (λ same. absurd (omega arith)) in
    omega (arith, rest, first, sum_by-cons (frame_in k) o es)

pub frames_by_place : (k : ℕ) (es : EntriesAre) → AllFit es → frames_shared k es ≡ one_entry (entry_at es k)
frames_by_place k es all = found_from k 0 k es (λ i. let e : i ≡ 0 + i = omega arith in subst (λ (n : ℕ). Fits n (entry_at es i)) e (all i)) (omega arith)

pub tickets_by_place : (k : ℕ) (es : EntriesAre) → AllFit es → 0 < count_at es k ↔ (one_entry (entry_at es k) ≡ 1)
tickets_by_place k es all = by (entry_at es k) (all k)
  where
    by : (o : Option SharedIs) → Fits k o → (0 < tickets_of o) ↔ (one_entry o ≡ 1)
    by None fit = (λ some. absurd (omega arith), λ one. absurd (omega arith))
    by (Some e) fit = (λ some. refl, λ one. fit.1)

pub vacant_by_frames : (k : ℕ) (es : EntriesAre) → AllFit es → frames_shared k es ≡ 0 → entry_at es k ≡ None
vacant_by_frames k es all none = by (entry_at es k) (sym (frames_by_place k es all) ∙ none)
  where
    by : (o : Option SharedIs) → one_entry o ≡ 0 → o ≡ None
    by None zero_of = refl
    by (Some e) zero_of = absurd (omega (arith, zero_of))
