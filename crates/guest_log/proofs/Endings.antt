-- What one more item does to the run of steps that items end in, and to the number of runs.
use Rattle.std.proofs.Common.{ℕ, zero, suc, ◌≡◌, ◌≤◌, ◌+◌, ◌==◌, Bool, false, cond, ◌&&◌, ◌⊎◌, inl, inr, if◌then◌else◌, Option, Some, None, List, [], ◌∷◌, ◌++◌, refl, sym, ap, subst, ◌∙◌, arith, eq-eqb, ne_eqb, append_assoc, add-one}
use Rattle.std.specs.List.{last_or, suffix_len, prefix_len}
use Rattle.std.proofs.lemmas.Bool.{cases_Bool, cases_eq, and_right}
use Rattle.std.proofs.lemmas.List.{reverse-append}
use Rattle.items.specs.declared.item.Item.{Item}
use Rattle.items.specs.declared.item.What.{What}
use Rattle.items.specs.declared.item.What.TheVariants as what
use Rattle.items.specs.declared.entry.Entry.TheVariants as entry
use Rattle.items.specs.Items.{is_step}
use Rattle.items.specs.Entries.{step_by, steps_of}
use Rattle.items.proofs.Runs.{steps_of-one, steps_of-join}
use Rattle.guest_log.specs.Runs.{joins, added, run_count, run_ending, last_run}
use Rattle.guest_log.proofs.Counting.{run_count-append, added-same}

-- items are none, or have a last one
last_cases : (xs : List Item) → (xs ≡ []) ⊎ ((ys : List Item) × (y : Item) × (xs ≡ ys ++ y ∷ []))
last_cases [] = inl refl
last_cases (x ∷ xs) = elim (last_cases xs) [
  | inl none ↦ inr ([], x, ap (λ (l : List Item). x ∷ l) none)
  | inr some ↦ inr (x ∷ some.0, some.1, ap (λ (l : List Item). x ∷ l) some.2)
]

last_or-append : (o : Option Item) (xs : List Item) (x : Item) → last_or o (xs ++ x ∷ []) ≡ Some x
last_or-append o [] x = refl
last_or-append o (y ∷ xs) x = last_or-append (Some y) xs x

suffix_len-append : (p : Item → Bool) (xs : List Item) (x : Item) → suffix_len p (xs ++ x ∷ []) ≡ cond (p x) (1 + suffix_len p xs) 0
suffix_len-append p xs x = ap (prefix_len p) (reverse-append xs (x ∷ []))

-- whether the last item passes
last_passes : (Item → Bool) → Option Item → Bool
last_passes p None = false
last_passes p (Some i) = p i

-- where it does not, none from the end back do
suffix_none : (p : Item → Bool) (xs : List Item) → last_passes p (last_or None xs) ≡ false → suffix_len p xs ≡ 0
unfolding last_passes
suffix_none p xs e = elim (last_cases xs) [
  | inl none ↦ ap (suffix_len p) none
  | inr some ↦
      let last : last_or None xs ≡ Some some.1 = ap (last_or None) some.2 ∙ last_or-append None some.0 some.1 in
      let stops : p some.1 ≡ false = sym (ap (last_passes p) last) ∙ e in
      ap (suffix_len p) some.2 ∙ suffix_len-append p some.0 some.1 ∙ ap (λ (b : Bool). cond b (1 + suffix_len p some.0) 0) stops
]

last_run-append : (xs : List Item) (x : Item) → last_run (xs ++ x ∷ []) ≡ (if is_step x.what then Some (entry.Steps x.seat (cond (joins x x) (1 + suffix_len (joins x) xs) 0)) else None)
unfolding last_run
last_run-append xs x =
    ap (λ (o : Option Item). run_ending o (xs ++ x ∷ [])) (last_or-append None xs x)
    ∙ ap (λ (n : ℕ). if is_step x.what then Some (entry.Steps x.seat n) else None) (suffix_len-append (joins x) xs x)

last_run-step : (xs : List Item) (seat : ℕ) → last_run (xs ++ step_by seat ∷ []) ≡ Some (entry.Steps seat (1 + suffix_len (joins (step_by seat)) xs))
last_run-step xs seat =
    last_run-append xs (step_by seat)
    ∙ ap (λ (b : Bool). Some (entry.Steps seat (cond b (1 + suffix_len (joins (step_by seat)) xs) 0))) (eq-eqb seat seat refl)

-- where items end in no run, an item adds one, and a step begins one
added_to_none : (o : Option Item) (xs : List Item) → run_ending o xs ≡ None → (i : Item) → added o i ≡ 1
added_to_none None xs e i = refl
added_to_none (Some y) xs e i = elim (cases_Bool (is_step y.what)) [
  | inl step ↦ absurd (let some = ap (λ (b : Bool). if b then Some (entry.Steps y.seat (suffix_len (joins y) xs)) else None) step in cc)
  | inr other ↦ ap (λ (b : Bool). if b && (is_step i.what && (y.seat == i.seat)) then 0 else 1) other
]

passes_none : (o : Option Item) (xs : List Item) (seat : ℕ) → run_ending o xs ≡ None → last_passes (joins (step_by seat)) o ≡ false
unfolding last_passes
passes_none None xs seat e = refl
passes_none (Some y) xs seat e = elim (cases_Bool (is_step y.what)) [
  | inl step ↦ absurd (let some = ap (λ (b : Bool). if b then Some (entry.Steps y.seat (suffix_len (joins y) xs)) else None) step in cc)
  | inr other ↦ ap (λ (b : Bool). b && (seat == y.seat)) other
]

-- where they end in a run, the last item is a step of its seat, and the run is the steps of that seat from the end back
step_ends : (seat : ℕ) (w : What) (xs : List Item) (s n : ℕ) → run_ending (Some (record { seat = seat; what = w })) xs ≡ Some (entry.Steps s n)
    → (Some (record { seat = seat; what = w }) ≡ Some (step_by s)) × (suffix_len (joins (step_by s)) xs ≡ n)
step_ends seat what.Step xs s n e =
    let same : seat ≡ s = cc in
    let count : suffix_len (joins (step_by seat)) xs ≡ n = cc in
    (ap (λ (k : ℕ). Some (step_by k)) same, ap (λ (k : ℕ). suffix_len (joins (step_by k)) xs) (sym same) ∙ count)
step_ends seat (what.In byte) xs s n e = absurd (cc)
step_ends seat what.Drain xs s n e = absurd (cc)
step_ends seat (what.Target pages) xs s n e = absurd (cc)
step_ends seat (what.Poke register value) xs s n e = absurd (cc)
step_ends seat (what.Write address bytes) xs s n e = absurd (cc)

run_ends : (o : Option Item) (xs : List Item) (s n : ℕ) → run_ending o xs ≡ Some (entry.Steps s n) → (o ≡ Some (step_by s)) × (suffix_len (joins (step_by s)) xs ≡ n)
run_ends None xs s n e = absurd (cc)
run_ends (Some y) xs s n e = step_ends y.seat y.what xs s n e

-- one more item
count-more : (xs : List Item) (i : Item) (o : Option Item) (n : ℕ) → last_or None xs ≡ o → added o i ≡ n → run_count (xs ++ i ∷ []) ≡ run_count xs + n
count-more xs i o n last adds = run_count-append xs (i ∷ []) ∙ ap (λ (k : ℕ). run_count xs + k) (omega (arith, ap (λ (l : Option Item). added l i) last, adds))

-- a step after no run
pub run_begins : (xs : List Item) (seat : ℕ) → last_run xs ≡ None → last_run (xs ++ step_by seat ∷ []) ≡ Some (entry.Steps seat 1)
unfolding last_run
run_begins xs seat e =
    last_run-step xs seat
    ∙ ap (λ (k : ℕ). Some (entry.Steps seat (1 + k))) (suffix_none (joins (step_by seat)) xs (passes_none (last_or None xs) xs seat e))

pub count-begins : (xs : List Item) (i : Item) → last_run xs ≡ None → run_count (xs ++ i ∷ []) ≡ run_count xs + 1
unfolding last_run
count-begins xs i e = count-more xs i (last_or None xs) 1 refl (added_to_none (last_or None xs) xs e i)

-- a step after a run of its seat
pub run_grows : (xs : List Item) (seat n : ℕ) → last_run xs ≡ Some (entry.Steps seat n) → last_run (xs ++ step_by seat ∷ []) ≡ Some (entry.Steps seat (n + 1))
unfolding last_run
run_grows xs seat n e =
    let ends = run_ends (last_or None xs) xs seat n e in
    last_run-step xs seat ∙ ap (λ (k : ℕ). Some (entry.Steps seat k)) (omega (arith, ends.1))

pub count-grows : (xs : List Item) (seat n : ℕ) → last_run xs ≡ Some (entry.Steps seat n) → run_count (xs ++ step_by seat ∷ []) ≡ run_count xs
unfolding last_run
count-grows xs seat n e =
    let ends = run_ends (last_or None xs) xs seat n e in
    omega (arith, count-more xs (step_by seat) (Some (step_by seat)) 0 ends.0 (added-same seat))

-- a step after a run of another seat
pub run_follows : (xs : List Item) (seat n other : ℕ) → (seat ≡ other → ⊥) → last_run xs ≡ Some (entry.Steps seat n)
    → last_run (xs ++ step_by other ∷ []) ≡ Some (entry.Steps other 1)
unfolding last_run last_passes
run_follows xs seat n other differ e =
    let ends = run_ends (last_or None xs) xs seat n e in
    let stops : last_passes (joins (step_by other)) (last_or None xs) ≡ false =
    ap (last_passes (joins (step_by other))) ends.0 ∙ ne_eqb other seat (λ same. differ (sym same)) in
    last_run-step xs other ∙ ap (λ (k : ℕ). Some (entry.Steps other (1 + k))) (suffix_none (joins (step_by other)) xs stops)

pub count-follows : (xs : List Item) (seat n other : ℕ) → (seat ≡ other → ⊥) → last_run xs ≡ Some (entry.Steps seat n)
    → run_count (xs ++ step_by other ∷ []) ≡ run_count xs + 1
unfolding last_run
count-follows xs seat n other differ e =
    let ends = run_ends (last_or None xs) xs seat n e in
    count-more xs (step_by other) (Some (step_by seat)) 1 ends.0 (ap (λ (b : Bool). if b then 0 else 1) (ne_eqb seat other differ))

-- an item that is no step
pub run_stops : (xs : List Item) (i : Item) → is_step i.what ≡ false → last_run (xs ++ i ∷ []) ≡ None
run_stops xs i e =
    last_run-append xs i
    ∙ ap (λ (b : Bool). if b then Some (entry.Steps i.seat (cond (joins i i) (1 + suffix_len (joins i) xs) 0)) else None) e

other_adds : (o : Option Item) (i : Item) → is_step i.what ≡ false → added o i ≡ 1
other_adds None i e = refl
other_adds (Some y) i e =
    ap (λ (b : Bool). if is_step y.what && (b && (y.seat == i.seat)) then 0 else 1) e
    ∙ ap (λ (b : Bool). if b then 0 else 1) (and_right (is_step y.what) false refl)

pub count-stops : (xs : List Item) (i : Item) → is_step i.what ≡ false → run_count (xs ++ i ∷ []) ≡ run_count xs + 1
count-stops xs i e = count-more xs i (last_or None xs) 1 refl (other_adds (last_or None xs) i e)

-- steps that begin a run are the run that items end in with them
begins_passes : (o : Option Item) (seat : ℕ) → added o (step_by seat) ≡ 1 → last_passes (joins (step_by seat)) o ≡ false
unfolding last_passes
begins_passes None seat e = refl
begins_passes (Some y) seat e = elim (cases_Bool (is_step y.what)) [
  | inl step ↦ elim (cases_eq seat y.seat) [
    | inl same ↦ absurd (
        let joined : added (Some y) (step_by seat) ≡ 0 =
        ap (λ (b : Bool). if b && (y.seat == seat) then 0 else 1) step ∙ ap (λ (b : Bool). if b then 0 else 1) (eq-eqb y.seat seat (sym same)) in
        omega (arith, joined, e))
    | inr differ ↦ ap (λ (b : Bool). b && (seat == y.seat)) step ∙ ne_eqb seat y.seat differ
  ]
  | inr other ↦ ap (λ (b : Bool). b && (seat == y.seat)) other
]

first_of_run : (xs : List Item) (seat : ℕ) → added (last_or None xs) (step_by seat) ≡ 1 → last_run (xs ++ step_by seat ∷ []) ≡ Some (entry.Steps seat 1)
first_of_run xs seat e =
    last_run-step xs seat
    ∙ ap (λ (k : ℕ). Some (entry.Steps seat (1 + k))) (suffix_none (joins (step_by seat)) xs (begins_passes (last_or None xs) seat e))

whole_run : (front : List Item) (seat n : ℕ) → added (last_or None front) (step_by seat) ≡ 1 → last_run (front ++ steps_of seat (n + 1)) ≡ Some (entry.Steps seat (n + 1))
whole_run front seat zero e = ap (λ (l : List Item). last_run (front ++ l)) (steps_of-one seat) ∙ first_of_run front seat e
whole_run front seat (suc n) e =
    let shorter : last_run (front ++ steps_of seat (n + 1)) ≡ Some (entry.Steps seat (n + 1)) = whole_run front seat n e in
    let more = steps_of-join seat (n + 1) 1 ∙ ap (λ (l : List Item). steps_of seat (n + 1) ++ l) (steps_of-one seat) in
    let all : last_run (front ++ steps_of seat (n + 1 + 1)) ≡ Some (entry.Steps seat (n + 1 + 1)) =
    ap (λ (l : List Item). last_run (front ++ l)) more
    ∙ ap last_run (sym (append_assoc front (steps_of seat (n + 1)) (step_by seat ∷ [])))
    ∙ run_grows (front ++ steps_of seat (n + 1)) seat (n + 1) shorter in
    subst (λ (k : ℕ). last_run (front ++ steps_of seat (k + 1)) ≡ Some (entry.Steps seat (k + 1))) (add-one n) all

pub last_run-steps_of : (front : List Item) (seat n : ℕ) → 1 ≤ n → added (last_or None front) (step_by seat) ≡ 1 → last_run (front ++ steps_of seat n) ≡ Some (entry.Steps seat n)
last_run-steps_of front seat zero h e = absurd (omega arith)
last_run-steps_of front seat (suc n) h e =
    subst (λ (k : ℕ). last_run (front ++ steps_of seat k) ≡ Some (entry.Steps seat k)) (add-one n) (whole_run front seat n e)

pub last_run-none : last_run [] ≡ None
unfolding last_run
last_run-none = refl
