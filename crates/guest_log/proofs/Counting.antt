-- How many runs items need.
use Rattle.std.proofs.Common.{ℕ, zero, suc, ◌≡◌, ◌≤◌, ◌+◌, Bool, if◌then◌else◌, Option, Some, None, List, [], ◌∷◌, ◌++◌, length, replicate, refl, ap, arith, eq-eqb}
use Rattle.std.specs.List.{last_or}
use Rattle.std.proofs.lemmas.Bool.{cond_both}
use Rattle.items.specs.declared.item.Item.{Item}
use Rattle.items.specs.declared.entry.Entry.{Entry}
use Rattle.items.specs.declared.entry.Entry.TheVariants as entry
use Rattle.items.specs.Entries.{step_by, steps_of, items_in, items_of}
use Rattle.guest_log.specs.Runs.{joins, added, runs_after, run_count}

-- the items after the first part, whose last item is the one before them
pub runs_after-append : (o : Option Item) (xs ys : List Item) → runs_after o (xs ++ ys) ≡ runs_after o xs + runs_after (last_or o xs) ys
runs_after-append o [] ys = omega arith
runs_after-append o (x ∷ xs) ys = omega (arith, runs_after-append (Some x) xs ys)

pub run_count-append : (xs ys : List Item) → run_count (xs ++ ys) ≡ run_count xs + runs_after (last_or None xs) ys
run_count-append = runs_after-append None

added_at_most_one : (o : Option Item) (i : Item) → added o i ≤ 1
added_at_most_one None i = omega arith
added_at_most_one (Some earlier) i = cond_both (joins earlier i) 0 1 (λ (n : ℕ). n ≤ 1) (λ e. omega arith) (λ e. omega arith)

pub run_count-one_more : (items : List Item) (i : Item) → run_count (items ++ i ∷ []) ≤ run_count items + 1
run_count-one_more items i = omega (arith, run_count-append items (i ∷ []), added_at_most_one (last_or None items) i)

pub runs_after-le-length : (o : Option Item) (items : List Item) → runs_after o items ≤ length items
runs_after-le-length o [] = omega arith
runs_after-le-length o (i ∷ items) = omega (arith, added_at_most_one o i, runs_after-le-length (Some i) items)

-- a step adds no run after one of its seat
pub added-same : (seat : ℕ) → added (Some (step_by seat)) (step_by seat) ≡ 0
added-same seat = ap (λ (b : Bool). if b then 0 else 1) (eq-eqb seat seat refl)

-- so the steps after the first one add none
more_steps : (seat n : ℕ) → runs_after (Some (step_by seat)) (replicate n (step_by seat)) ≡ 0
more_steps seat zero = refl
more_steps seat (suc n) = omega (arith, added-same seat, more_steps seat n)

steps_add_one : (o : Option Item) (seat n : ℕ) → runs_after o (replicate n (step_by seat)) ≤ 1
steps_add_one o seat zero = omega arith
steps_add_one o seat (suc n) = omega (arith, added_at_most_one o (step_by seat), more_steps seat n)

steps_are_one : (seat n : ℕ) → 1 ≤ n → run_count (replicate n (step_by seat)) ≡ 1
steps_are_one seat zero h = absurd (omega arith)
steps_are_one seat (suc n) h = omega (arith, more_steps seat n)

pub run_count-steps_of : (seat n : ℕ) → 1 ≤ n → run_count (steps_of seat n) ≡ 1
unfolding steps_of
run_count-steps_of = steps_are_one

-- after the first of some steps of a seat the others add no run
more_run : (items : List Item) (seat n : ℕ) → run_count (items ++ replicate (suc n) (step_by seat)) ≡ run_count (items ++ step_by seat ∷ [])
more_run items seat n =
    omega (arith, run_count-append items (replicate (suc n) (step_by seat)), run_count-append items (step_by seat ∷ []), more_steps seat n)

pub run_count-run : (items : List Item) (seat n : ℕ) → 1 ≤ n → run_count (items ++ steps_of seat n) ≡ run_count (items ++ step_by seat ∷ [])
unfolding steps_of
run_count-run items seat zero some = absurd (omega arith)
run_count-run items seat (suc n) some = more_run items seat n

-- the items of one entry need at most one run
entry_adds_one : (o : Option Item) (e : Entry) → runs_after o (items_in e) ≤ 1
unfolding steps_of
entry_adds_one o (entry.Steps seat n) = steps_add_one o seat n
entry_adds_one o (entry.One i) = omega (arith, added_at_most_one o i)

pub runs_after-le-entries : (o : Option Item) (entries : List Entry) → runs_after o (items_of entries) ≤ length entries
runs_after-le-entries o [] = omega arith
runs_after-le-entries o (e ∷ entries) =
    omega (arith, runs_after-append o (items_in e) (items_of entries), entry_adds_one o e, runs_after-le-entries (last_or o (items_in e)) entries)
