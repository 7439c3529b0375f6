-- Runs of joined items, and the items of a seat among them.
use Rattle.std.proofs.Common.{ℕ, ◌≡◌, ◌↔◌, ◌≤◌, ◌+◌, ◌==◌, Bool, true, false, if◌then◌else◌, List, [], ◌∷◌, ◌++◌, length, refl, ap, ◌∙◌, arith, eq-eqb}
use Rattle.machine.specs.Step.{Machine}
use Rattle.items.specs.declared.item.Item.{Item}
use Rattle.items.specs.Items.{own}
use Rattle.machine.specs.Items.{after, run, AllAccepted}

pub run_append : (earlier later : List Item) (m : Machine) → run (earlier ++ later) m ≡ run later (run earlier m)
run_append [] later m = refl
run_append (i ∷ earlier) later m = run_append earlier later (after i.what m)

pub accepted_append : (earlier later : List Item) (m : Machine) → AllAccepted (earlier ++ later) m ↔ (AllAccepted earlier m × AllAccepted later (run earlier m))
accepted_append [] later m = (λ all. (tt, all), λ both. both.1)
accepted_append (i ∷ earlier) later m =
    let rest = accepted_append earlier later (after i.what m) in
    (λ all. ((all.0, (rest.0 all.1).0), (rest.0 all.1).1), λ both. (both.0.0, rest.1 (both.0.1, both.1)))

kept_or_not : (b : Bool) (i : Item) (xs : List Item) → length (if b then i ∷ xs else xs) ≤ length xs + 1
kept_or_not true i xs = omega arith
kept_or_not false i xs = omega arith

-- a seat has made at most all items
pub length-own : (seat : ℕ) (items : List Item) → length (own seat items) ≤ length items
length-own seat [] = omega arith
length-own seat (i ∷ items) = omega (arith, kept_or_not (i.seat == seat) i (own seat items), length-own seat items)

one_or_none : (b : Bool) (i j : Item) (xs : List Item) → (if b then i ∷ (xs ++ j ∷ []) else (xs ++ j ∷ [])) ≡ (if b then i ∷ xs else xs) ++ j ∷ []
one_or_none true i j xs = refl
one_or_none false i j xs = refl

-- one more item of the seat's own
pub own-more : (seat : ℕ) (items : List Item) (i : Item) → i.seat ≡ seat → own seat (items ++ i ∷ []) ≡ own seat items ++ i ∷ []
own-more seat [] i e = ap (λ (b : Bool). if b then i ∷ [] else []) (eq-eqb i.seat seat e)
own-more seat (j ∷ items) i e =
    ap (λ (xs : List Item). if j.seat == seat then j ∷ xs else xs) (own-more seat items i e) ∙ one_or_none (j.seat == seat) j i (own seat items)
