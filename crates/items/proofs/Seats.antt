-- The items of one seat.
use Rattle.std.proofs.Common.{◌≡◌, ◌≢◌, ℕ, zero, suc, Bool, true, false, cond, eqb, List, [], ◌∷◌, ◌++◌, replicate, refl, ap, ◌∙◌}
use Rattle.std.proofs.lemmas.Bool.{eq-eqb, ne_eqb}
use Rattle.items.specs.declared.item.Item.{Item}
use Rattle.items.specs.Items.{own}
use Rattle.items.specs.Entries.{step_by, steps_of}

cond-append : (b : Bool) (i : Item) (xs ys : List Item) → cond b (i ∷ (xs ++ ys)) (xs ++ ys) ≡ cond b (i ∷ xs) xs ++ ys
cond-append true i xs ys = refl
cond-append false i xs ys = refl

pub own-append : (seat : ℕ) (xs ys : List Item) → own seat (xs ++ ys) ≡ own seat xs ++ own seat ys
own-append seat [] ys = refl
own-append seat (i ∷ xs) ys =
    ap (λ (l : List Item). cond (eqb i.seat seat) (i ∷ l) l) (own-append seat xs ys) ∙ cond-append (eqb i.seat seat) i (own seat xs) (own seat ys)

-- a step is among the steps of its own seat
own-steps : (seat n : ℕ) → own seat (replicate n (step_by seat)) ≡ replicate n (step_by seat)
own-steps seat zero = refl
own-steps seat (suc n) =
    let rest = own-steps seat n in
    rw (eq-eqb seat seat refl) (ap (λ (l : List Item). step_by seat ∷ l) rest)

-- and among no other's
own-others : (seat other n : ℕ) → seat ≢ other → own seat (replicate n (step_by other)) ≡ []
own-others seat other zero h = refl
own-others seat other (suc n) h =
    let rest = own-others seat other n h in
    rw (ne_eqb other seat (λ e. h (cc))) rest

pub own-steps_of : (seat n : ℕ) → own seat (steps_of seat n) ≡ steps_of seat n
unfolding steps_of
own-steps_of seat n = own-steps seat n

pub own-steps_of-other : (seat other n : ℕ) → seat ≢ other → own seat (steps_of other n) ≡ []
unfolding steps_of
own-steps_of-other seat other n h = own-others seat other n h
