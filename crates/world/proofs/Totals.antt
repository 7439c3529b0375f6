-- What guests have together.
use Rattle.std.proofs.Common.{ℕ, ◌≡◌, ◌+◌, ◌≤◌, List, [], ◌∷◌, map, sum_by, refl, arith}
use Rattle.std.proofs.lemmas.List.Sums.{sum_by-cons}

pub each_at_most : {X : Type 0} (f g h : X → ℕ) → ((x : X) → f x ≤ g x + h x) → (xs : List X) → sum_by f xs ≤ sum_by g xs + sum_by h xs
each_at_most f g h most [] = omega arith
each_at_most f g h most (x ∷ xs) = omega (arith, most x, each_at_most f g h most xs, sum_by-cons f x xs, sum_by-cons g x xs, sum_by-cons h x xs)

pub sum_map : {X Y : Type 0} (f : X → Y) (of : Y → ℕ) (xs : List X) → sum_by of (map f xs) ≡ sum_by (λ x. of (f x)) xs
sum_map f of [] = refl
sum_map f of (x ∷ xs) = omega (arith, sum_map f of xs, sum_by-cons of (f x) (map f xs), sum_by-cons (λ y. of (f y)) x xs)
