-- Payments keep the coins that there are.
use Rattle.std.proofs.Common.{◌≡◌, ℕ, ◌+◌, ◌-◌, ◌≤◌, List, [], ◌∷◌, ◌++◌, ap, ◌∙◌, arith}
use Rattle.std.proofs.lemmas.List.Sums.{sum_by-cons}
use Rattle.ledger.specs.Shares.{AreOf, Become}
use Rattle.ledger.specs.Coins.{counted, AreCoins}

two : (a b : ℕ) (others : List ℕ) → counted (a ∷ b ∷ others) ≡ a + (b + counted others)
two a b others = sum_by-cons (λ n. n) a (b ∷ others) ∙ ap (λ (n : ℕ). a + n) (sum_by-cons (λ n. n) b others)

pub pays : (total a b amount : ℕ) (new : List ℕ) → amount ≤ a → new ≡ (a - amount) ∷ (b + amount) ∷ [] → Become (AreCoins total) (a ∷ b ∷ []) new
pays total a b amount new enough is others so =
    ap (λ (l : List ℕ). counted (l ++ others)) is ∙ two (a - amount) (b + amount) others ∙ omega (arith, enough, so, two a b others)

pub at_most : (total a b : ℕ) → AreOf (AreCoins total) (a ∷ b ∷ []) → a + b ≤ total
at_most total a b are = omega (arith, are.1, two a b are.0)
