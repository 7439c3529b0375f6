-- The rule of the tests: coins in purses.
use Rattle.std.specs.Prelude.{◌≡◌, ℕ, ◌+◌, List, [], ◌∷◌, ◌++◌}
use Rattle.std.specs.List.{sum_by}
use Rattle.ledger.specs.Shares.{LedgerId, ShareIs}
use Rattle.std.proofs.Common.{sym, ap, ◌∙◌}
use Rattle.std.proofs.Math.Nat.{add_left_comm, add-zero, zero-add}
use Rattle.std.proofs.lemmas.List.Sums.{sum_by-append}

abbrev pub counted : List ℕ → ℕ
counted coins = sum_by (λ n. n) coins

-- in all purses there are so many coins
abbrev pub AreCoins : ℕ → List ℕ → Type 0
AreCoins total coins = counted coins ≡ total

-- the share of a purse with so many
abbrev pub coins_in : LedgerId → ℕ → ShareIs ℕ
coins_in ledger coins = record { ledger = ledger; parts = coins ∷ [] }

-- all coins in the first of four purses
abbrev pub first_coins : ℕ → List ℕ
first_coins total = total ∷ 0 ∷ 0 ∷ 0 ∷ []

pub first_are_coins : (total : ℕ) → AreCoins total (first_coins total)
first_are_coins total = add-zero _ ∙ add-zero _ ∙ add-zero _ ∙ zero-add total

pub counted_in_any_order : (total : ℕ) (xs ys zs : List ℕ) → AreCoins total (xs ++ (ys ++ zs)) → AreCoins total (ys ++ (xs ++ zs))
counted_in_any_order total xs ys zs so =
    sum_by-append (λ n. n) ys (xs ++ zs) ∙ ap (λ (n : ℕ). counted ys + n) (sum_by-append (λ n. n) xs zs) ∙ add_left_comm (counted ys) (counted xs) (counted zs)
    ∙ ap (λ (n : ℕ). counted xs + n) (sym (sum_by-append (λ n. n) ys zs)) ∙ sym (sum_by-append (λ n. n) xs (ys ++ zs)) ∙ so
