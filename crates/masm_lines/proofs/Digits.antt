-- The number that digits write, where it is cut down to a limit after each digit.
use Rattle.std.proofs.Common.{◌≡◌, ℕ, ◌+◌, ◌*◌, ◌^◌, ◌<◌, ◌⊎◌, min, List, [], ◌∷◌, ◌∙◌, sym, ap, arith, inl, inr, true, length, get_or, take, drop, drop-cons, add-one, suc}
use Rattle.std.proofs.lemmas.List.Folds.{list_all_more}
use Rattle.std.specs.List.{list_all}
use Rattle.std.specs.Char.{digit_value, is_digit}
use Rattle.std.specs.Str.Parse.{digits_value_after}

-- one digit more, after a number that is cut down or not
step_10 : (n d : ℕ) → min (min n (2 ^ 40) * 10 + d) (2 ^ 40) ≡ min (n * 10 + d) (2 ^ 40)
step_10 n d = omega arith

step_16 : (n d : ℕ) → min (min n (2 ^ 40) * 16 + d) (2 ^ 40) ≡ min (n * 16 + d) (2 ^ 40)
step_16 n d = omega arith

step : (r n d : ℕ) → (r ≡ 10) ⊎ (r ≡ 16) → min (min n (2 ^ 40) * r + d) (2 ^ 40) ≡ min (n * r + d) (2 ^ 40)
step r n d (inl e) = rw e (step_10 n d)
step r n d (inr e) = rw e (step_16 n d)

-- the same of all digits that follow
pub cut_down : (r n : ℕ) (digits : List ℕ) → (r ≡ 10) ⊎ (r ≡ 16) → min (digits_value_after r (min n (2 ^ 40)) digits) (2 ^ 40) ≡ min (digits_value_after r n digits) (2 ^ 40)
cut_down r n [] e = omega arith
cut_down r n (c ∷ cs) e =
    sym (cut_down r (min n (2 ^ 40) * r + digit_value c) cs e)
    ∙ ap (λ m. min (digits_value_after r m cs) (2 ^ 40)) (step r n (digit_value c) e)
    ∙ cut_down r (n * r + digit_value c) cs e

-- a digit at a place, and those behind it
pub value_step : (r n m : ℕ) (xs : List ℕ) (i : ℕ) → (r ≡ 10) ⊎ (r ≡ 16) → i < length xs → m ≡ min (n * r + digit_value (get_or xs i 0)) (2 ^ 40) → min (digits_value_after r m (drop (i + 1) xs)) (2 ^ 40) ≡ min (digits_value_after r n (drop i xs)) (2 ^ 40)
value_step r n m xs i e h eq =
    rw (eq, drop-cons xs i 0 h, add-one i) (cut_down r (n * r + digit_value (get_or xs i 0)) (drop (suc i) xs) e)

-- one digit more is a digit
pub digit_step : (r : ℕ) (xs : List ℕ) (i : ℕ) → i < length xs → list_all (λ c. is_digit c r) (take i xs) ≡ true → digit_value (get_or xs i 0) < r → list_all (λ c. is_digit c r) (take (i + 1) xs) ≡ true
digit_step r xs i h all d = grind (arith, list_all_more (λ c. is_digit c r) xs i 0 h, all, d)
