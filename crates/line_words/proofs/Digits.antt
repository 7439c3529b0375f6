-- The number that digits write, one digit after another.
use Rattle.std.proofs.Common.{◌≡◌, ℕ, ◌+◌, ◌*◌, ◌<◌, ◌≤◌, ◌⊎◌, inl, inr, List, [], ◌∷◌, arith, true, length, Some, None, ◌^◌, get_or, take, drop, drop-cons, add-one}
use Rattle.std.proofs.lemmas.List.Folds.{list_all_more}
use Rattle.std.specs.List.{list_all}
use Rattle.std.proofs.lemmas.Bool.Decides.{nat_tests}
use Rattle.line_words.specs.Numbers.{natural_of}
use Rattle.std.specs.Char.{digit_value, is_digit}
use Rattle.std.specs.Str.Parse.{digits_value, digits_value_after}

-- a number with a digit more is no smaller
more : (r n d : ℕ) → (r ≡ 10) ⊎ (r ≡ 16) → n ≤ n * r + d
more r n d (inl e) = rw e (omega arith)
more r n d (inr e) = rw e (omega arith)

-- nor with any digits more
pub grows : (r n : ℕ) (digits : List ℕ) → (r ≡ 10) ⊎ (r ≡ 16) → n ≤ digits_value_after r n digits
grows r n [] e = omega arith
grows r n (c ∷ cs) e = omega (arith, more r n (digit_value c) e, grows r (n * r + digit_value c) cs e)

-- a digit at a place, and those behind it
pub value_step : (r n : ℕ) (xs : List ℕ) (i : ℕ) → i < length xs → digits_value_after r (n * r + digit_value (get_or xs i 0)) (drop (i + 1) xs) ≡ digits_value_after r n (drop i xs)
value_step r n xs i h = rw (drop-cons xs i 0 h, add-one i)

-- one digit more is a digit
pub digit_step : (r : ℕ) (xs : List ℕ) (i : ℕ) → i < length xs → list_all (λ c. is_digit c r) (take i xs) ≡ true → digit_value (get_or xs i 0) < r → list_all (λ c. is_digit c r) (take (i + 1) xs) ≡ true
digit_step r xs i h all d = grind (arith, list_all_more (λ c. is_digit c r) xs i 0 h, all, d)

-- the number that digits write is no smaller than what the first of them write
pub reached : (r n : ℕ) (xs : List ℕ) (i : ℕ) → i < length xs → (r ≡ 10) ⊎ (r ≡ 16) → digits_value_after r n (drop i xs) ≡ digits_value r xs → n * r + digit_value (get_or xs i 0) ≤ digits_value r xs
reached r n xs i h e v = omega (arith, grows r (n * r + digit_value (get_or xs i 0)) (drop (i + 1) xs) e, value_step r n xs i h, v)

pub too_large : (r : ℕ) (xs : List ℕ) → 2 ^ 32 ≤ digits_value r xs → natural_of r xs ≡ None
unfolding natural_of
too_large r xs h = grind (arith, nat_tests, h)

pub read_whole : (r n : ℕ) (xs : List ℕ) → 0 < length xs → list_all (λ c. is_digit c r) xs ≡ true → n ≡ digits_value r xs → n < 2 ^ 32 → natural_of r xs ≡ Some n
unfolding natural_of
read_whole r n xs h all e small = grind (arith, nat_tests, h, all, e, small)
