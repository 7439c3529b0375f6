-- The number that digits write.
use Rattle.std.proofs.Common.{◌≡◌, ℕ, ◌<◌, ◌≤◌, ◌^◌, List, [], ◌∷◌, length, refl, sym, subst, arith, Bool, true, false, Option, Some, None, lit<}
use Rattle.std.specs.Prelude.{◌&&◌, nat_lt, nat_le, if◌then◌else◌}
use Rattle.std.specs.Char.{is_digit, digit_value}
use Rattle.std.specs.List.{list_all}
use Rattle.std.specs.Str.Parse.{digits_value, AllDigits}
use Rattle.std.proofs.Math.Nat.{pow-le-pow_right}
use Rattle.std.proofs.lemmas.Bool.Decides.{nat_tests}
use Rattle.std.proofs.lemmas.Int.Digits.{digits_value-lt}
use Rattle.line_words.specs.Numbers.{natural_of, hexadecimal_of, Writes}
use Rattle.line_words.proofs.Digits.{read_whole}

all_digits : (radix : ℕ) (text : List ℕ) → list_all (λ c. is_digit c radix) text ≡ true → AllDigits radix text
all_digits radix [] h = tt
all_digits radix (c ∷ cs) h = by_first (is_digit c radix) (list_all (λ d. is_digit d radix) cs) refl (all_digits radix cs) h
  where
    by_first : (a b : Bool) → is_digit c radix ≡ a → (b ≡ true → AllDigits radix cs) → (a && b) ≡ true → (digit_value c < radix) × AllDigits radix cs
    by_first true b is later e = (grind (arith, nat_tests, is), later e)
    by_first false b is later e = absurd (cc)

digits_all : (radix : ℕ) (text : List ℕ) → AllDigits radix text → list_all (λ c. is_digit c radix) text ≡ true
digits_all radix [] h = refl
digits_all radix (c ∷ cs) h = let first : is_digit c radix ≡ true = grind (arith, nat_tests, h.0) in rw (first, digits_all radix cs h.1) refl

-- a number that two tests let through
both_pass : (a b c : Bool) (x n : ℕ) → (if (a && b) && c then Some x else None) ≡ Some n → (a ≡ true) × (b ≡ true) × (c ≡ true) × (x ≡ n)
both_pass true true true x n e = (refl, refl, refl, cc)
both_pass true true false x n e = absurd (cc)
both_pass true false c x n e = absurd (cc)
both_pass false b c x n e = absurd (cc)

pub written : (radix : ℕ) (text : List ℕ) (n : ℕ) → natural_of radix text ≡ Some n → Writes radix text n × (n < 2 ^ 32)
unfolding natural_of
written radix text n e =
    let pass = both_pass (nat_lt 0 (length text)) (list_all (λ c. is_digit c radix) text) (nat_lt (digits_value radix text) (2 ^ 32)) (digits_value radix text) n e in
    let some = pass.0 in
    let small = pass.2 in
    let value : digits_value radix text ≡ n = pass.3 in
    let below : digits_value radix text < 2 ^ 32 = grind (arith, nat_tests, small) in
    (record { some = grind (arith, nat_tests, some); digits = all_digits radix text pass.1; value = sym value }, subst (λ (m : ℕ). m < 2 ^ 32) value below)

pub read : (radix : ℕ) (text : List ℕ) (n : ℕ) → Writes radix text n → n < 2 ^ 32 → natural_of radix text ≡ Some n
read radix text n h small = read_whole radix n text h.some (digits_all radix text h.digits) h.value small

-- a number of few digits
few_pass : (a : Bool) (found : Option ℕ) (n : ℕ) → (if a then found else None) ≡ Some n → (a ≡ true) × (found ≡ Some n)
few_pass true found n e = (refl, e)
few_pass false found n e = absurd (cc)

pub written_by_few : (text : List ℕ) (n : ℕ) → hexadecimal_of text ≡ Some n → Writes 16 text n × (length text ≤ 8)
unfolding hexadecimal_of
written_by_few text n e =
    let pass = few_pass (nat_le (length text) 8) (natural_of 16 text) n e in
    let few = pass.0 in
    ((written 16 text n pass.1).0, grind (arith, nat_tests, few))

few_are_small : (text : List ℕ) (n : ℕ) → Writes 16 text n → length text ≤ 8 → n < 2 ^ 32
few_are_small text n h few =
    let below = digits_value-lt 16 text h.digits in
    let most : 16 ^ length text ≤ 16 ^ 8 = pow-le-pow_right (lit< tt) few in
    let value = h.value in
    omega (arith, below, most, value)

pub read_from_few : (text : List ℕ) (n : ℕ) → Writes 16 text n → length text ≤ 8 → hexadecimal_of text ≡ Some n
unfolding hexadecimal_of
read_from_few text n h few =
    let pass : nat_le (length text) 8 ≡ true = grind (arith, nat_tests, few) in
    rw pass (read 16 text n h (few_are_small text n h few))
