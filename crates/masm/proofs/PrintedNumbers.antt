-- Numbers as they are printed, and as the grammar reads them.
use Rattle.std.proofs.Common.{◌≡◌, ℕ, ◌+◌, ◌-◌, ◌*◌, ◌^◌, ◌/◌, ◌%◌, ◌<◌, ◌≤◌, ◌⊎◌, inl, inr, min, zero, suc, ℤ, pos, negsuc, Bool, true, false, not, ◌==◌, List, [], ◌∷◌, ◌++◌, length, refl, ap, ◌∙◌, arith, subst, Some, codes, decimal, map}
use Rattle.std.specs.List.{list_all}
use Rattle.std.specs.Prelude.{slice_index}
use Rattle.std.specs.Char.{digit_value, is_digit}
use Rattle.std.specs.Fmt.{signed_decimal}
use Rattle.std.specs.Str.Parse.{AllDigits, digits_value, digits_value_after}
use Rattle.std.proofs.Math.Bool.{and-false}
use Rattle.std.proofs.lemmas.Bool.Decides.{nat_tests}
use Rattle.std.proofs.Math.Dec.{ltb}
use Rattle.std.proofs.lemmas.Bool.{lt-ltb}
use Rattle.std.proofs.lemmas.Fmt.{decimal_is_IsNumeral}
use Rattle.mips_instr.specs.Operands.{hex_digit, hex_byte, signed_half}
use Rattle.masm_lines.specs.Characters.{starts_name, is_open}
use Rattle.masm_lines.specs.Tokens.{is_name, natural_of, number_of}
use Rattle.masm.proofs.TakenApart.{is_solid}

-- what holds of each number below another, given of one after the other
abbrev pub AllBelow : (ℕ → Type 0) → ℕ → Type 0
AllBelow P zero = Unit {0}
AllBelow P (suc n) = AllBelow P n × P n

-- a number below the next one is below this one, or it
last_or_below : (r n : ℕ) → r < suc n → (r < n) ⊎ (n ≡ r)
last_or_below r n h = grind (arith, nat_tests)

-- so it holds of each
pub below : (P : ℕ → Type 0) (n : ℕ) → AllBelow P n → (r : ℕ) → r < n → P r
below P zero all r h = absurd (omega (arith, h))
below P (suc n) all r h = elim (last_or_below r n h) [
  | inl less ↦ below P n all.0 r less
  | inr same ↦ subst P same all.1
]

-- what the grammar asks of the character of a digit
pub record IsFigure (c : ℕ) : Type 0 where
  pub solid : is_solid c ≡ true
  pub closed : not (is_open c) ≡ true
  pub no_name : starts_name c ≡ false
  pub no_register : (c == 36) ≡ false
  pub no_minus : (c == 45) ≡ false
  pub no_x : (c == 120) ≡ false

-- each digit is such a character
figures : AllBelow (λ d. IsFigure (48 + d)) 10
figures =
    let is0 : IsFigure 48 = record { solid = refl; closed = refl; no_name = refl; no_register = refl; no_minus = refl; no_x = refl } in
    let is1 : IsFigure 49 = record { solid = refl; closed = refl; no_name = refl; no_register = refl; no_minus = refl; no_x = refl } in
    let is2 : IsFigure 50 = record { solid = refl; closed = refl; no_name = refl; no_register = refl; no_minus = refl; no_x = refl } in
    let is3 : IsFigure 51 = record { solid = refl; closed = refl; no_name = refl; no_register = refl; no_minus = refl; no_x = refl } in
    let is4 : IsFigure 52 = record { solid = refl; closed = refl; no_name = refl; no_register = refl; no_minus = refl; no_x = refl } in
    let is5 : IsFigure 53 = record { solid = refl; closed = refl; no_name = refl; no_register = refl; no_minus = refl; no_x = refl } in
    let is6 : IsFigure 54 = record { solid = refl; closed = refl; no_name = refl; no_register = refl; no_minus = refl; no_x = refl } in
    let is7 : IsFigure 55 = record { solid = refl; closed = refl; no_name = refl; no_register = refl; no_minus = refl; no_x = refl } in
    let is8 : IsFigure 56 = record { solid = refl; closed = refl; no_name = refl; no_register = refl; no_minus = refl; no_x = refl } in
    let is9 : IsFigure 57 = record { solid = refl; closed = refl; no_name = refl; no_register = refl; no_minus = refl; no_x = refl } in
    ((((((((((tt, is0), is1), is2), is3), is4), is5), is6), is7), is8), is9)

-- the characters of digits are 48 to 57
digit_range : (c : ℕ) → digit_value c < 10 → (48 ≤ c) × (c < 58)
digit_range c h = grind (arith, nat_tests, h)

-- a character that is worth less than 10 is a digit
figure_of : (c : ℕ) → digit_value c < 10 → IsFigure c
figure_of c h =
    let range = digit_range c h in
    let same : 48 + (c - 48) ≡ c = omega arith in
    subst IsFigure same (below (λ d. IsFigure (48 + d)) 10 figures (c - 48) (omega arith))

-- a test that each digit passes
digits_pass : (p : ℕ → Bool) → ((c : ℕ) → IsFigure c → p c ≡ true) → (ds : List ℕ) → AllDigits 10 ds → list_all p ds ≡ true
digits_pass p f [] all = refl
digits_pass p f (c ∷ cs) all = rw (f c (figure_of c all.0)) (digits_pass p f cs all.1)

-- all of a text of digits are digits of the radix
digits_are : (radix : ℕ) (ds : List ℕ) → AllDigits radix ds → list_all (λ c. is_digit c radix) ds ≡ true
digits_are radix [] all = refl
digits_are radix (c ∷ cs) all = rw (lt-ltb (digit_value c) radix all.0) (digits_are radix cs all.1)

-- the number that digits write, where it is small
digits_read : (radix n : ℕ) (ds : List ℕ) → 0 < length ds → AllDigits radix ds → digits_value radix ds ≡ n → n < 2 ^ 40 → natural_of radix ds ≡ Some n
unfolding natural_of
digits_read radix n ds some all value small =
    let least : min n (2 ^ 40) ≡ n = omega arith in
    rw (lt-ltb 0 (length ds) some, digits_are radix ds all, value, least) refl

-- a text that the grammar reads as a number, wherever it stands
pub record IsNumber (text : List ℕ) (z : ℤ) : Type 0 where
  pub some : 0 < length text
  pub solid : list_all is_solid text ≡ true
  pub closed : list_all (λ c. not (is_open c)) text ≡ true
  pub no_name : is_name text ≡ false
  pub no_register : (slice_index text 0 == 36) ≡ false
  pub no_name_before : (more : List ℕ) → is_name (text ++ more) ≡ false
  pub no_register_before : (more : List ℕ) → (slice_index (text ++ more) 0 == 36) ≡ false
  pub reads : number_of text ≡ Some z

-- decimal digits begin with no `-` and no `0x`
no_minus_or_x : (c : ℕ) (cs : List ℕ) (n : ℕ) → IsFigure c → AllDigits 10 cs → natural_of 10 (c ∷ cs) ≡ Some n → number_of (c ∷ cs) ≡ Some (pos n)
unfolding number_of
no_minus_or_x c [] n is all h = rw (is.no_minus, and-false (c == 48), h) refl
no_minus_or_x c (e ∷ es) n is all h = rw (is.no_minus, (figure_of e all.0).no_x, and-false (c == 48), h) refl

-- decimal digits are a number
natural_number : (n : ℕ) (ds : List ℕ) → 0 < length ds → AllDigits 10 ds → digits_value 10 ds ≡ n → n < 2 ^ 40 → IsNumber ds (pos n)
natural_number n [] some all value small = absurd (omega (arith, some))
natural_number n (c ∷ cs) some all value small =
    let first = figure_of c all.0 in
    record {
      some = some;
      solid = digits_pass is_solid (λ d is. is.solid) (c ∷ cs) all;
      closed = digits_pass (λ d. not (is_open d)) (λ d is. is.closed) (c ∷ cs) all;
      no_name = rw first.no_name refl;
      no_register = first.no_register;
      no_name_before = λ more. rw first.no_name refl;
      no_register_before = λ more. first.no_register;
      reads = no_minus_or_x c cs n first all.1 (digits_read 10 n (c ∷ cs) some all value small);
    }

-- a natural number in decimal is a number
pub decimal_number : (n : ℕ) → n < 2 ^ 40 → IsNumber (decimal n) (pos n)
decimal_number n h =
    let is = decimal_is_IsNumeral n (omega arith) in
    natural_number n (decimal n) is.0.0 is.0.1 is.1 h

-- a negative number in decimal is a number
negative_number : (n : ℕ) → suc n < 2 ^ 40 → IsNumber (45 ∷ decimal (suc n)) (negsuc n)
unfolding number_of
negative_number n h =
    let is = decimal_is_IsNumeral (suc n) (omega arith) in
    record {
      some = omega arith;
      solid = digits_pass is_solid (λ d is. is.solid) (decimal (suc n)) is.0.1;
      closed = digits_pass (λ d. not (is_open d)) (λ d is. is.closed) (decimal (suc n)) is.0.1;
      no_name = refl;
      no_register = refl;
      no_name_before = λ more. refl;
      no_register_before = λ more. refl;
      reads = rw (digits_read 10 (suc n) (decimal (suc n)) is.0.0 is.0.1 is.1 h) refl;
    }

-- the test of a half-word from 2^15 on
pub at_least : (n : ℕ) → 32768 ≤ n → ltb n 32768 ≡ false
at_least n h = grind (arith, nat_tests)

-- a half-word is below 2^15 or not
pub half_or_more : (n : ℕ) → (n < 32768) ⊎ (32768 ≤ n)
half_or_more n = grind (arith, nat_tests)

-- a signed half-word in decimal is a number
pub half_number : (n : ℕ) → n < 2 ^ 16 → IsNumber (signed_decimal (signed_half n)) (signed_half n)
half_number n h = elim (half_or_more n) [
  | inl less ↦ rw (lt-ltb n 32768 less) (decimal_number n (omega arith))
  | inr more ↦ rw (at_least n more) (negative_number (2 ^ 16 - suc n) (omega arith))
]

-- what the grammar asks of the character of a hexadecimal digit
pub record IsHex (d : ℕ) : Type 0 where
  pub solid : is_solid (hex_digit d) ≡ true
  pub closed : not (is_open (hex_digit d)) ≡ true
  pub value : digit_value (hex_digit d) ≡ d

-- each hexadecimal digit is such a character
hexes : AllBelow IsHex 16
hexes =
    let is0 : IsHex 0 = record { solid = refl; closed = refl; value = refl } in
    let is1 : IsHex 1 = record { solid = refl; closed = refl; value = refl } in
    let is2 : IsHex 2 = record { solid = refl; closed = refl; value = refl } in
    let is3 : IsHex 3 = record { solid = refl; closed = refl; value = refl } in
    let is4 : IsHex 4 = record { solid = refl; closed = refl; value = refl } in
    let is5 : IsHex 5 = record { solid = refl; closed = refl; value = refl } in
    let is6 : IsHex 6 = record { solid = refl; closed = refl; value = refl } in
    let is7 : IsHex 7 = record { solid = refl; closed = refl; value = refl } in
    let is8 : IsHex 8 = record { solid = refl; closed = refl; value = refl } in
    let is9 : IsHex 9 = record { solid = refl; closed = refl; value = refl } in
    let is10 : IsHex 10 = record { solid = refl; closed = refl; value = refl } in
    let is11 : IsHex 11 = record { solid = refl; closed = refl; value = refl } in
    let is12 : IsHex 12 = record { solid = refl; closed = refl; value = refl } in
    let is13 : IsHex 13 = record { solid = refl; closed = refl; value = refl } in
    let is14 : IsHex 14 = record { solid = refl; closed = refl; value = refl } in
    let is15 : IsHex 15 = record { solid = refl; closed = refl; value = refl } in
    ((((((((((((((((tt, is0), is1), is2), is3), is4), is5), is6), is7), is8), is9), is10), is11), is12), is13), is14), is15)

-- digits below 16
abbrev pub AreHex : List ℕ → Type 0
AreHex [] = Unit {0}
AreHex (d ∷ ds) = (d < 16) × AreHex ds

-- the number that digits write behind another
abbrev pub number_behind : ℕ → List ℕ → ℕ
number_behind n [] = n
number_behind n (d ∷ ds) = number_behind (n * 16 + d) ds

-- a test that each hexadecimal digit passes
hex_pass : (p : ℕ → Bool) → ((d : ℕ) → IsHex d → p (hex_digit d) ≡ true) → (ds : List ℕ) → AreHex ds → list_all p (map hex_digit ds) ≡ true
hex_pass p f [] all = refl
hex_pass p f (d ∷ ds) all = rw (f d (below IsHex 16 hexes d all.0)) (hex_pass p f ds all.1)

-- hexadecimal digits are digits of radix 16
hex_digits : (ds : List ℕ) → AreHex ds → AllDigits 16 (map hex_digit ds)
hex_digits [] all = tt
hex_digits (d ∷ ds) all = (rw (below IsHex 16 hexes d all.0).value all.0, hex_digits ds all.1)

-- their value is the number that they write
hex_value : (n : ℕ) (ds : List ℕ) → AreHex ds → digits_value_after 16 n (map hex_digit ds) ≡ number_behind n ds
hex_value n [] all = refl
hex_value n (d ∷ ds) all = ap (λ k. digits_value_after 16 (n * 16 + k) (map hex_digit ds)) (below IsHex 16 hexes d all.0).value ∙ hex_value (n * 16 + d) ds all.1

-- `0x` and hexadecimal digits are a number
hex_number : (n : ℕ) (d : ℕ) (ds : List ℕ) → AreHex (d ∷ ds) → number_behind 0 (d ∷ ds) ≡ n → n < 2 ^ 40 → IsNumber (48 ∷ 120 ∷ map hex_digit (d ∷ ds)) (pos n)
unfolding number_of
hex_number n d ds all value small = record {
  some = omega arith;
  solid = hex_pass is_solid (λ e is. is.solid) (d ∷ ds) all;
  closed = hex_pass (λ c. not (is_open c)) (λ e is. is.closed) (d ∷ ds) all;
  no_name = refl;
  no_register = refl;
  no_name_before = λ more. refl;
  no_register_before = λ more. refl;
  reads = rw (digits_read 16 n (map hex_digit (d ∷ ds)) (omega arith) (hex_digits (d ∷ ds) all) (hex_value 0 (d ∷ ds) all ∙ value) small) refl;
}

-- a half-word in hexadecimal is a number
pub hex_half_number : (n : ℕ) → n < 2 ^ 16 → IsNumber (codes "0x" ++ hex_byte (n / 2 ^ 8) ++ hex_byte (n % 2 ^ 8)) (pos n)
hex_half_number n h =
    hex_number n (n / 2 ^ 8 / 16) (n / 2 ^ 8 % 16 ∷ n % 2 ^ 8 / 16 ∷ n % 2 ^ 8 % 16 ∷ [])
    (omega arith, (omega arith, (omega arith, (omega arith, tt)))) (omega arith) (omega arith)

-- a word in hexadecimal is a number
pub hex_word_number : (n : ℕ) → n < 2 ^ 32 → IsNumber (codes "0x" ++ hex_byte (n / 2 ^ 24) ++ hex_byte (n / 2 ^ 16 % 2 ^ 8) ++ hex_byte (n / 2 ^ 8 % 2 ^ 8) ++ hex_byte (n % 2 ^ 8)) (pos n)
hex_word_number n h =
    hex_number n (n / 2 ^ 24 / 16) (n / 2 ^ 24 % 16 ∷ n / 2 ^ 16 % 2 ^ 8 / 16 ∷ n / 2 ^ 16 % 2 ^ 8 % 16 ∷ n / 2 ^ 8 % 2 ^ 8 / 16 ∷ n / 2 ^ 8 % 2 ^ 8 % 16 ∷ n % 2 ^ 8 / 16 ∷ n % 2 ^ 8 % 16 ∷ [])
    (omega arith, (omega arith, (omega arith, (omega arith, (omega arith, (omega arith, (omega arith, (omega arith, tt)))))))) (omega arith) (omega arith)
