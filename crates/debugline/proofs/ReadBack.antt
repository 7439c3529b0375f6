-- The digits of a reply, read again.
use Rattle.std.proofs.Common.{◌≡◌, ◌≢◌, ℕ, zero, suc, ◌+◌, ◌*◌, ◌/◌, ◌%◌, ◌^◌, ◌<◌, List, [], ◌∷◌, length, refl, sym, ◌∙◌, ap, subst, arith, Bool, true, false, Some, w32}
use Rattle.std.specs.Prelude.{◌==◌, ◌&&◌, slice_index}
use Rattle.std.specs.Char.{digit_value}
use Rattle.std.specs.Int.{to_be_bytes}
use Rattle.std.specs.List.{AllByRecursion}
use Rattle.std.specs.Str.Parse.{digits_value_after, AllDigits}
use Rattle.std.proofs.lemmas.Bool.Decides.{nat_tests}
use Rattle.hex.specs.Hex.{encode_with, encode_lower, lower_digits}
use Rattle.hex.proofs.HexLemmas.{length-encode_with}
use Rattle.line_words.specs.Numbers.{hexadecimal_of}
use Rattle.line_words.proofs.Written.{read_from_few}
use Rattle.debugline.specs.Replies.{word_digits}

-- the first digits of the table have their places as values
abbrev are_values : ℕ → Bool
are_values zero = true
are_values (suc n) = (digit_value (slice_index lower_digits n) == n) && are_values n

first_and : (a b : Bool) → (a && b) ≡ true → (a ≡ true) × (b ≡ true)
first_and true b h = (refl, h)
first_and false b h = absurd (cc)

by_last : (n d : ℕ) (b : Bool) → (d == n) ≡ b → (digit_value (slice_index lower_digits n) == n) ≡ true → (d < n → digit_value (slice_index lower_digits d) ≡ d) → d < suc n → digit_value (slice_index lower_digits d) ≡ d
by_last n d true e last earlier below =
    let same : d ≡ n = grind (arith, nat_tests, e) in
    let value : digit_value (slice_index lower_digits n) ≡ n = grind (arith, nat_tests, last) in
    subst (λ (m : ℕ). digit_value (slice_index lower_digits m) ≡ m) (sym same) value
by_last n d false e last earlier below = let other : d ≢ n = λ same. grind (arith, nat_tests, e, same) in earlier (omega arith)

value_at : (n d : ℕ) → are_values n ≡ true → d < n → digit_value (slice_index lower_digits d) ≡ d
value_at zero d h below = absurd (omega arith)
value_at (suc n) d h below = let both = first_and (digit_value (slice_index lower_digits n) == n) (are_values n) h in by_last n d (d == n) refl both.0 (λ within. value_at n d both.1 within) below

digit_of : (d : ℕ) → d < 16 → digit_value (slice_index lower_digits d) ≡ d
digit_of d below = value_at 16 d refl below

abbrev AreBytes : List ℕ → Type 0
AreBytes bytes = AllByRecursion (λ b. b < 256) bytes

digits_of : (bytes : List ℕ) → AreBytes bytes → AllDigits 16 (encode_lower bytes)
unfolding encode_with
digits_of [] h = tt
digits_of (b ∷ bytes) h =
    let high = digit_of (b / 16) (omega arith) in
    let low = digit_of (b % 16) (omega arith) in
    (omega arith, (omega arith, digits_of bytes h.1))

-- the number that bytes are, the highest first
abbrev bytes_after : ℕ → List ℕ → ℕ
bytes_after n [] = n
bytes_after n (b ∷ bytes) = bytes_after (n * 256 + b) bytes

value_of : (n : ℕ) (bytes : List ℕ) → AreBytes bytes → digits_value_after 16 n (encode_lower bytes) ≡ bytes_after n bytes
unfolding encode_with
value_of n [] h = refl
value_of n (b ∷ bytes) h =
    let high = digit_of (b / 16) (omega arith) in
    let low = digit_of (b % 16) (omega arith) in
    let first : (n * 16 + digit_value (slice_index lower_digits (b / 16))) * 16 + digit_value (slice_index lower_digits (b % 16)) ≡ n * 256 + b = omega arith in
    ap (λ (m : ℕ). digits_value_after 16 m (encode_lower bytes)) first ∙ value_of (n * 256 + b) bytes h.1

word_bytes : (word : ℕ) → AreBytes (to_be_bytes w32 word)
word_bytes word = (omega arith, (omega arith, (omega arith, (omega arith, tt))))

word_value : (word : ℕ) → word < 2 ^ 32 → word ≡ bytes_after 0 (to_be_bytes w32 word)
word_value word small = omega arith

pub eight_digits : (word : ℕ) → length (word_digits word) ≡ 8
eight_digits word = length-encode_with lower_digits (to_be_bytes w32 word)

pub word_again : (word : ℕ) → word < 2 ^ 32 → hexadecimal_of (word_digits word) ≡ Some word
word_again word small =
    let eight = eight_digits word in
    read_from_few (word_digits word) word
    (record { some = omega arith; digits = digits_of (to_be_bytes w32 word) (word_bytes word); value = word_value word small ∙ sym (value_of 0 (to_be_bytes w32 word) (word_bytes word)) })
    (omega arith)
