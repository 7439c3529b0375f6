-- When a word is bytes.
use Rattle.std.proofs.Common.{◌≡◌, ℕ, ◌-◌, ◌*◌, ◌<◌, ◌%◌, List, [], ◌∷◌, length, refl, sym, ◌∙◌, ap, arith, Bool, true, false, Some, None, Result, Ok, Err}
use Rattle.std.specs.Prelude.{◌||◌, ◌&&◌, ◌==◌, nat_le, is_some, if◌then◌else◌, slice_index}
use Rattle.std.specs.Char.{is_ascii_hexdigit}
use Rattle.std.specs.List.{list_all}
use Rattle.std.specs.Result.{result_ok}
use Rattle.std.proofs.lemmas.Bool.Decides.{nat_tests}
use Rattle.std.proofs.lemmas.List.Sums.{AllPass-from_list_all, list_all-from_AllPass}
use Rattle.hex.specs.Hex.{decode_of, is_hex_digit}
use Rattle.hex.specs.declared.error.FromHexError.{FromHexError}
use Rattle.hex.proofs.HexLemmas.{decode_of-ok, decode_of-odd, decode_of-digits}
use Rattle.line_words.specs.Bytes.{bytes_of}

by_ranges : (a b d : Bool) (x y z : ℕ) → ((a || b) || d) ≡ is_some (if b then Some x else if d then Some y else if a then Some z else None)
by_ranges true true d x y z = refl
by_ranges true false true x y z = refl
by_ranges true false false x y z = refl
by_ranges false true d x y z = refl
by_ranges false false true x y z = refl
by_ranges false false false x y z = refl

same_digit : (c : ℕ) → is_ascii_hexdigit c ≡ is_hex_digit c
same_digit c = by_ranges (nat_le 48 c && nat_le c 57) (nat_le 65 c && nat_le c 70) (nat_le 97 c && nat_le c 102) (c - 55) (c - 87) (c - 48)

same_digits : (text : List ℕ) → list_all is_ascii_hexdigit text ≡ list_all is_hex_digit text
same_digits [] = refl
same_digits (c ∷ cs) = rw (same_digit c, same_digits cs) refl

pub no_bytes_in_nothing : (text : List ℕ) → length text ≡ 0 → is_some (bytes_of text) ≡ false
unfolding bytes_of
no_bytes_in_nothing text h = rw h refl

by_length : (b : Bool) (r : Result (List ℕ) FromHexError) → is_some (result_ok r) ≡ false → is_some (if b then None else result_ok r) ≡ false
by_length true r h = refl
by_length false r h = h

pub no_bytes_in_odd_digits : (text : List ℕ) → length text % 2 ≡ 1 → is_some (bytes_of text) ≡ false
unfolding bytes_of
no_bytes_in_odd_digits text odd = by_length (length text == 0) (decode_of text) (rw (decode_of-odd text odd) refl)

-- a result by the digits that it is of
digits_decode : (text : List ℕ) (b : Bool) (r : Result (List ℕ) FromHexError) → length text % 2 ≡ 0 → list_all is_hex_digit text ≡ b → decode_of text ≡ r → is_some (result_ok r) ≡ b
digits_decode text true (Ok bytes) even all is = refl
digits_decode text true (Err e) even all is = let found = decode_of-digits text even (AllPass-from_list_all is_hex_digit text all) in absurd (cc (is, found.1))
digits_decode text false (Ok bytes) even all is = let pass = list_all-from_AllPass is_hex_digit text ((decode_of-ok text bytes is).1) in absurd (cc (all, pass))
digits_decode text false (Err e) even all is = refl

pub bytes_in_even_digits : (text : List ℕ) → 0 < length text → length text % 2 ≡ 0 → list_all is_ascii_hexdigit text ≡ is_some (bytes_of text)
unfolding bytes_of
bytes_in_even_digits text some even =
    let full : (length text == 0) ≡ false = grind (arith, nat_tests, some) in
    rw full (same_digits text ∙ sym (digits_decode text (list_all is_hex_digit text) (decode_of text) even refl refl))

by_some : (b : Bool) (r : Result (List ℕ) FromHexError) (bytes : List ℕ) → is_some (if b then None else result_ok r) ≡ true → r ≡ Ok bytes → (if b then None else result_ok r) ≡ Some bytes
by_some true r bytes h e = absurd (cc)
by_some false r bytes h e = ap result_ok e

pub bytes_decoded : (text bytes : List ℕ) → is_some (bytes_of text) ≡ true → decode_of text ≡ Ok bytes → bytes_of text ≡ Some bytes
unfolding bytes_of
bytes_decoded text bytes h e = by_some (length text == 0) (decode_of text) bytes h e

-- what is read as bytes
read_as : (b : Bool) (r : Result (List ℕ) FromHexError) (bytes : List ℕ) → (if b then None else result_ok r) ≡ Some bytes → (b ≡ false) × (r ≡ Ok bytes)
read_as true r bytes h = absurd (cc)
read_as false (Ok found) bytes h = (refl, let same : found ≡ bytes = cc in ap Ok same)
read_as false (Err e) bytes h = absurd (cc)

pub decoded : (text bytes : List ℕ) → bytes_of text ≡ Some bytes → ((length text == 0) ≡ false) × (decode_of text ≡ Ok bytes)
unfolding bytes_of
decoded text bytes h = read_as (length text == 0) (decode_of text) bytes h

pub two_digits_each : (text bytes : List ℕ) → bytes_of text ≡ Some bytes → length text ≡ 2 * length bytes
two_digits_each text bytes h = (decode_of-ok text bytes ((decoded text bytes h).1)).2

pub one_at_least : (text bytes : List ℕ) → bytes_of text ≡ Some bytes → 0 < length bytes
one_at_least text bytes h =
    let full = (decoded text bytes h).0 in
    let some : 0 < length text = grind (arith, nat_tests, full) in
    let twice = two_digits_each text bytes h in
    omega arith

pub each_is_a_byte : (text bytes : List ℕ) → bytes_of text ≡ Some bytes → (i : ℕ) → slice_index bytes i < 256
each_is_a_byte text bytes h = (decode_of-ok text bytes ((decoded text bytes h).1)).3
