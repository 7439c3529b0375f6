-- A line of bytes for a console.
use Rattle.std.proofs.Common.{◌≡◌, ℕ, ◌<◌, List, refl, sym, arith, true, Option, Some, None}
use Rattle.std.specs.Prelude.{is_some, nat_lt}
use Rattle.std.proofs.lemmas.Bool.Decides.{nat_tests}
use Rattle.line_words.specs.Bytes.{bytes_of}
use Rattle.line_words.specs.Numbers.{decimal_of}
use Rattle.monitor.specs.Answers.{IsInput}
use Rattle.monitor.specs.Orders.{input_of}

by_bytes : (guests guest : ℕ) (word digits : List ℕ) (found : Option (List ℕ)) → Some guest ≡ decimal_of word → guest < guests → bytes_of digits ≡ found → is_some found ≡ true → IsInput (input_of guests word digits)
unfolding input_of
by_bytes guests guest word digits (Some bytes) number within is h =
    let here : nat_lt guest guests ≡ true = grind (arith, nat_tests, within) in
    (guest, bytes, rw (sym number, is, here) refl)
by_bytes guests guest word digits None number within is h = absurd (cc)

pub an_input : (guests guest : ℕ) (word digits : List ℕ) → Some guest ≡ decimal_of word → guest < guests → is_some (bytes_of digits) ≡ true → IsInput (input_of guests word digits)
an_input guests guest word digits number within h = by_bytes guests guest word digits (bytes_of digits) number within refl h
