-- A line of bytes that are written.
use Rattle.std.proofs.Common.{◌≡◌, ℕ, ◌≤◌, List, length, refl, sym, arith, true, Option, Some, None}
use Rattle.std.specs.Prelude.{is_some, nat_le}
use Rattle.std.proofs.lemmas.Bool.Decides.{nat_tests}
use Rattle.line_words.specs.Bytes.{bytes_of}
use Rattle.line_words.specs.Numbers.{hexadecimal_of}
use Rattle.debugline.specs.Commands.{Write, IsWrite, data_of, write_of}
use Rattle.debugline.specs.Steps.{both}

by_bytes : (address : ℕ) (found : Option (List ℕ)) → is_some found ≡ true → IsWrite (both Write (Some address) found)
by_bytes address (Some bytes) h = (address, bytes, refl)
by_bytes address None h = absurd (cc)

pub a_write : (word digits : List ℕ) (address : ℕ) → Some address ≡ hexadecimal_of word → length digits ≤ 2048 → is_some (bytes_of digits) ≡ true → IsWrite (write_of word digits)
unfolding write_of data_of
a_write word digits address found few h =
    let short : nat_le (length digits) 2048 ≡ true = grind (arith, nat_tests, few) in
    rw (sym found, short) (by_bytes address (bytes_of digits) h)
