-- What is shown of bytes is printable.
use Rattle.std.proofs.Common.{◌≡◌, ℕ, ◌+◌, ◌/◌, ◌%◌, ◌<◌, ◌&&◌, nat_le, nat_lt, Bool, true, false, if◌then◌else◌, List, [], ◌∷◌, replicate, refl, arith}
use Rattle.std.specs.List.{All}
use Rattle.std.proofs.lemmas.List.Elements.{All-nil, All-cons, All-append, All-replicate}
use Rattle.std.proofs.lemmas.Bool.Decides.{nat_tests}
use Rattle.diagnosis.specs.Printable.{IsPrintable, caret_behind, digit, shown_byte, shown}

digit_either : (m : ℕ) (b : Bool) → m < 16 → IsPrintable (if b then 0x30 + m else 0x57 + m)
digit_either m true l = (omega arith, omega arith)
digit_either m false l = (omega arith, omega arith)

digit_printable : (n : ℕ) → IsPrintable (digit n)
digit_printable n = digit_either (n % 16) (nat_lt (n % 16) 10) (omega arith)

own_printable : (byte : ℕ) → (nat_le 0x20 byte && nat_lt byte 0x7f) ≡ true → IsPrintable byte
own_printable byte h = (grind (arith, nat_tests, h), grind (arith, nat_tests, h))

byte_either : (byte : ℕ) (b : Bool) → (b ≡ true → IsPrintable byte) → All IsPrintable (if b then byte ∷ [] else 0x5c ∷ 0x78 ∷ digit (byte / 16) ∷ digit (byte % 16) ∷ [])
byte_either byte true own = All-cons IsPrintable byte [] (own refl) (All-nil IsPrintable)
byte_either byte false own =
    let low = digit (byte % 16) in
    let high = digit (byte / 16) in
    let digits = All-cons IsPrintable high (low ∷ []) (digit_printable (byte / 16)) (All-cons IsPrintable low [] (digit_printable (byte % 16)) (All-nil IsPrintable)) in
    All-cons IsPrintable 0x5c (0x78 ∷ high ∷ low ∷ []) (omega arith, omega arith) (All-cons IsPrintable 0x78 (high ∷ low ∷ []) (omega arith, omega arith) digits)

byte_printable : (byte : ℕ) → All IsPrintable (shown_byte byte)
byte_printable byte = byte_either byte (nat_le 0x20 byte && nat_lt byte 0x7f) (own_printable byte)

pub shown_printable : (bytes : List ℕ) → All IsPrintable (shown bytes)
shown_printable [] = All-nil IsPrintable
shown_printable (b ∷ bs) = All-append IsPrintable (shown_byte b) (shown bs) (byte_printable b) (shown_printable bs)

pub caret_printable : (blanks : ℕ) → All IsPrintable (caret_behind blanks)
caret_printable blanks =
    All-append IsPrintable (replicate blanks 0x20) (0x5e ∷ []) (All-replicate IsPrintable blanks 0x20 (omega arith, omega arith)) (All-cons IsPrintable 0x5e [] (omega arith, omega arith) (All-nil IsPrintable))
