-- Bytes and half-words as words with their sign copied (MIPS32 Architecture For Programmers, volume II, sign_extend).
use Rattle.std.specs.Prelude.{ℕ, ◌+◌, ◌-◌, ◌^◌, nat_lt, if◌then◌else◌}

abbrev pub sign_extended_byte : ℕ → ℕ
sign_extended_byte byte = if nat_lt byte (2 ^ 7) then byte else byte + (2 ^ 32 - 2 ^ 8)

abbrev pub sign_extended_half : ℕ → ℕ
sign_extended_half half = if nat_lt half (2 ^ 15) then half else half + (2 ^ 32 - 2 ^ 16)
