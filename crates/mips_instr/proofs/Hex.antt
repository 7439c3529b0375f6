-- What the formatter writes of a byte with two hexadecimal digits.
use Rattle.std.proofs.Common.{◌≡◌, ℕ, false, [], ◌-◌, ◌^◌, ◌<◌}
use Rattle.std.specs.Fmt.{digits, padded_integral, format_spec}
use Rattle.std.proofs.lemmas.Fmt as written
use Rattle.mips_instr.specs.Operands.{hex_byte}

pub two_digits : (n : ℕ) → n < 256 → padded_integral (format_spec 32 0 4 2 (2 ^ 64 - 1)) false [] (digits 16 false n) ≡ hex_byte n
two_digits n h = written.hex_byte false n h
