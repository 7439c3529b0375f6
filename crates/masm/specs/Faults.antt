-- Faults with their lines.
use Rattle.std.specs.Prelude.{ℕ}
use Rattle.masm.specs.declared.error.AsmError.{AsmError}
use Rattle.masm.specs.declared.error.AsmError.TheVariants as error
use Rattle.masm.specs.declared.error.LineError.{LineError}
use Rattle.masm.specs.declared.error.LineError.TheVariants as of_line

-- an error of a line with the line's number
abbrev pub located : LineError → ℕ → AsmError
located (of_line.Fault f) line = error.Fault f line
located (of_line.Memory a) line = error.Memory a
