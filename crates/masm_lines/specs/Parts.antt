-- The first operand of a text with commas, with what follows it.
use Rattle.std.specs.Prelude.{ℕ, List, Option, Result, Ok}
use Rattle.masm_lines.specs.Operands.{Written, operand_before_comma, behind_comma}
use Rattle.masm_lines.specs.Steps.{◌>>=◌}
use Rattle.masm_lines.specs.declared.fault.AsmFault.{AsmFault}

unfoldable pub first_part : List ℕ → Result (Written × Option (List ℕ)) AsmFault
first_part text = operand_before_comma text >>= λ written. Ok (written, behind_comma text)
