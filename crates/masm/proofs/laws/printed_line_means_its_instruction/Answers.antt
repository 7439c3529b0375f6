use Rattle.masm.proofs.DecodedFields.{decoded_have}
use Rattle.masm.proofs.PrintedInstructions.{printed_line}
use Rattle.masm.proofs.laws.printed_line_means_its_instruction.Goals as goal

pub returns-clause-line : goal.returns-clause-line
returns-clause-line c = printed_line

pub returns-clause-table : goal.returns-clause-table
returns-clause-table c = decoded_have
