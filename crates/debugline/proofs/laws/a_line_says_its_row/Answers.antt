use Rattle.debugline.proofs.RowLemmas.{from_row, to_row}
use Rattle.debugline.proofs.laws.a_line_says_its_row.Goals as goal

pub returns : goal.returns
returns c = λ line command. (to_row line command, from_row line command)
