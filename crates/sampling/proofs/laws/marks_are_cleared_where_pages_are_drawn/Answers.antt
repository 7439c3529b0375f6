use Rattle.sampling.proofs.Clearing.{no_draw_counts}
use Rattle.sampling.proofs.laws.marks_are_cleared_where_pages_are_drawn.Goals as goal

pub returns-clause-cleared : goal.returns-clause-cleared
returns-clause-cleared c = no_draw_counts
