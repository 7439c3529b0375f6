use Rattle.lasting_truth.proofs.Parts.{narrowed}
use Rattle.lasting_truth.proofs.steps.narrow.Goals as goal

pub settle-requires-clause-right : goal.settle-requires-clause-right
settle-requires-clause-right g c = narrowed _ _ c.requires.keeper
