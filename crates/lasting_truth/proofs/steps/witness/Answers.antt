use Rattle.lasting_truth.proofs.Parts.{witnessed}
use Rattle.lasting_truth.proofs.steps.witness.Goals as goal

pub settle-requires-clause-right : goal.settle-requires-clause-right
settle-requires-clause-right c = witnessed _ c.requires.keeper
