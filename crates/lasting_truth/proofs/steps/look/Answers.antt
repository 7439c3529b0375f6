use Rattle.std.proofs.Common.{ap, ◌∙◌}
use Rattle.lasting_truth.proofs.Parts.{looked}
use Rattle.lasting_truth.proofs.steps.look.Goals as goal

pub settle-requires-clause-right : goal.settle-requires-clause-right
settle-requires-clause-right c = looked _ _ _ c.requires.witness c.requires.keeper (ap (λ s. s.parts) (c.learn.ensures.share ∙ c.lend.ensures.to))
