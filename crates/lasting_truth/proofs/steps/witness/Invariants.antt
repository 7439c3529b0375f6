use Rattle.std.proofs.Common.{◌∷◌}
use Rattle.lasting_truth.specs.declared.part.Part.TheVariants.{Witness}
use Rattle.lasting_truth.specs.Rule.{told}
use Rattle.lasting_truth.proofs.steps.witness.Given as goal

abbrev pub ghosts-settle : goal.ghosts-settle
ghosts-settle a = record { parts = Witness (told a.share.now.parts) ∷ a.share.now.parts }
