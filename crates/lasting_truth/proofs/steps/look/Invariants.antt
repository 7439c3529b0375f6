use Rattle.std.proofs.Common.{drop, ◌∷◌}
use Rattle.lasting_truth.specs.declared.part.Part.TheVariants.{Witness}
use Rattle.lasting_truth.specs.Rule.{told}
use Rattle.lasting_truth.proofs.steps.look.Given as goal

abbrev pub ghosts-settle : goal.ghosts-settle
ghosts-settle a = record { parts = Witness (told (drop 1 a.share.now.parts)) ∷ drop 1 a.share.now.parts }
