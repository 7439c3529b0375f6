use Rattle.std.proofs.Common.{◌&&◌, [], ◌∷◌}
use Rattle.lasting_truth.specs.declared.part.Part.TheVariants.{Keeper}
use Rattle.lasting_truth.specs.Rule.{told}
use Rattle.lasting_truth.proofs.steps.narrow.Given as goal

abbrev pub ghosts-settle : goal.ghosts-settle
ghosts-settle g a = record { parts = Keeper (told a.share.now.parts && g.N.Narrowing.still) ∷ [] }
