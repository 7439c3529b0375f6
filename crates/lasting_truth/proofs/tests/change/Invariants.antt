use Rattle.std.proofs.Common.{◌==◌}
use Rattle.lasting_truth.proofs.tests.change.Given as goal

abbrev pub ghosts-change_as : goal.ghosts-change_as
ghosts-change_as a = record { still = a.value == 7 }
