use Rattle.taxpolicy.proofs.Allotments.{each_target, targets_end, targets_spare}
use Rattle.taxpolicy.proofs.laws.targets_fill_the_frames.Goals as goal

pub returns-clause-each : goal.returns-clause-each
returns-clause-each c = each_target

pub returns-clause-ended : goal.returns-clause-ended
returns-clause-ended c = targets_end

pub returns-clause-least : goal.returns-clause-least
returns-clause-least c = targets_spare
