use Rattle.std.proofs.Common.{None}
use Rattle.guest_log.proofs.Counting.{runs_after-le-entries}
use Rattle.guest_log.proofs.laws.no_fewer_entries_are_enough.Goals as goal

pub returns : goal.returns
returns c = runs_after-le-entries None
