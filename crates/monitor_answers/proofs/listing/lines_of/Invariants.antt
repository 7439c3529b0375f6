use Rattle.monitor_answers.proofs.Listed.{AreFirst}
use Rattle.monitor_answers.proofs.listing.lines_of.Given as goal

abbrev pub invariant-loop-guest : goal.invariant-loop-guest
invariant-loop-guest g l = AreFirst l.host.guests.cells.items l.guest l.lines.items
