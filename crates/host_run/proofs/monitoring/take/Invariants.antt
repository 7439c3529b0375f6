use Rattle.monitor_answers.specs.Hands.{AreHands}
use Rattle.host_run.proofs.monitoring.take.Given as goal

abbrev pub invariant-loop-line : goal.invariant-loop-line
invariant-loop-line g l = AreHands l.host.guests.cells.items l.hands
