use Rattle.monitor_answers.specs.Hands.{AreHands}
use Rattle.host_run.proofs.monitoring.rule.Given as goal

abbrev pub invariant-loop : goal.invariant-loop
invariant-loop g l = AreHands l.host.guests.cells.items l.hands
