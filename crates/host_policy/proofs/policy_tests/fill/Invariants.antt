use Rattle.machine_memory.specs.Memories.{IsLevel}
use Rattle.host_policy.proofs.policy_tests.fill.Given as goal

abbrev pub invariant-loop-p : goal.invariant-loop-p
invariant-loop-p g l = IsLevel l.memory l.side.stake l.side.pages
