use Rattle.std.proofs.Common.{◌≡◌}
use Rattle.items.specs.Entries.{steps_of}
use Rattle.machine.specs.Items.{run}
use Rattle.commands.proofs.replay.replay_steps.Given as goal

-- the steps so far are made
abbrev pub invariant-loop-made : goal.invariant-loop-made
invariant-loop-made l = l.flat ≡ run (steps_of l.fn.seat l.made) l.fn.flat
