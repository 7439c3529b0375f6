use Rattle.std.proofs.Common.{◌-◌, ◌≤◌}
use Rattle.victims.specs.Victims.{NoneResident}
use Rattle.victims.proofs.choosing.first_resident.Given as goal

-- no page so far may leave
abbrev pub invariant-loop-start : goal.invariant-loop-start
invariant-loop-start l = record {
  passed : NoneResident l.spared l.guest.bus.pages l.from l.start;
  later : l.from ≤ l.start;
}

abbrev pub decreases-loop-start : goal.decreases-loop-start
decreases-loop-start l = l.to - l.start
