use Rattle.std.proofs.Common.{◌-◌, ◌≤◌}
use Rattle.guest.proofs.Quiet.{GoneOn}
use Rattle.guest.proofs.step.run_pages.Given as goal

-- the steps so far gave no page, and processor and pages are those of a machine after as many
abbrev pub invariant-loop-made : goal.invariant-loop-made
invariant-loop-made l = record {
  gone : GoneOn l.fn.cpu l.cpu l.fn.bus l.bus l.made;
  few : l.made ≤ l.count;
}

abbrev pub decreases-loop-made : goal.decreases-loop-made
decreases-loop-made l = l.count - l.made
