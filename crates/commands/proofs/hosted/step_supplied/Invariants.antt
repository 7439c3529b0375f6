use Rattle.std.proofs.Common.{◌≡◌, ◌-◌, length}
use Rattle.guest_log.specs.Logs.{IsFull}
use Rattle.guest_pages.specs.Holdings.{private_pages}
use Rattle.commands.specs.Hosted.{first_pages, hosted_of, IsAlone, IsLacking}
use Rattle.commands.proofs.hosted.step_supplied.Given as goal

-- no step was made, for which the log has room, and a page that the step needs is lacking
abbrev pub invariant-loop-world : goal.invariant-loop-world
invariant-loop-world l = record {
  alone : IsAlone l.world;
  lacking : IsLacking l.world.tenants l.needed;
  room : IsFull (hosted_of l.world.tenants).log → ⊥;
  same : (hosted_of l.world.tenants).machine ≡ (hosted_of l.fn.world.tenants).machine;
}

-- the pages that have no frame of their own
abbrev pub decreases-loop-world : goal.decreases-loop-world
decreases-loop-world l = length (first_pages l.world.tenants) - private_pages (first_pages l.world.tenants)
