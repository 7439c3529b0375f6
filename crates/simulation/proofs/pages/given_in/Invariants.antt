use Rattle.std.proofs.Common.{◌≡◌, ◌≤◌, length, take}
use Rattle.world.specs.All.{TenantIs, pages_at}
use Rattle.simulation.specs.Pages.{given_pages}
use Rattle.simulation.proofs.pages.given_in.Given as goal

-- the given pages up to this one are counted
abbrev pub invariant-loop-p : goal.invariant-loop-p
invariant-loop-p g l = record {
  few : l.given ≤ l.p;
  so_far : (t : TenantIs) → l.given ≡ given_pages (take l.p (pages_at l.world l.g t));
  all : (t : TenantIs) → l.p-end ≡ length (pages_at l.world l.g t);
}
