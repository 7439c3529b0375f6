use Rattle.std.proofs.Common.{◌≡◌, ◌≤◌, ◌*◌, length}
use Rattle.host_bench.proofs.alone.make_steps.Given as goal

abbrev pub invariant-loop-round : goal.invariant-loop-round
invariant-loop-round l = record {
  guest : length l.world.tenants ≡ 1;
  made : l.made ≤ 1024 * l._round;
}
