use Rattle.std.proofs.Common.{◌≡◌, length}
use Rattle.memory_bench.proofs.accesses.supply_all.Given as goal

abbrev pub invariant-loop-number : goal.invariant-loop-number
invariant-loop-number l = length l.map ≡ 4
