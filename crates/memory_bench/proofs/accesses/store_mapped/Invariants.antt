use Rattle.std.proofs.Common.{◌≡◌, length}
use Rattle.memory_bench.proofs.accesses.store_mapped.Given as goal

abbrev pub invariant-loop-round : goal.invariant-loop-round
invariant-loop-round l = length l.map ≡ 4
