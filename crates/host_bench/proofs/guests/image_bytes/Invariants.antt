use Rattle.std.proofs.Common.{◌≡◌, ◌*◌, length}
use Rattle.host_bench.proofs.guests.image_bytes.Given as goal

abbrev pub invariant-loop-place : goal.invariant-loop-place
invariant-loop-place l = length l.bytes.items ≡ 4 * l.place
