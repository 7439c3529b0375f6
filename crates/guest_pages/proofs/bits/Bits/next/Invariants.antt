use Rattle.std.proofs.Common.{◌*◌}
use Rattle.guest_pages.specs.Marks.{NoneMarked}
use Rattle.guest_pages.proofs.bits.Bits.next.Given as goal

abbrev pub invariant-loop-place : goal.invariant-loop-place
invariant-loop-place l = NoneMarked l.self l.from (l.place * 64)
