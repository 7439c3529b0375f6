use Rattle.std.proofs.Common.{◌≡◌, ℕ, ◌<◌, false, get_or}
use Rattle.elf32.specs.declared.image.Segment.{Segment}
use Rattle.guest.specs.Loading.{segment_reaches}
use Rattle.guest.proofs.loading.reaches.Given as goal

-- none of the segments so far reaches the page
abbrev pub invariant-loop-k : goal.invariant-loop-k
invariant-loop-k l = (j : ℕ) (d : Segment) → j < l.k → segment_reaches l.p (get_or l.segments j d) ≡ false
