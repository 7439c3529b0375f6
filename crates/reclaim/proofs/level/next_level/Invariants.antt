use Rattle.std.proofs.Common.{◌≡◌, ◌+◌, ℕ}
use Rattle.reclaim.specs.Levels.{Chain, next_level_of}
use Rattle.reclaim.proofs.Moving.{moves_left}
use Rattle.reclaim.proofs.level.next_level.Given as goal

-- moves led here, and the others lead to where those from the first level do
abbrev pub invariant-loop-next : goal.invariant-loop-next
invariant-loop-next l =
    (moves : ℕ) × Chain l.free l.total moves l.fn.level l.level × (moves + moves_left l.free l.total l.level ≡ moves_left l.free l.total l.fn.level) × (next_level_of l.free l.total l.level ≡ next_level_of l.free l.total l.fn.level)

abbrev pub decreases-loop-next : goal.decreases-loop-next
decreases-loop-next l = moves_left l.free l.total l.level
