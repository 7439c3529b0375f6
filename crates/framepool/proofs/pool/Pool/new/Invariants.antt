use Rattle.std.proofs.Common.{ℕ, ◌≡◌, ◌+◌, length, vec_len, vec_capacity}
use Rattle.frames.specs.Counts.{count_of, below}
use Rattle.framepool.proofs.pool.Pool.new.Given as goal

-- each number is free or has no token yet
abbrev pub invariant-loop-no : goal.invariant-loop-no
invariant-loop-no l = record {
  counted : (k : ℕ) → count_of k l.free.items + count_of k l.numbers ≡ below k l.frames;
  length : vec_len l.free + length l.numbers ≡ l.frames;
  room : vec_capacity l.free ≡ l.frames;
}

abbrev pub decreases-loop-no : goal.decreases-loop-no
decreases-loop-no l = length l.numbers
