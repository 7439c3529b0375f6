use Rattle.std.proofs.Common.{◌≡◌, ℕ, ◌+◌, length}
use Rattle.frames.specs.Counts.{count_of}
use Rattle.accounts.specs.OwnerShares.{free_share}
use Rattle.machine_memory.specs.Memories.{IsPassOf}
use Rattle.machine_memory.proofs.memory.MachineMemory.fill.Given as goal

-- each frame is free still, or was put into the pool
abbrev pub invariant-loop-no : goal.invariant-loop-no
invariant-loop-no g l = record {
  accounts : l.accounts ≡ free_share l.self.books.id l.free.free;
  pass : IsPassOf l.self l.pass;
  put : (k : ℕ) → count_of k l.pass.hand.put + count_of k l.free.free ≡ count_of k l.fn.pass.hand.put + count_of k l.fn.free.free;
}

abbrev pub decreases-loop-no : goal.decreases-loop-no
decreases-loop-no g l = length l.free.free
