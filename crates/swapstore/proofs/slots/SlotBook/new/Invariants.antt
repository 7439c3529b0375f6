use Rattle.std.proofs.Common.{ℕ, ◌≡◌, ◌+◌, ◌≤◌, length, map}
use Rattle.std.specs.BinaryHeap.{heap_items, heap_len, heap_capacity, IsHeap}
use Rattle.frames.specs.Counts.{count_of, below}
use Rattle.swapstore.specs.Slots.{number_of, lowest_first}
use Rattle.swapstore.proofs.slots.SlotBook.new.Given as goal

-- each number is free or has no token yet
abbrev pub invariant-loop-slot : goal.invariant-loop-slot
invariant-loop-slot l = record {
  counted : (k : ℕ) → count_of k (map number_of (heap_items l.free)) + count_of k l.numbers ≡ below k l.slots;
  length : heap_len l.free + length l.numbers ≡ l.slots;
  room : l.slots ≤ heap_capacity l.free;
  order : IsHeap lowest_first (heap_items l.free);
}

abbrev pub decreases-loop-slot : goal.decreases-loop-slot
decreases-loop-slot l = length l.numbers
