use Rattle.std.specs.BinaryHeap.{heap_len}
use Rattle.swapstore.proofs.slots.SlotBook.close.Given as goal

abbrev pub decreases-loop-slot : goal.decreases-loop-slot
decreases-loop-slot l = heap_len l.free
