use Rattle.std.proofs.Common.{◌≡◌, ◌≤◌, length, vec_len, vec_capacity}
use Rattle.swapstore.specs.Memories.{with_untouched}
use Rattle.swapstore.proofs.stored_pages.reach.Given as goal

abbrev pub invariant-loop-next : goal.invariant-loop-next
invariant-loop-next l = record {
  same : with_untouched l.reached.items l.slots ≡ with_untouched l.initial.reached.items l.slots;
  count : length l.reached.items ≡ l._next;
  length : vec_len l.reached ≡ l._next;
  few : l._next ≤ l.slots;
  room : l.slots ≤ vec_capacity l.reached;
}
