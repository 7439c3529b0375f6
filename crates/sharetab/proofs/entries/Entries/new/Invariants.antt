use Rattle.std.proofs.Common.{◌≡◌, replicate, vec_len, vec_capacity, None}
use Rattle.sharetab.proofs.entries.Entries.new.Given as goal

abbrev pub invariant-loop-number : goal.invariant-loop-number
invariant-loop-number l = record {
  vacant : l.places.items ≡ replicate l._number None;
  length : vec_len l.places ≡ l._number;
  room : vec_capacity l.places ≡ l.frames;
}
