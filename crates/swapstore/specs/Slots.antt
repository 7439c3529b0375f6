-- Slots in a heap that has the lowest number on top.
use Rattle.std.specs.Prelude.{ℕ}
use Rattle.std.specs.Ordering.{nat_cmp}
use Rattle.std.specs.declared.cmp.Ordering.{Ordering}
use Rattle.std.specs.declared.cmp.Reverse.{Reverse}

-- the number of a slot in the heap
abbrev pub number_of : Reverse ℕ → ℕ
number_of slot = slot.0

-- a lower number is the greater one, which comes first
abbrev pub lowest_first : Reverse ℕ → Reverse ℕ → Ordering
lowest_first x y = nat_cmp y.0 x.0
