-- Numbers that can be taken and given back.
use Rattle.std.specs.Prelude.{ℕ, List}

-- what is seen of a free list
pub record FreeList : Type 0 where
  -- the numbers that are free
  pub free : List ℕ
  -- how many numbers are out
  pub out : ℕ
