-- What is seen of a pool and of its passes.
use Rattle.std.specs.Prelude.{ℕ}
use Rattle.atomic_table.specs.Seated.{TableId}
use Rattle.shared_pool.specs.declared.hand.Hand.{Hand}

-- which pool it is
abbrev pub PoolId : Type 0
PoolId = TableId

pub record PoolIs : Type 0 where
  pub id : PoolId
  -- how many frames it has room for
  pub room : ℕ

pub record PassIs : Type 0 where
  -- the pool that it is of
  pub pool : PoolId
  -- what it knows
  pub hand : Hand
