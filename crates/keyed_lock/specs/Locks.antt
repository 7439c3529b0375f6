-- What is seen of a lock.
use Rattle.atomic_table.specs.Seated.{TableId}

-- which lock it is
abbrev pub LockId : Type 0
LockId = TableId

pub record LockIs (K : Type 0) : Type 0 where
  -- what the value under the lock fits
  pub key : K
  pub id : LockId
