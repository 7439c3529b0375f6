-- A store whose k-th read or write fails.
use Rattle.std.specs.Prelude.{ℕ, ◌-◌, ◌==◌, ◌&&◌, Bool, true, false, if◌then◌else◌}
use Rattle.swapstore.specs.Failures.{one_more}
use Rattle.swapstore.specs.declared.fault.Op.{Op}
use Rattle.swapstore.specs.declared.fault.Op.TheVariants.{Read, Write}
use Rattle.swapstore.specs.declared.fault.FaultStore.{FaultStore}

-- the store behind it
abbrev pub store_of : {S : Type 0} → FaultStore S → S
store_of fault = fault.store

-- which kind of call fails
abbrev pub op_of : {S : Type 0} → FaultStore S → Op
op_of fault = fault.op

-- how many calls of that kind are to come until one fails, that one too; 0 once it failed
abbrev pub left_of : {S : Type 0} → FaultStore S → ℕ
left_of fault = fault.left

abbrev pub same_op : Op → Op → Bool
same_op Read Read = true
same_op Read Write = false
same_op Write Read = false
same_op Write Write = true

-- how many are left after one more call of a kind
abbrev pub left_after : Op → Op → ℕ → ℕ
left_after kind op left = if same_op kind op then left - 1 else left

-- whether the next call of a kind is the one that fails
abbrev pub is_due : Op → Op → ℕ → Bool
is_due kind op left = same_op kind op && left == 1

-- failures of the store behind it, and that one where it has come
abbrev pub with_fault : ℕ → ℕ → ℕ
with_fault left failures = if left == 0 then one_more failures else failures
