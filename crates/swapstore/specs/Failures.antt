-- The count of calls that failed.
use Rattle.std.specs.Prelude.{ℕ, ◌+◌, ◌-◌, ◌^◌, min, Bool, if◌then◌else◌}

-- one more failure; the count stops at the largest number of 64 bits
abbrev pub one_more : ℕ → ℕ
one_more count = min (count + 1) (2 ^ 64 - 1)

-- the count after a call
abbrev pub counted : Bool → ℕ → ℕ
counted is_ok count = if is_ok then count else one_more count
