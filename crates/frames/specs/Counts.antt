-- How often each number stands in a collection. Counts of parts add up to those of the whole, so a number that is moved
-- from one part to another is lost by the one and gained by the other.
use Rattle.std.specs.Prelude.{ℕ, ◌==◌, nat_lt, if◌then◌else◌, List, sum_by}

-- 1 for the number k, 0 for each other
abbrev pub one_at : ℕ → ℕ → ℕ
one_at k n = if n == k then 1 else 0

-- how often the number k stands in a list
abbrev pub count_of : ℕ → List ℕ → ℕ
count_of k numbers = sum_by (one_at k) numbers

-- 1 for each number below a total, 0 for each other
abbrev pub below : ℕ → ℕ → ℕ
below k total = if nat_lt k total then 1 else 0
