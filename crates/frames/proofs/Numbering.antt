-- The numbers of a range in rising order.
use Rattle.std.proofs.Common.{ℕ, ◌≡◌, ◌+◌, ◌-◌, ◌<◌, ◌∷◌, length, suc, arith, ap}
use Rattle.std.specs.List.{range_with_len}
use Rattle.std.proofs.lemmas.List.FromFn.{length-range_with_len}

-- a range is its first number and the range that begins after it
pub first_of_range : (a t : ℕ) → a < t → range_with_len a (t - a) ≡ a ∷ range_with_len (a + 1) (t - (a + 1))
first_of_range a t h =
    let n : t - a ≡ suc (t - (a + 1)) = omega arith in
    ap (range_with_len a) n

pub length_of_range : (a n : ℕ) → length (range_with_len a n) ≡ n
length_of_range a n = length-range_with_len a n
