-- Runs of steps.
use Rattle.std.proofs.Common.{◌≡◌, ℕ, ◌+◌, [], ◌∷◌, ◌++◌, length, refl, sym}
use Rattle.std.proofs.lemmas.List.{length-replicate, replicate-append-replicate}
use Rattle.items.specs.Entries.{step_by, steps_of}

pub steps_of-none : (seat : ℕ) → steps_of seat 0 ≡ []
unfolding steps_of
steps_of-none seat = refl

pub steps_of-one : (seat : ℕ) → steps_of seat 1 ≡ step_by seat ∷ []
unfolding steps_of
steps_of-one seat = refl

-- the first steps of a run, and the others
pub steps_of-join : (seat m n : ℕ) → steps_of seat (m + n) ≡ steps_of seat m ++ steps_of seat n
unfolding steps_of
steps_of-join seat m n = sym (replicate-append-replicate m n (step_by seat))

pub length-steps_of : (seat n : ℕ) → length (steps_of seat n) ≡ n
unfolding steps_of
length-steps_of seat n = length-replicate n (step_by seat)
