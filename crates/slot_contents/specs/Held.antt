-- What was last written to slots, as a list by their numbers.
use Rattle.std.specs.Prelude.{ℕ, zero, suc, List, [], ◌∷◌, Option, None, map}
use Rattle.std.specs.List.{range_with_len}

-- what the list has of a slot
abbrev pub at_slot : List (Option (List ℕ)) → ℕ → Option (List ℕ)
at_slot [] slot = None
at_slot (h ∷ hs) zero = h
at_slot (h ∷ hs) (suc slot) = at_slot hs slot

-- the list of so many slots
abbrev pub listed : ℕ → (ℕ → Option (List ℕ)) → List (Option (List ℕ))
listed slots held = map held (range_with_len 0 slots)
