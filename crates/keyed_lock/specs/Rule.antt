-- The rule of a lock's table, which has one word and one slot.
use Rattle.std.specs.Prelude.{◌≡◌, ◌∷◌, [], Option, Some, slice_index, length}
use mathlib.Core.Option.{some}
use lib.ListN.{get_elem?}
use Rattle.atomic_table.specs.Table.{State, Me}

module _ {T V : Type 0} where
  -- where the word is 0, the value is in the slot, and fits
  pub record IsKept (fits : T → Type 0) (s : State (Option T) V) : Type 0 where
    pub one_word : length s.words ≡ 1
    pub at_home : slice_index s.words 0 ≡ 0 → (value : T) × (get_elem? s.homes 0 ≡ some (some (Some value))) × fits value

  -- a seat has just taken the slot, with a value in it that fits
  abbrev pub HasTaken : (T → Type 0) → Me (Option T) V → Type 0
  HasTaken fits me = (value : T) × (me.1 ≡ (0, Some value) ∷ []) × fits value

  -- a seat has the slot and no other
  abbrev pub HoldsSlot : Me (Option T) V → Type 0
  HoldsSlot me = (held : Option T) × (me.1 ≡ (0, held) ∷ [])
