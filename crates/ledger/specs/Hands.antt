-- The rule of a ledger's table.
use Rattle.std.specs.Prelude.{List}
use Rattle.std.specs.List.{flat_map}
use Rattle.atomic_table.specs.Table.{State}
use Rattle.ledger.specs.declared.hand.Hand.{Hand}

-- a hand with these parts
abbrev pub hand : {H : Type 0} → List H → Hand H
hand parts = record { parts = parts }

abbrev pub parts_in : {H : Type 0} → Hand H → List H
parts_in h = h.parts

-- the parts in all hands are right
pub record IsKept {H S : Type 0} (exact : List H → Type 0) (s : State S (Hand H)) : Type 0 where
  pub right : exact (flat_map parts_in s.views)
