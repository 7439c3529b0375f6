-- What was written to slots, and the rule for all that is said of it.
use Rattle.std.specs.Prelude.{◌≡◌, ℕ, ◌==◌, ◌≤◌, List, [], ◌∷◌, Option, Some, None, if◌then◌else◌, map}
use Rattle.std.specs.List.{flat_map, range_with_len, All}
use Rattle.frames.specs.Counts.{count_of, below}
use Rattle.swapstore.specs.Holding.{AreHeld}
use Rattle.slot_contents.specs.Held.{at_slot}
use Rattle.slot_contents.specs.declared.content.Written.{Written}
use Rattle.slot_contents.specs.declared.content.Content.{Content}
use Rattle.slot_contents.specs.declared.content.Content.TheVariants.{Store, Free, Owner}

-- the slots that were written to
abbrev pub slots_of : List Written → List ℕ
slots_of ws = map (λ (w : Written). w.slot) ws

-- what was written to a slot, if it was
abbrev pub written_to : List Written → ℕ → Option (List ℕ)
written_to [] slot = None
written_to (w ∷ ws) slot = if w.slot == slot then Some w.bytes else written_to ws slot

-- all but what was written to a slot
abbrev pub without : ℕ → List Written → List Written
without slot [] = []
without slot (w ∷ ws) = if w.slot == slot then without slot ws else w ∷ without slot ws

-- a slot holds what was written to it, if it is known what the slot holds
abbrev pub HoldsIt : (ℕ → Option (List ℕ)) → Written → Type 0
HoldsIt held w = AreHeld (held w.slot) w.bytes

-- what each part has
abbrev pub held_in : Content → List (ℕ → Option (List ℕ))
held_in (Store list) = at_slot list ∷ []
held_in _ = []

abbrev pub written_in : Content → List Written
written_in (Owner ws) = ws
written_in _ = []

-- the slots that are a part's: those that are free, or that an owner has written to
abbrev pub slots_in : Content → List ℕ
slots_in (Store list) = []
slots_in (Free slots) = slots
slots_in (Owner ws) = slots_of ws

-- There is one store, no slot is in two places, and each slot of an owner holds what the owner wrote to it.
pub record IsRight (slots : ℕ) (parts : List Content) : Type 0 where
  pub held : ℕ → Option (List ℕ)
  pub one_store : flat_map held_in parts ≡ held ∷ []
  pub each_slot : (k : ℕ) → count_of k (flat_map slots_in parts) ≤ below k slots
  pub holds : All (HoldsIt held) (flat_map written_in parts)

-- the parts at first: all slots are free, and nothing is known
abbrev pub opening : ℕ → List Content
opening slots = Store [] ∷ Free (range_with_len 0 slots) ∷ []
