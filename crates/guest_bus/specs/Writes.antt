-- The pages that a debugger writes to.
use Rattle.std.specs.Prelude.{ℕ, length}
use Rattle.items.specs.declared.item.What.{What}
use Rattle.items.specs.declared.item.What.TheVariants.{Step, In, Drain, Target, Poke, Write}
use Rattle.machine.specs.Step as step
use Rattle.machine.specs.Bus.{Lacks}
use Rattle.mips_step.specs.declared.debug.Unreached.{Unreached}
use Rattle.mips_step.specs.declared.debug.Unreached.TheVariants as unreached
use Rattle.machine.specs.Replies.{SomePlaceIn, EachPlace, CanStore}
use Rattle.guest_bus.specs.declared.input.InputError.{InputError}
use Rattle.guest_bus.specs.declared.input.InputError.TheVariants.{Machine, Away}

-- why a write is not made
abbrev pub write_error : Unreached → InputError
write_error unreached.NoPlace = Machine
write_error (unreached.Away page) = Away page

-- what happens is a write, and one of its bytes lies in a page
abbrev pub WritesTo : What → step.Machine → ℕ → Type 0
WritesTo (Write address bytes) m page = SomePlaceIn m address (length bytes) page
WritesTo _ m page = ⊥

-- each byte of a write lies in a page that is there for stores
abbrev pub WritesWhereThere : What → Lacks → step.Machine → Type 0
WritesWhereThere (Write address bytes) lacks m = EachPlace m address (length bytes) (CanStore lacks)
WritesWhereThere _ lacks m = Unit {0}
