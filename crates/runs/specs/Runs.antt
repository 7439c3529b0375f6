-- What a run of a machine does.
use Rattle.std.specs.Prelude.{◌≡◌, ◌<◌, ◌≤◌, ℕ, zero, suc, List, [], ◌∷◌, None, length, take}
use Rattle.items.specs.declared.item.What.TheVariants.{In}
use Rattle.machine.specs.Step.{Machine, step}
use Rattle.machine.specs.Items.{after}
use Rattle.runs.specs.declared.running.Ran.{Ran}

-- the machine after some steps
abbrev pub after_steps : ℕ → Machine → Machine
after_steps zero m = m
after_steps (suc n) m = step (after_steps n m)

-- the machine after some bytes of console input
abbrev pub fed : List ℕ → Machine → Machine
fed [] m = m
fed (byte ∷ bytes) m = fed bytes (after (In byte) m)

-- the machine after a run: it took so many bytes of the input, and then made so many steps
abbrev pub after_run : Ran → List ℕ → Machine → Machine
after_run ran input m = after_steps ran.steps (fed (take ran.taken input) m)

-- how far a run goes that is to take some input and to make some steps: it makes no step before the last byte, and does all
-- of both where the machine neither stops nor is in a state that the run is to end at
pub record IsCount (input : List ℕ) (steps : ℕ) (ran : Ran) : Type 0 where
  pub taken : ran.taken ≤ length input
  pub made : ran.steps ≤ steps
  pub input_first : 0 < ran.steps → ran.taken ≡ length input
  pub all_input : ran.stop ≡ None → ran.taken ≡ length input
  pub all_steps : ran.stop ≡ None → ran.ending ≡ None → ran.steps ≡ steps
