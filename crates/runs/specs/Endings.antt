-- Where a run ends that is to end at the first state of some kinds.
use Rattle.std.specs.Prelude.{◌≡◌, ◌<◌, ℕ, zero, suc, Bool, ◌==◌, ◌&&◌, ◌/◌, ◌%◌, if◌then◌else◌, [], Option, Some, None, IfSome, false}
use Rattle.std.specs.List.{list_any}
use Rattle.machine.specs.Step.{Machine, step}
use Rattle.runs.specs.declared.ending.Ending.{Ending}
use Rattle.runs.specs.declared.ending.Ending.TheVariants.{Loop, Exception, Address}
use Rattle.runs.specs.declared.ending.Until.{Until}
use Rattle.runs.specs.declared.running.Ran.{Ran}
use Rattle.runs.specs.Entries.{has_entered}
use Rattle.runs.specs.Loops.{is_loop}
use Rattle.runs.specs.Runs.{after_steps}

-- whether PC at an address is a state that a run ends at
abbrev pub has_address : Until → ℕ → Bool
has_address until pc = list_any (λ address. address == pc) until.addresses.items

-- a state that a run ends at, whatever was before it: a loop, or an address that PC stands at
abbrev pub state_ending : Until → Machine → Option Ending
state_ending until m =
    if until.loops && is_loop m then Some (Loop m.cpu.pc)
    else if has_address until m.cpu.pc then Some (Address m.cpu.pc) else None

-- a state that a run ends at after one before it: an exception was entered, of which Cause has the code and EPC the address, or
-- one whatever was before it
abbrev pub step_ending : Until → Machine → Machine → Option Ending
step_ending until before now =
    if until.exceptions && has_entered before now then Some (Exception (now.cpu.cp0.cause / 4 % 32) now.cpu.cp0.epc)
    else state_ending until now

-- whether a run from a machine ends after so many steps, and why
abbrev pub ending_after : Until → Machine → ℕ → Option Ending
ending_after until m zero = state_ending until m
ending_after until m (suc k) = step_ending until (after_steps k m) (after_steps (suc k) m)

-- a run goes past a state, and need not look at the next for an exception: it doesn't end at the state, whatever was before it, and the step
-- from there enters no exception
pub record IsPassed (until : Until) (m : Machine) : Type 0 where
  pub nowhere : state_ending until m ≡ None
  pub no_entry : has_entered m (step m) ≡ false

-- a run of steps from a machine ended at the first state that it was to end at, if it came to one: at none of those before, and
-- where the machine did not stop there, it is said whether and why it ends at the last
pub record IsFirst (until : Until) (m : Machine) (ran : Ran) : Type 0 where
  pub none_before : (k : ℕ) → k < ran.steps → ending_after until m k ≡ None
  pub there : ran.stop ≡ None → ran.ending ≡ ending_after until m ran.steps
  pub stopped : IfSome ran.stop (λ why. ran.ending ≡ None)

-- no state is one that a run ends at
pub record IsNever (until : Until) : Type 0 where
  pub loops : until.loops ≡ false
  pub exceptions : until.exceptions ≡ false
  pub addresses : until.addresses.items ≡ []
