-- The logs of runs that end in an exception.
use Rattle.std.specs.Prelude.{◌≡◌, ℕ, Bool, true, false, is_some, List, Option, Some}
use Rattle.items.specs.declared.item.Item.{Item}
use Rattle.machine.specs.Step.{Machine}
use Rattle.machine.specs.Items.{run}
use Rattle.commands.specs.LogFiles.{IsLogFile}
use Rattle.runs.specs.Runs.{after_run, after_steps}
use Rattle.runs.specs.declared.ending.Ending.{Ending}
use Rattle.runs.specs.declared.ending.Ending.TheVariants.{Exception}
use Rattle.runs.specs.declared.running.Ran.{Ran}
use Rattle.fuzz_command.specs.declared.job.CrashLog.{CrashLog}
use Rattle.fuzz_command.specs.declared.job.CrashLog.TheVariants.{Unwanted, File, Lost}
use Rattle.fuzz_command.specs.declared.setting.Setting.{Setting}

-- a run ended in an exception
abbrev pub is_exception : Option Ending → Bool
is_exception (Some (Exception code epc)) = true
is_exception other = false

-- a file is one of a log of the run of an input: it names the machine's profile, its pages and this digest of its image, and its items lead
-- from where the machine boots to where the run has led to
pub record IsRunLog (s : Setting) (digest input : List ℕ) (ran : Ran) (file : List ℕ) : Type 0 where
  pub items : List Item
  pub is : IsLogFile file s.profile s.pages digest items
  pub leads : (m : Machine) → run items m ≡ after_run ran input (after_steps s.made m)

-- a log is wanted where such logs are kept and the run ended in an exception; it is lost where there is no memory for it
abbrev pub IsCrashLog : Setting → List ℕ → Ran → CrashLog → Type 0
IsCrashLog s input ran Unwanted = is_some s.logs ≡ true → is_exception ran.ending ≡ false
IsCrashLog s input ran (File bytes) = (digest : List ℕ) × (s.logs ≡ Some digest) × (is_exception ran.ending ≡ true) × IsRunLog s digest input ran bytes.items
IsCrashLog s input ran Lost = (is_some s.logs ≡ true) × (is_exception ran.ending ≡ true)
