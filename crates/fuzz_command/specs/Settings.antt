-- What an input is run on, and how.
use Rattle.std.specs.Prelude.{ℕ, ◌≡◌, ◌<◌, ◌/◌, ◌||◌, Bool, if◌then◌else◌, is_some, [], length}
use Rattle.elf32.specs.declared.image.Image.{Image}
use Rattle.machine.specs.Boot.{boot_machine}
use Rattle.machine.specs.Step.{Machine}
use Rattle.runs.specs.Coverage.{CoverageIs}
use Rattle.runs.specs.Runs.{after_steps}
use Rattle.runs.specs.declared.ending.Until.{Until}
use Rattle.fuzz_command.specs.declared.order.FuzzOrder.{FuzzOrder}
use Rattle.fuzz_command.specs.declared.order.Ready.{Ready}
use Rattle.fuzz_command.specs.declared.order.Ready.TheVariants.{Boot, Steps, Address}
use Rattle.fuzz_command.specs.declared.order.Shown.{Shown}
use Rattle.fuzz_command.specs.declared.setting.Setting.{Setting as SettingCode}

-- the machine that takes each input, where it is ready, how many steps are to be made then, the states that a run is to end at, how the output is
-- shown, whether it is kept which words of memory PC led to, and whether those are shown
pub record Setting : Type 0 where
  pub home : Machine
  pub steps : ℕ
  pub until : Until
  pub shown : Shown
  pub covers : Bool
  pub reached : Bool

abbrev pub setting_of : SettingCode → Setting
setting_of s = record { home = s.home.value; steps = s.steps; until = s.until.now; shown = s.shown; covers = s.covers; reached = s.reached }

-- the coverage of a machine that ran nothing: of each word of memory, or of none
abbrev pub coverage_of : Setting → CoverageIs
coverage_of s = record { words = if s.covers then length s.home.board.memory / 4 else 0; reached = [] }

-- no byte waits in the console, so that each input has room
abbrev pub IsSilent : Machine → Type 0
IsSilent m = m.board.devices.console.input ≡ []

abbrev pub CanRun : SettingCode → Type 0
CanRun s = IsSilent s.home.value

-- ---- what an order asks for

-- the machine that its image boots
abbrev pub boot_of : FuzzOrder → Image → Machine
boot_of order image = boot_machine order.run.profile image order.run.pages

-- after so many steps from a machine PC is this address, and not before
pub record ComesTo (address : ℕ) (m : Machine) (made : ℕ) : Type 0 where
  pub there : (after_steps made m).cpu.pc ≡ address
  pub first : (k : ℕ) → k < made → (after_steps k m).cpu.pc ≡ address → ⊥

-- a machine is ready after so many steps from its boot
abbrev pub IsReadyAfter : Ready → Machine → ℕ → Type 0
IsReadyAfter Boot m made = made ≡ 0
IsReadyAfter (Steps count) m made = made ≡ count
IsReadyAfter (Address address) m made = ComesTo address m made

-- a machine is the one that an order's image boots, after so many steps, where it is ready
pub record IsReady (order : FuzzOrder) (image : Image) (made : ℕ) (home : Machine) : Type 0 where
  pub after : IsReadyAfter order.ready (boot_of order image) made
  pub home_is : home ≡ after_steps made (boot_of order image)

-- a setting is what an order asks for, of this image
pub record IsSettingOf (order : FuzzOrder) (image : Image) (s : Setting) : Type 0 where
  pub made : ℕ
  pub ready : IsReady order image made s.home
  pub steps : s.steps ≡ order.run.steps
  pub until : s.until ≡ order.until
  pub shown : s.shown ≡ order.shown
  pub covers : s.covers ≡ (order.reached || is_some order.coverage)
  pub reached : s.reached ≡ order.reached
