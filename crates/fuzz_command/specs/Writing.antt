-- What is written of inputs that are run.
use Rattle.std.specs.Prelude.{◌≡◌, ◌⊎◌, ℕ, Bool, All, List, decimal, flat_map, is_some, Option, Some, IfSome}
use Rattle.std.specs.List.{list_any}
use Rattle.std.specs.Io.KnownBytes.{Appends}
use Rattle.elf32.specs.declared.image.Image.{Image}
use Rattle.elf32.specs.Images.{FitsPages}
use Rattle.commands.specs.Raw.{IsPageCount}
use Rattle.commands.specs.Runs.{IsImageOf}
use Rattle.runs.specs.declared.running.Ran.{Ran}
use Rattle.fuzz_command.specs.declared.order.FuzzOrder.{FuzzOrder}
use Rattle.fuzz_command.specs.Settings.{IsSettingOf, Setting}
use Rattle.fuzz_command.specs.Lines.{IsTrial, Trial, has_stopped, line_text}
use Rattle.fuzz_command.specs.Inputs.{AreBefore, AreInputs, BeginInputs, input_of}

-- behind known bytes the line of a run of this input is written; and whether the guest stopped
pub record WritesLine (s : Setting) (name input : List ℕ) (known known' : Option (List ℕ)) (stopped : Bool) : Type 0 where
  pub ran : Ran
  pub trial : IsTrial s (record { name = name; input = input; ran = ran })
  pub text : Appends known known' (line_text s (record { name = name; input = input; ran = ran }))
  pub stops : stopped ≡ is_some ran.stop

-- the same of the line of hexadecimal digits that has this number
pub record RunsLine (s : Setting) (number : ℕ) (digits : List ℕ) (known known' : Option (List ℕ)) (stopped : Bool) : Type 0 where
  pub input : List ℕ
  pub is : input_of digits ≡ Some input
  pub line : WritesLine s (decimal number) input known known' stopped

-- behind known bytes the lines of these runs are written, in their order
pub record WritesLines (s : Setting) (trials : List Trial) (known known' : Option (List ℕ)) : Type 0 where
  pub each : All (IsTrial s) trials
  pub text : Appends known known' (flat_map (line_text s) trials)

-- the lines of runs are written whose inputs are these, whatever else; and whether a guest stopped
pub record Writes (s : Setting) (AreTheirs : List Trial → Type 0) (known known' : Option (List ℕ)) (stopped : Bool) : Type 0 where
  pub trials : List Trial
  pub inputs : AreTheirs trials
  pub lines : WritesLines s trials known known'
  pub stops : stopped ≡ list_any has_stopped trials

-- the same, and no more
pub record Begins (s : Setting) (AreTheirs : List Trial → Type 0) (known known' : Option (List ℕ)) : Type 0 where
  pub trials : List Trial
  pub inputs : AreTheirs trials
  pub lines : WritesLines s trials known known'

-- ---- an order

-- the image that is run is one that a file of known bytes stands for, by the order's format, and its pages hold it
pub record IsImage (order : FuzzOrder) (file : Option (List ℕ)) (image : Image) : Type 0 where
  pub stands : IfSome file (λ all. IsImageOf order.run.format order.run.pages all image)
  pub legal : IsPageCount order.run.profile order.run.pages
  pub fits : FitsPages image order.run.pages

-- the lines of all inputs are written: each is of the machine that the image boots, after the steps that make it ready and its own input alone
pub record IsFuzzed (order : FuzzOrder) (file had known known' : Option (List ℕ)) (stopped : Bool) : Type 0 where
  pub image : Image
  pub is : IsImage order file image
  pub setting : Setting
  pub asked : IsSettingOf order image setting
  pub writes : Writes setting (AreInputs order.inputs.items had) known known' stopped

-- the lines of the first of them are
pub record HasBegun (order : FuzzOrder) (file had known known' : Option (List ℕ)) : Type 0 where
  pub image : Image
  pub is : IsImage order file image
  pub setting : Setting
  pub asked : IsSettingOf order image setting
  pub begins : Begins setting (BeginInputs order.inputs.items had) known known'

-- nothing is written, or the lines of the first inputs are
abbrev pub IsLeft : FuzzOrder → Option (List ℕ) → Option (List ℕ) → Option (List ℕ) → Option (List ℕ) → Type 0
IsLeft order file had known known' = (known' ≡ known) ⊎ HasBegun order file had known known'

-- the lines of those before the line of this number are, which is no input
pub record IsBroken (order : FuzzOrder) (file had known known' : Option (List ℕ)) (number : ℕ) : Type 0 where
  pub image : Image
  pub is : IsImage order file image
  pub setting : Setting
  pub asked : IsSettingOf order image setting
  pub begins : Begins setting (AreBefore number had) known known'
