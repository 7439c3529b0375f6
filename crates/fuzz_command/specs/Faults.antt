-- Why inputs are not run, or not all of them.
use Rattle.std.specs.Prelude.{◌≡◌, ◌⊎◌, ℕ, [], List, Some}
use Rattle.std.specs.Borrow.{Bor}
use Rattle.std.specs.List.{slice_get}
use Rattle.commands.specs.declared.fault.Fault.{Fault}
use Rattle.commands.specs.declared.fault.Fault.TheVariants.{File, Elf, Raw, Boot, Memory}
use Rattle.commands.specs.declared.order.Format.TheVariants as format
use Rattle.commands.specs.Faults.{IsNotBooted, IsWant}
use Rattle.fuzz_command.specs.declared.fault.FuzzFault.{FuzzFault}
use Rattle.fuzz_command.specs.declared.fault.FuzzFault.TheVariants.{Command, Unready, Line, Unread, Output}
use Rattle.fuzz_command.specs.declared.order.FuzzOrder.{FuzzOrder}
use Rattle.fuzz_command.specs.declared.order.InputFile.{InputFile}
use Rattle.fuzz_command.specs.declared.order.Ready.{Ready}
use Rattle.fuzz_command.specs.declared.order.Ready.TheVariants.{Address}

-- one of the files is read at this place
pub record IsInput (files : List InputFile) (name : Bor (List ℕ)) : Type 0 where
  pub number : ℕ
  pub file : InputFile
  pub its : slice_get files number ≡ Some file
  pub place : name ≡ file.place

-- of the run of an input: memory was refused, or its line could not be written
abbrev pub IsTrialFault : FuzzFault → Type 0
IsTrialFault (Command fault) = IsWant fault
IsTrialFault Output = Unit {0}
IsTrialFault other = ⊥

-- of the lines of a reader: that, or one is no input, or they can't be read
abbrev pub IsLinesFault : FuzzFault → Type 0
IsLinesFault (Command fault) = IsWant fault
IsLinesFault Unready = ⊥
IsLinesFault (Line number) = Unit {0}
IsLinesFault Unread = Unit {0}
IsLinesFault Output = Unit {0}

-- of a line that is read: memory was refused, or it can't be read
abbrev pub IsReadFault : FuzzFault → Type 0
IsReadFault (Command fault) = IsWant fault
IsReadFault Unread = Unit {0}
IsReadFault other = ⊥

-- of a file of an input: it can't be read, or has too many bytes, or memory was refused
abbrev pub IsFileFault : InputFile → Fault → Type 0
IsFileFault file (File name) = name ≡ file.place
IsFileFault file Memory = Unit {0}
IsFileFault file other = ⊥

-- of the files of inputs: that, or a run's
abbrev pub IsFilesFault : List InputFile → FuzzFault → Type 0
IsFilesFault files (Command (File name)) = IsInput files name
IsFilesFault files (Command other) = IsWant other
IsFilesFault files Output = Unit {0}
IsFilesFault files other = ⊥

-- of a file, an image, a boot or memory
abbrev pub IsCommandFault : FuzzOrder → Fault → Type 0
IsCommandFault order (File name) = (name ≡ order.run.image) ⊎ (order.logs ≡ Some name) ⊎ IsInput order.inputs.items name
IsCommandFault order (Elf fault) = order.run.format ≡ format.Elf
IsCommandFault order Raw = order.run.format ≡ format.Raw
IsCommandFault order (Boot error) = IsNotBooted order.run.profile order.run.pages error
IsCommandFault order Memory = Unit {0}
IsCommandFault order other = ⊥

-- of a machine that is made ready: memory was refused, or it does not come to the address where it is ready
abbrev pub IsReadyFault : Ready → FuzzFault → Type 0
IsReadyFault ready (Command fault) = fault ≡ Memory
IsReadyFault ready Unready = (address : ℕ) × (ready ≡ Address address)
IsReadyFault ready other = ⊥

-- of what an order asks for, before an input is looked at: a file, an image, a boot or memory, or the machine is never ready
abbrev pub IsSettingFault : FuzzOrder → FuzzFault → Type 0
IsSettingFault order (Command fault) = IsCommandFault order fault
IsSettingFault order Unready = (address : ℕ) × (order.ready ≡ Address address)
IsSettingFault order other = ⊥

-- of an order: only to an address a machine may not come, and what reads lines is at fault only where no file is given
abbrev pub IsFuzzFault : FuzzOrder → FuzzFault → Type 0
IsFuzzFault order (Command fault) = IsCommandFault order fault
IsFuzzFault order Unready = (address : ℕ) × (order.ready ≡ Address address)
IsFuzzFault order (Line number) = order.inputs.items ≡ []
IsFuzzFault order Unread = order.inputs.items ≡ []
IsFuzzFault order Output = Unit {0}
