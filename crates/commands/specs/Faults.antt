-- Which faults a command can have.
use Rattle.std.specs.Prelude.{◌≡◌, ◌<◌, ◌⊎◌, ℕ, true, is_some, List, length, Some, Ok, Err}
use Rattle.elf32.specs.Faults.{first_fault}
use Rattle.elf32.specs.declared.fault.Fault.TheVariants as elf_fault
use Rattle.mips_cp0.specs.declared.profile.Profile.{Profile}
use Rattle.masm.specs.Assembly as assembly
use Rattle.masm.specs.declared.error.AsmError.{AsmError}
use Rattle.masm.specs.declared.error.AsmError.TheVariants as asm_error
use Rattle.logfile.specs.Faults.{number_of}
use Rattle.logfile.specs.declared.fault.ReadError.{ReadError}
use Rattle.logfile.specs.declared.fault.ReadError.TheVariants as read_error
use Rattle.commands.specs.Sources.{source_text}
use Rattle.commands.specs.declared.order.Asm.{Asm as AsmOrder}
use Rattle.commands.specs.declared.order.Dis.{Dis}
use Rattle.commands.specs.declared.order.Exec.{Exec}
use Rattle.commands.specs.declared.order.Replay.{Replay}
use Rattle.commands.specs.declared.order.Format.TheVariants as format
use Rattle.commands.specs.declared.order.MachineKind.TheVariants as machine
use Rattle.commands.specs.declared.fault.LogRefusal.{LogRefusal}
use Rattle.commands.specs.declared.fault.LogRefusal.TheVariants as log
use Rattle.commands.specs.declared.fault.Fault.{Fault}
use Rattle.commands.specs.declared.fault.Fault.TheVariants.{File, Asm, Elf, Raw, Script, Boot, Log, Memory}
use Rattle.commands.specs.declared.sim.SimFault.{SimFault}
use Rattle.commands.specs.declared.sim.SimFault.TheVariants as sim
use Rattle.script.specs.Scripts as scripts
use Rattle.tenant.specs.declared.loading.BootError.{BootError}
use Rattle.tenant.specs.declared.loading.BootError.TheVariants as unbooted
use Rattle.commands.specs.Raw.{IsPageCount}
use Rattle.commands.specs.Sims.{IsProfileOf}

-- memory may be wanted by each command; of the other faults it has those that are named

-- why a machine of a profile and of so many pages, which hold its image, is not booted: the number is outside the profile's limits, or the
-- boot is refused memory
abbrev pub IsNotBooted : Profile → ℕ → BootError → Type 0
IsNotBooted profile pages error = ((error ≡ unbooted.Limits) × ¬ IsPageCount profile pages) ⊎ (error ≡ unbooted.Memory)

-- of a machine that is booted and run, or booted and shown: the boot is refused memory, or what follows it is
abbrev pub IsWant : Fault → Type 0
IsWant (Boot error) = error ≡ unbooted.Memory
IsWant Memory = Unit {0}
IsWant other = ⊥

-- of a raw image: its file can't be read, the file is empty or too long, or the number of pages is outside its limits
abbrev pub IsRawFault : Exec → Fault → Type 0
IsRawFault order (File name) = name ≡ order.image
IsRawFault order Raw = Unit {0}
IsRawFault order (Boot error) = (error ≡ unbooted.Limits) × ¬ IsPageCount order.profile order.pages
IsRawFault order Memory = Unit {0}
IsRawFault order other = ⊥

-- of the image of an ELF file: its file can't be read, which is the fault `unread`, or it is refused
abbrev pub IsElfFault : Fault → Fault → Type 0
IsElfFault unread (File name) = File name ≡ unread
IsElfFault unread (Elf fault) = Unit {0}
IsElfFault unread Memory = Unit {0}
IsElfFault unread other = ⊥

-- what is said of a file of these bytes for so many pages: where it is refused for a fault, that is its first
abbrev pub IsElfRefusal : List ℕ → ℕ → Fault → Type 0
IsElfRefusal all pages (File name) = Unit {0}
IsElfRefusal all pages (Elf fault) = first_fault all pages ≡ Some fault
IsElfRefusal all pages Memory = Unit {0}
IsElfRefusal all pages other = ⊥

-- these are the bytes of a file with another identification than that of an executable, for however many pages
abbrev pub IsNoElf : List ℕ → Type 0
IsNoElf all = (pages : ℕ) → first_fault all pages ≡ Some elf_fault.Identification

-- of the image that is run: one of the file, by its format, or the machine is not booted
abbrev pub IsImageFault : Exec → Fault → Type 0
IsImageFault order (File name) = name ≡ order.image
IsImageFault order (Elf fault) = order.format ≡ format.Elf
IsImageFault order Raw = order.format ≡ format.Raw
IsImageFault order (Boot error) = IsNotBooted order.profile order.pages error
IsImageFault order Memory = Unit {0}
IsImageFault order other = ⊥

-- of the image of an ELF file that is run
abbrev pub IsElfRunFault : Exec → Fault → Type 0
IsElfRunFault order (File name) = name ≡ order.image
IsElfRunFault order (Elf fault) = Unit {0}
IsElfRunFault order (Boot error) = (error ≡ unbooted.Limits) × ¬ IsPageCount order.profile order.pages
IsElfRunFault order Memory = Unit {0}
IsElfRunFault order other = ⊥

-- of a run of an image: the file of its log can't be written
abbrev pub IsRunFault : Exec → Fault → Type 0
IsRunFault order (File name) = order.log ≡ Some name
IsRunFault order Memory = Unit {0}
IsRunFault order other = ⊥

-- of a run: one of its image, or of the file of its log, or it is to have a log but the machine keeps none
abbrev pub IsExecFault : Exec → Fault → Type 0
IsExecFault order (File name) = (name ≡ order.image) ⊎ (order.log ≡ Some name)
IsExecFault order (Elf fault) = order.format ≡ format.Elf
IsExecFault order Raw = order.format ≡ format.Raw
IsExecFault order (Boot error) = IsNotBooted order.profile order.pages error
IsExecFault order (Log refusal) = (refusal ≡ log.Flat) × (order.kind ≡ machine.Flat) × (is_some order.log ≡ true)
IsExecFault order Memory = Unit {0}
IsExecFault order other = ⊥

-- of a replay: a file can't be read, the image is refused for the pages of the log, the log is refused, or the boot is refused
-- memory
abbrev pub IsReplayFault : Replay → Fault → Type 0
IsReplayFault order (File name) = (name ≡ order.image) ⊎ (name ≡ order.log)
IsReplayFault order (Elf fault) = order.format ≡ format.Elf
IsReplayFault order Raw = order.format ≡ format.Raw
IsReplayFault order (Boot error) = error ≡ unbooted.Memory
IsReplayFault order (Log refusal) = Unit {0}
IsReplayFault order Memory = Unit {0}
IsReplayFault order other = ⊥

-- of the disassembly of a file: it can't be read, or it is refused
abbrev pub IsDisFault : Dis → Fault → Type 0
IsDisFault order (File name) = name ≡ order.image
IsDisFault order (Elf fault) = Unit {0}
IsDisFault order Memory = Unit {0}
IsDisFault order other = ⊥

-- the assembler's error, as a command's
abbrev pub fault_of : AsmError → Fault
fault_of (asm_error.Fault fault line) = Asm fault line
fault_of (asm_error.Memory a) = Memory

-- what is wrong with the items of a log's file, as a command's fault
abbrev pub log_fault_of : ReadError → Fault
log_fault_of (read_error.Fault fault) = Log (log.File fault)
log_fault_of read_error.Memory = Memory

-- the number of a refused log: 0 where there is none, 1 to 4 and 6 for a fault of the file, 5 for an item that the machine refuses
abbrev pub log_refusal_number : LogRefusal → ℕ
log_refusal_number log.Flat = 0
log_refusal_number (log.File fault) = number_of fault
log_refusal_number log.Item = 5

-- of the executable of a source: its file can't be read, which is the fault `unread`, or the source is refused
abbrev pub IsAsmFault : Fault → Fault → Type 0
IsAsmFault unread (File name) = File name ≡ unread
IsAsmFault unread (Asm fault line) = Unit {0}
IsAsmFault unread Memory = Unit {0}
IsAsmFault unread other = ⊥

-- what is said of a source of these bytes: where it is refused for a fault, that is its first, with its line
abbrev pub IsAsmRefusal : List ℕ → Fault → Type 0
IsAsmRefusal all (File name) = Unit {0}
IsAsmRefusal all (Asm fault line) = assembly.first_fault (source_text all) ≡ Some (fault, line)
IsAsmRefusal all Memory = Unit {0}
IsAsmRefusal all other = ⊥

-- of a source that is assembled into a file: one of the executable, or of the file that it is written to
abbrev pub IsAsmRunFault : AsmOrder → Fault → Type 0
IsAsmRunFault order (File name) = (name ≡ order.source) ⊎ (name ≡ order.output)
IsAsmRunFault order (Asm fault line) = Unit {0}
IsAsmRunFault order Memory = Unit {0}
IsAsmRunFault order other = ⊥

-- the text is no script: this is its first line that is refused
abbrev pub IsRefusedScript : List ℕ → ℕ → Type 0
IsRefusedScript text line = scripts.script_of text ≡ Err line

-- of the text of a script: it is refused
abbrev pub IsScriptFault : List ℕ → Fault → Type 0
IsScriptFault text (Script line) = IsRefusedScript text line
IsScriptFault text Memory = Unit {0}
IsScriptFault text other = ⊥

-- of the file of a guest: it can't be read, or it is refused
abbrev pub IsFileFault : Fault → Type 0
IsFileFault (File name) = Unit {0}
IsFileFault (Elf fault) = Unit {0}
IsFileFault Memory = Unit {0}
IsFileFault other = ⊥

-- of a directory for logs
abbrev pub IsDirectoryFault : Fault → Type 0
IsDirectoryFault (File name) = Unit {0}
IsDirectoryFault Memory = Unit {0}
IsDirectoryFault other = ⊥

-- a text is a script of more than 16 guests, or of a number of no profile
abbrev pub HasTooManyGuests : List ℕ → Type 0
HasTooManyGuests text = (script : scripts.Script) → scripts.script_of text ≡ Ok script → 16 < length script.header.guests

abbrev pub HasNoProfile : List ℕ → Type 0
HasNoProfile text = (script : scripts.Script) → scripts.script_of text ≡ Ok script → (profile : Profile) → ¬ IsProfileOf script.header.profile profile

-- of a script that is to be done, and the files of its guests
abbrev pub IsLoadFault : List ℕ → Fault → Type 0
IsLoadFault text (Script line) = IsRefusedScript text line
IsLoadFault text (Boot error) = (error ≡ unbooted.Limits) × (HasTooManyGuests text ⊎ HasNoProfile text)
IsLoadFault text (File name) = Unit {0}
IsLoadFault text (Elf fault) = Unit {0}
IsLoadFault text Memory = Unit {0}
IsLoadFault text other = ⊥

-- of a world that is to be booted, and of what is replied in it
abbrev pub IsBootFault : Fault → Type 0
IsBootFault (Boot error) = Unit {0}
IsBootFault other = ⊥

abbrev pub IsToldFault : SimFault → Type 0
IsToldFault (sim.Refused fault) = IsBootFault fault
IsToldFault sim.Memory = Unit {0}
IsToldFault sim.Output = Unit {0}

-- of a script that is refused: it is none, or the file of a guest is refused, or the world
abbrev pub IsRefusal : List ℕ → Fault → Type 0
IsRefusal text (Script line) = IsRefusedScript text line
IsRefusal text (File name) = Unit {0}
IsRefusal text (Elf fault) = Unit {0}
IsRefusal text (Boot error) = Unit {0}
IsRefusal text Memory = Unit {0}
IsRefusal text other = ⊥

-- of a script that is done: it is refused, or what follows its boot is not whole
abbrev pub IsSimFault : List ℕ → SimFault → Type 0
IsSimFault text (sim.Refused fault) = IsRefusal text fault
IsSimFault text sim.Memory = Unit {0}
IsSimFault text sim.Output = Unit {0}
