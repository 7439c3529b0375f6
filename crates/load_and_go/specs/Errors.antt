-- What the errors say.
use Rattle.std.specs.Prelude.{◌≡◌, ℕ, List, Some}
use Rattle.elf32.specs.declared.fault.ElfError.{ElfError}
use Rattle.elf32.specs.declared.fault.ElfError.TheVariants as elf
use Rattle.masm.specs.declared.error.AsmError.{AsmError}
use Rattle.masm.specs.declared.error.AsmError.TheVariants as asm
use Rattle.masm.specs.Assembly.{first_fault}
use Rattle.load_and_go.specs.Executables.{IsRefusedFor}
use Rattle.load_and_go.specs.declared.error.TextError.{TextError}
use Rattle.load_and_go.specs.declared.error.TextError.TheVariants.{Assembler, Executable, Memory}

-- a fault of the text or of its executable is the first one, of the executable for a machine with so many pages
abbrev pub IsErrorOf : List ℕ → ℕ → TextError → Type 0
IsErrorOf text pages (Assembler fault line) = first_fault text ≡ Some (fault, line)
IsErrorOf text pages (Executable fault) = IsRefusedFor text pages fault
IsErrorOf text pages Memory = Unit {0}

-- an error of assembling, of reading
abbrev pub of_assembling : AsmError → TextError
of_assembling (asm.Fault fault line) = Assembler fault line
of_assembling (asm.Memory e) = Memory

abbrev pub of_reading : ElfError → TextError
of_reading (elf.Fault fault) = Executable fault
of_reading elf.Memory = Memory
