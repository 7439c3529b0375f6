-- The text of a dump.
use Rattle.std.specs.Prelude.{ℕ, ◌+◌, List, [], ◌∷◌, ◌++◌, codes, decimal, flat_map, Option, Some, None}
use Rattle.mips_instr.specs.Operands.{hex_byte}
use Rattle.mips_cp0.specs.Access.{register_value}
use Rattle.mips_cp0.specs.declared.register.SystemRegister.TheVariants.{Cause}
use Rattle.machine.specs.Processor.{Processor, reg}
use Rattle.machine.specs.Step.{Machine}
use Rattle.machine.specs.Board.{lines_of}
use Rattle.masm.specs.Disassembly.{hex_word}
use Rattle.guest_log.specs.declared.stop.Stop.{Stop}
use Rattle.guest_log.specs.Stops.{stop_number}

-- a word behind its label
unfoldable pub field_text : List ℕ → ℕ → List ℕ
field_text label word = label ++ hex_word word

-- two words, each behind a blank
abbrev pub pair_text : ℕ → ℕ → List ℕ
pair_text a b = field_text (codes " ") a ++ field_text (codes " ") b

-- a line of a label and four words
abbrev pub row_text : List ℕ → ℕ → ℕ → ℕ → ℕ → List ℕ
row_text label a b c d = label ++ pair_text a b ++ pair_text c d ++ codes "\n"

-- the general register of a number and the three behind it
abbrev pub registers_text : List ℕ → ℕ → Processor → List ℕ
registers_text label first cpu = row_text label (reg cpu first) (reg cpu (first + 1)) (reg cpu (first + 2)) (reg cpu (first + 3))

abbrev pub lower_registers_text : Processor → List ℕ
lower_registers_text cpu =
    registers_text (codes "r00") 0 cpu ++ registers_text (codes "r04") 4 cpu ++ registers_text (codes "r08") 8 cpu ++ registers_text (codes "r12") 12 cpu

abbrev pub upper_registers_text : Processor → List ℕ
upper_registers_text cpu =
    registers_text (codes "r16") 16 cpu ++ registers_text (codes "r20") 20 cpu ++ registers_text (codes "r24") 24 cpu ++ registers_text (codes "r28") 28 cpu

abbrev pub control_text : Processor → List ℕ
control_text cpu = field_text (codes "pc ") cpu.pc ++ field_text (codes " hi ") cpu.hi ++ field_text (codes " lo ") cpu.lo ++ codes "\n"

-- of Cause it has what MFC0 reads while these interrupt lines are raised
abbrev pub system_text : ℕ → Processor → List ℕ
system_text lines cpu =
    field_text (codes "sr ") cpu.cp0.status ++ field_text (codes " cause ") (register_value lines Cause cpu.cp0)
    ++ field_text (codes " epc ") cpu.cp0.epc ++ field_text (codes " badva ") cpu.cp0.bad_vaddr ++ codes "\n"

-- bytes as digits, or a dash where there are none
abbrev pub digits_of : List ℕ → List ℕ
digits_of bytes = flat_map hex_byte bytes

abbrev pub output_digits : List ℕ → List ℕ
output_digits [] = codes "-"
output_digits (b ∷ more) = digits_of (b ∷ more)

abbrev pub output_text : List ℕ → List ℕ
output_text output = codes "out " ++ output_digits output ++ codes "\n"

-- why a run ended before its last step, where it did
abbrev pub stop_text : Option Stop → List ℕ
stop_text None = []
stop_text (Some stop) = codes "stop " ++ decimal (stop_number stop) ++ codes "\n"

abbrev pub steps_text : ℕ → List ℕ
steps_text steps = codes "steps " ++ decimal steps ++ codes "\n"

-- the dump of a machine after so many steps: its processor, with the interrupt lines that its devices raise, what its console's
-- output has, and why it made no more
abbrev pub dump_text : Machine → ℕ → Option Stop → List ℕ
dump_text m steps stop =
    steps_text steps ++ control_text m.cpu ++ lower_registers_text m.cpu ++ upper_registers_text m.cpu ++ system_text (lines_of m.board) m.cpu
    ++ output_text m.board.devices.console.output ++ stop_text stop
