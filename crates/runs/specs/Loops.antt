-- Where a machine goes round in one place for ever: a branch or jump to itself, with a NOP in its delay slot.
use Rattle.std.specs.Prelude.{ℕ, Bool, false, ◌==◌, ◌&&◌, not, is_none, if◌then◌else◌, List, Option, Some, None, Result, Ok, Err}
use Rattle.mips_cp0.specs.declared.exception.Exc.{Exc}
use Rattle.mips_cp0.specs.Bits.{with_bits}
use Rattle.mips_cp0.specs.Cause.{cause_ip7}
use Rattle.mips_cp0.specs.Interrupts.{is_taken}
use Rattle.mips_cp0.specs.Registers.{SystemRegisters}
use Rattle.mips_cp0.specs.Time.{after_ticks}
use Rattle.mips_instr.specs.Targets.{slot_address, branch_target, jump_target}
use Rattle.mips_instr.specs.declared.instr.Instr.{Instr}
use Rattle.mips_instr.specs.declared.instr.Instr.TheVariants as instr
use Rattle.mips_instr.specs.declared.instr.JumpOp.{JumpOp}
use Rattle.mips_instr.specs.declared.instr.JumpOp.TheVariants.{J, Jal}
use Rattle.mips_alu.specs.Comparing.{compare_result}
use Rattle.mips_tlb.specs.declared.kind.Kind.TheVariants.{Fetch}
use Rattle.machine.specs.declared.access.Size.TheVariants.{Word}
use Rattle.machine.specs.Processor.{Processor, reg}
use Rattle.machine.specs.Board.{Board, is_given_page, is_in_memory, value_in, lines_of}
use Rattle.machine.specs.Places.{place}
use Rattle.machine.specs.Meaning.{branch_condition, zero_condition, links}
use Rattle.machine.specs.Operations.{instruction_of}
use Rattle.machine.specs.Step.{Machine}
use Rattle.machine.specs.Replies.{bytes_at}
use Rattle.word32.specs.Pages.{page_number}
use Rattle.word32.specs.Words.{word_in}

-- whether a fetch at a physical address is answered by memory, and by no page that is given to the balloon
abbrev pub is_answered : Board → ℕ → Bool
is_answered board at = is_in_memory board Word at && not (is_given_page (page_number at) board)

-- the word that such a fetch gives, by its place
abbrev pub word_at_place : Board → Result ℕ Exc → Option ℕ
word_at_place board (Err e) = None
word_at_place board (Ok at) = if is_answered board at then Some (value_in board.memory Word at) else None

-- the word at a virtual address, as a debugger reads it
abbrev pub read_as_word : Option (List ℕ) → Option ℕ
read_as_word None = None
read_as_word (Some bytes) = Some (word_in bytes 0)

abbrev pub word_read : Machine → ℕ → Option ℕ
word_read m address = read_as_word (bytes_at m address 4)

-- the word that a fetch at a virtual address gives, where it raises no exception
abbrev pub fetched_word : Machine → ℕ → Option ℕ
fetched_word m address = word_at_place m.board (place Fetch Word m.cpu address)

abbrev pub taken_to : Bool → ℕ → Option ℕ
taken_to taken target = if taken then Some target else None

abbrev pub jumped_to : JumpOp → ℕ → Option ℕ
jumped_to J target = Some target
jumped_to Jal target = None

-- where a branch that is taken or a jump leads, of those that write no register
abbrev pub led_to : Processor → Instr → Option ℕ
led_to cpu (instr.Branch op rs rt offset) =
    taken_to (compare_result (branch_condition op) (reg cpu rs) (reg cpu rt)) (branch_target cpu.pc offset)
led_to cpu (instr.BranchZero op rs offset) =
    taken_to (not (links op) && compare_result (zero_condition op) (reg cpu rs) 0) (branch_target cpu.pc offset)
led_to cpu (instr.Jump op target) = jumped_to op (jump_target cpu.pc target)
led_to cpu (instr.JumpRegister rs) = Some (reg cpu rs)
led_to cpu other = None

abbrev pub word_leads : Processor → Option Instr → Option ℕ
word_leads cpu None = None
word_leads cpu (Some i) = led_to cpu i

abbrev pub is_number : ℕ → Option ℕ → Bool
is_number n None = false
is_number n (Some k) = k == n

-- whether a word that is fetched at PC leads back to PC
abbrev pub leads_back : Processor → Option ℕ → Bool
leads_back cpu None = false
leads_back cpu (Some word) = is_number cpu.pc (word_leads cpu (instruction_of word))

-- whether no interrupt is taken while these lines are raised, with the timer's interrupt as it stands, and none if it is pending
abbrev pub is_quiet : ℕ → SystemRegisters → Bool
is_quiet lines r = not (is_taken lines r.status r.cause) && not (is_taken lines r.status (with_bits cause_ip7 r.cause))

-- PC stands in no delay slot, at a branch or jump to itself, before a NOP; and no interrupt comes
abbrev pub is_loop : Machine → Bool
is_loop m =
    is_none m.cpu.slot
    && leads_back m.cpu (fetched_word m m.cpu.pc)
    && is_number 0 (fetched_word m (slot_address m.cpu.pc))
    && is_quiet (lines_of m.board) m.cpu.cp0

-- ---- for ever

-- the machine with its clock so many ticks on
abbrev pub at_branch : ℕ → Machine → Machine
at_branch k m = record m { cpu = record m.cpu { cp0 = after_ticks k m.cpu.cp0 } }

-- the same in the delay slot of the branch at PC, which leads back
abbrev pub in_its_slot : ℕ → Machine → Machine
in_its_slot k m = record m { cpu = record m.cpu { pc = slot_address m.cpu.pc; slot = Some m.cpu.pc; cp0 = after_ticks k m.cpu.cp0 } }
