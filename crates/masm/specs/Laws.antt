-- What the reading of lines has to do with their printing.
use Rattle.std.specs.Prelude.{◌≡◌, ℕ, ◌<◌, ◌^◌, List, Some, None, Ok}
use Rattle.std.specs.Int.{to_le_bytes, w32}
use Rattle.mips_instr.specs.Coprocessor.{coprocessor_word}
use Rattle.mips_instr.specs.declared.instr.Instr.{Instr}
use Rattle.mips_instr.specs.declared.instr.Instr.TheVariants as instr
use Rattle.masm_lines.specs.Grammar.{line_of}
use Rattle.masm.specs.Meanings.{Content, Code, Bytes, item_of}
use Rattle.masm.specs.Names.{Names}
use Rattle.masm_lines.specs.Statements.{Statement}

-- the operands of an instruction are those that the fields of its word can hold
abbrev pub HasFields : Instr → Type 0
HasFields (instr.ThreeRegister op rd rs rt) = (rd < 32) × (rs < 32) × (rt < 32)
HasFields (instr.ConditionalMove op rd rs rt) = (rd < 32) × (rs < 32) × (rt < 32)
HasFields (instr.Shift op rd rt sa) = (rd < 32) × (rt < 32) × (sa < 32)
HasFields (instr.ShiftVariable op rd rt rs) = (rd < 32) × (rt < 32) × (rs < 32)
HasFields (instr.MoveFrom op rd) = rd < 32
HasFields (instr.MoveTo op rs) = rs < 32
HasFields (instr.Multiply op rs rt) = (rs < 32) × (rt < 32)
HasFields (instr.Divide op rs rt) = (rs < 32) × (rt < 32)
HasFields (instr.Count op rd rs) = (rd < 32) × (rs < 32)
HasFields (instr.Trap op rs rt code) = (rs < 32) × (rt < 32) × (code < 2 ^ 10)
HasFields (instr.TrapImmediate op rs imm) = (rs < 32) × (imm < 2 ^ 16)
HasFields (instr.Syscall code) = code < 2 ^ 20
HasFields (instr.Break code) = code < 2 ^ 20
HasFields (instr.Sync stype) = stype < 32
HasFields (instr.Branch op rs rt offset) = (rs < 32) × (rt < 32) × (offset < 2 ^ 16)
HasFields (instr.BranchZero op rs offset) = (rs < 32) × (offset < 2 ^ 16)
HasFields (instr.Jump op target) = target < 2 ^ 26
HasFields (instr.JumpRegister rs) = rs < 32
HasFields (instr.JumpLinkRegister rd rs) = (rd < 32) × (rs < 32)
HasFields (instr.Immediate op rt rs imm) = (rt < 32) × (rs < 32) × (imm < 2 ^ 16)
HasFields (instr.LoadUpper rt imm) = (rt < 32) × (imm < 2 ^ 16)
HasFields (instr.Load op rt base offset) = (rt < 32) × (base < 32) × (offset < 2 ^ 16)
HasFields (instr.Store op rt base offset) = (rt < 32) × (base < 32) × (offset < 2 ^ 16)
HasFields (instr.Cache op hint base offset) = (hint < 32) × (base < 32) × (offset < 2 ^ 16)
HasFields (instr.Cp0Move op rt rd select) = (rt < 32) × (rd < 32) × (select < 8)
HasFields (instr.Tlb op) = Unit {0}
HasFields instr.Eret = Unit {0}
HasFields (instr.Wait code) = code < 2 ^ 19
HasFields (instr.Coprocessor op code) = code < 2 ^ 26

-- what a printed line puts: its instruction, and the word of an instruction of coprocessor 1 or 2
abbrev pub item_printed : Instr → Content
item_printed (instr.Coprocessor op code) = Bytes (to_le_bytes w32 (coprocessor_word op code))
item_printed i = Code i

-- a text is a line without a label whose statement puts an item at an address, whatever names there are
abbrev pub LinePuts : List ℕ → ℕ → Content → Type 0
LinePuts text address item =
    (s : Statement) × (line_of text ≡ Ok (record { label = None; statement = Some s })) × ((names : Names) → item_of names address s ≡ Ok item)
