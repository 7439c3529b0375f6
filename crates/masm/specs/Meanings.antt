-- What a statement means at its place, once all names are known.
use Rattle.std.specs.Prelude.{ℕ, ◌-◌, ◌/◌, ◌%◌, ◌^◌, ◌==◌, ◌&&◌, nat_le, nat_lt, if◌then◌else◌, List, [], ◌∷◌, ◌++◌, length, Result, Ok, Err}
use Rattle.std.specs.Int.{to_le_bytes, w32}
use Rattle.word32.specs.Zeros.{zeros}
use Rattle.mips_instr.specs.Targets.{slot_address}
use Rattle.mips_instr.specs.declared.instr.Instr.{Instr}
use Rattle.mips_instr.specs.declared.instr.Instr.TheVariants as instr
use Rattle.mips_instr.specs.declared.instr.ImmediateOp.TheVariants.{Ori}
use Rattle.masm_lines.specs.Operands.{Value, Number, Name}
use Rattle.masm_lines.specs.Ranges.{word_bits}
use Rattle.masm.specs.Names.{Names, known_address, value_address}
use Rattle.masm_lines.specs.Statements.{Statement, Instruction, Transfer, Load, Word, AddressOf, Words, Byte, Data, Space, Org, Entry}
use Rattle.masm_lines.specs.Steps.{◌>>=◌}
use Rattle.masm_lines.specs.declared.fault.AsmFault.{AsmFault}
use Rattle.masm_lines.specs.declared.fault.AsmFault.TheVariants as fault

-- what a listing has at an address
pub data Content : Type 0 where
  Code : Instr → Content
  -- two instructions, one behind the other
  Pair : Instr → Instr → Content
  Bytes : List ℕ → Content

abbrev pub item_size : Content → ℕ
item_size (Code i) = 4
item_size (Pair i j) = 8
item_size (Bytes bytes) = length bytes

-- how many words a target is behind a slot or before it, as 16 bits
unfoldable pub words_between : ℕ → ℕ → Result ℕ AsmFault
words_between slot target =
    if nat_le slot target
    then (if nat_lt ((target - slot) / 4) (2 ^ 15) then Ok ((target - slot) / 4) else Err fault.Range)
    else (if nat_le ((slot - target) / 4) (2 ^ 15) then Ok ((2 ^ 16 - (slot - target) / 4) % 2 ^ 16) else Err fault.Range)

-- the offset in words from the delay slot, as 16 bits, by which a branch at an address leads to a target
unfoldable pub branch_offset : ℕ → ℕ → Result ℕ AsmFault
branch_offset address target =
    if nat_lt 0 (target % 4) then Err fault.Range else words_between (slot_address address) target

-- the index in words by which a jump at an address leads to a target: within the delay slot's region of 2^28 bytes
unfoldable pub jump_index : ℕ → ℕ → Result ℕ AsmFault
jump_index address target =
    if target % 4 == 0 && target / 2 ^ 28 == slot_address address / 2 ^ 28 then Ok (target % 2 ^ 28 / 4) else Err fault.Range

-- a branch or a jump at an address, with the target that it is to lead to
abbrev pub aimed : Instr → ℕ → ℕ → Result Instr AsmFault
aimed (instr.Branch op rs rt _) address target = branch_offset address target >>= λ offset. Ok (instr.Branch op rs rt offset)
aimed (instr.BranchZero op rs _) address target = branch_offset address target >>= λ offset. Ok (instr.BranchZero op rs offset)
aimed (instr.Jump op _) address target = jump_index address target >>= λ index. Ok (instr.Jump op index)
aimed i address target = Ok i

-- LUI and ORI: the upper half of a number, and then the lower one
abbrev pub loaded : ℕ → ℕ → Content
loaded rt n = Pair (instr.LoadUpper rt (n / 2 ^ 16)) (instr.Immediate Ori rt rt (n % 2 ^ 16))

-- the word that a number or a name is
abbrev pub value_word : Names → Value → Result ℕ AsmFault
value_word names (Number n) = word_bits n
value_word names (Name name) = known_address names name

-- the bytes of words
abbrev pub words_bytes : Names → List Value → Result (List ℕ) AsmFault
words_bytes names [] = Ok []
words_bytes names (value ∷ more) = value_word names value >>= λ n. words_bytes names more >>= λ bytes. Ok (to_le_bytes w32 n ++ bytes)

-- what a statement puts at its place
unfoldable pub item_of : Names → ℕ → Statement → Result Content AsmFault
item_of names address (Instruction i) = Ok (Code i)
item_of names address (Transfer i value) = value_address names value >>= λ target. aimed i address target >>= λ whole. Ok (Code whole)
item_of names address (Load rt value) = value_address names value >>= λ n. Ok (loaded rt n)
item_of names address (Word n) = Ok (Bytes (to_le_bytes w32 n))
item_of names address (AddressOf name) = known_address names name >>= λ n. Ok (Bytes (to_le_bytes w32 n))
item_of names address (Words values) = words_bytes names values >>= λ bytes. Ok (Bytes bytes)
item_of names address (Byte n) = Ok (Bytes (n ∷ []))
item_of names address (Data alignment bytes) = Ok (Bytes bytes)
item_of names address (Space n) = Ok (Bytes (zeros n))
item_of names address (Org start) = Ok (Bytes [])
item_of names address (Entry name) = known_address names name >>= λ n. Ok (Bytes [])
