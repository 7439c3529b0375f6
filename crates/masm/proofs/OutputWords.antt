-- The items of statements of a word.
use Rattle.std.proofs.Common.{◌≡◌, ℕ, ◌+◌, ◌-◌, List, [], ◌∷◌, ◌++◌, length, refl, ◌∙◌, arith, Ok, Err, Result, take, replicate, IfOk}
use Rattle.std.specs.Int.{to_le_bytes, w32}
use Rattle.std.proofs.lemmas.List.{take_all}
use Rattle.mips_isa.specs.Table.{readings}
use Rattle.mips_instr.specs.declared.instr.Instr.{Instr}
use Rattle.masm.specs.Meanings.{Content, Code, Bytes, item_of, aimed}
use Rattle.masm.specs.Images.{StandFor}
use Rattle.masm.specs.Answers.{IsOutput}
use Rattle.masm.specs.Listings.{Output, next_place}
use Rattle.masm.specs.declared.output.Output.{Output as OutputCode}
use Rattle.masm_lines.specs.declared.fault.AsmFault.{AsmFault}
use Rattle.masm.specs.Names.{Names, value_address, known_address}
use Rattle.masm_lines.specs.Operands.{Value}
use Rattle.masm_lines.specs.Statements.{Statement, Instruction, Transfer, Word, AddressOf}
use Rattle.masm_lines.specs.Steps.{◌>>=◌}
use Rattle.masm.proofs.OutputItems.{bytes_size}

pub zeros_behind : (items : List ℕ) (n count len : ℕ) → n ≡ length items → len ≡ length items → take (n + count) items ++ replicate (n + count - len) 0 ≡ items ++ replicate count 0
zeros_behind items n count len e f =
    let whole : take (n + count) items ≡ items = take_all (n + count) items (omega arith) in
    let rest : n + count - len ≡ count = omega arith in
    rw (whole, rest)

pub place_is : (code : OutputCode) (output : Output) → IsOutput code output → next_place output ≡ code.address + length code.bytes.items
place_is code output is = let a = is.address in let b = bytes_size code.bytes.items output.current.items is.bytes in omega arith

-- the word stands for the item of the statement
abbrev pub IsWordOf : Names → ℕ → Statement → ℕ → Type 0
IsWordOf known address s word = (item : Content) × (item_of known address s ≡ Ok item) × StandFor (to_le_bytes w32 word) item

pub instruction_word : (known : Names) (address : ℕ) (s : Statement) (i : Instr) (word : ℕ) → s ≡ Instruction i → readings word ≡ i ∷ [] → IsWordOf known address s word
unfolding item_of
instruction_word known address s i word e r = (Code i, rw e, (word, refl, r))

pub data_word : (known : Names) (address : ℕ) (s : Statement) (word : ℕ) → s ≡ Word word → IsWordOf known address s word
unfolding item_of
data_word known address s word e = (Bytes (to_le_bytes w32 word), rw e, refl)

pub address_word : (known : Names) (address : ℕ) (s : Statement) (name : List ℕ) (r : Result ℕ AsmFault) → s ≡ AddressOf name → r ≡ known_address known name → IfOk r (IsWordOf known address s)
unfolding item_of
address_word known address s name (Ok word) e f = (Bytes (to_le_bytes w32 word), rw (e, ← f), refl)
address_word known address s name (Err fault) e f = tt

-- a branch or a jump
transfer_item : (known : Names) (address : ℕ) (i : Instr) (v : Value) (target : ℕ) → value_address known v ≡ Ok target → item_of known address (Transfer i v) ≡ (aimed i address target >>= λ whole. Ok (Code whole))
unfolding item_of
transfer_item known address i v target f = rw f

pub transfer_word : (known : Names) (address : ℕ) (s : Statement) (i whole : Instr) (v : Value) (target word : ℕ) → s ≡ Transfer i v → value_address known v ≡ Ok target → aimed i address target ≡ Ok whole → readings word ≡ whole ∷ [] → IsWordOf known address s word
transfer_word known address s i whole v target word e f g r = (Code whole, rw e (transfer_item known address i v target f ∙ rw g), (word, refl, r))

pub transfer_fault : (known : Names) (address : ℕ) (s : Statement) (i : Instr) (v : Value) (target : ℕ) (fault : AsmFault) → s ≡ Transfer i v → value_address known v ≡ Ok target → aimed i address target ≡ Err fault → item_of known address s ≡ Err fault
transfer_fault known address s i v target fault e f g = rw e (transfer_item known address i v target f ∙ rw g)
