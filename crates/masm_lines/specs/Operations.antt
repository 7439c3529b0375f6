-- How a statement is written: an instruction or a directive with its operands.
use Rattle.std.specs.Prelude.{ℕ, true, false, if◌then◌else◌, List, [], ◌∷◌, find, codes, Option, Some, None, option_map, Result, Ok, Err, ok_or}
use Rattle.std.specs.List.{list_any}
use Rattle.std.specs.Str.{bytes_eq}
use Rattle.mips_instr.specs.declared.instr.Instr.{Instr}
use Rattle.masm_lines.specs.Characters.{is_comma}
use Rattle.masm_lines.specs.Tokens.{is_name, is_directive}
use Rattle.masm_lines.specs.Operands.{Value, Number, Name, Written, Plain, operands_in}
use Rattle.masm_lines.specs.Lists.{list_statement}
use Rattle.masm_lines.specs.Statements.{Statement, Instruction, Transfer, Word, AddressOf, Byte, Space, Org, Entry}
use Rattle.masm_lines.specs.Pseudo.{named_pseudo, pseudo_statement}
use Rattle.masm_lines.specs.Texts.{text_statement}
use Rattle.masm_lines.specs.Ranges.{word_bits, byte_bits, address_bits}
use Rattle.masm_names.specs.Mnemonics.{named_instruction, first_of}
use Rattle.masm_lines.specs.Instructions.{is_well_formed, with_operands, written_target}
use Rattle.masm_lines.specs.Steps.{◌>>=◌}
use Rattle.masm_lines.specs.declared.element.Element.TheVariants as element
use Rattle.masm_lines.specs.declared.operation.Directive.{Directive}
use Rattle.masm_lines.specs.declared.operation.Directive.TheVariants as directive
use Rattle.masm_lines.specs.declared.operation.OperandForm.{OperandForm}
use Rattle.masm_lines.specs.declared.operation.OperandForm.TheVariants as form
use Rattle.masm_lines.specs.declared.operation.Operation.{Operation}
use Rattle.masm_lines.specs.declared.operation.Operation.TheVariants as operation
use Rattle.masm_lines.specs.declared.fault.AsmFault.{AsmFault}
use Rattle.masm_lines.specs.declared.fault.AsmFault.TheVariants as fault

abbrev pub directive_name : Directive → List ℕ
directive_name directive.Org = codes ".org"
directive_name directive.Word = codes ".word"
directive_name directive.Half = codes ".half"
directive_name directive.Byte = codes ".byte"
directive_name directive.Ascii = codes ".ascii"
directive_name directive.Asciiz = codes ".asciiz"
directive_name directive.Space = codes ".space"
directive_name directive.Entry = codes ".entry"

abbrev pub directives : List Directive
directives = directive.Org ∷ directive.Word ∷ directive.Half ∷ directive.Byte ∷ directive.Ascii ∷ directive.Asciiz ∷ directive.Space ∷ directive.Entry ∷ []

unfoldable pub named_directive : List ℕ → Option Directive
named_directive name = find (λ d. bytes_eq (directive_name d) name) directives

-- what the first word of a statement names: a word of another shape is no token, and one that names nothing is an unknown
-- mnemonic
unfoldable pub operation_of : List ℕ → Result Operation AsmFault
operation_of word =
    if is_name word then ok_or (first_of (option_map operation.Instruction (named_instruction word)) (option_map operation.Pseudo (named_pseudo word))) fault.Mnemonic
    else if is_directive word then ok_or (option_map operation.Directive (named_directive word)) fault.Mnemonic
    else Err fault.Syntax

-- an instruction, with its target where it has one
abbrev pub with_target : Instr → Option Value → Statement
with_target i None = Instruction i
with_target i (Some value) = Transfer i value

-- the form of each operand comes before the range of any
unfoldable pub instruction_statement : Instr → List Written → Result Statement AsmFault
instruction_statement blank written =
    if is_well_formed blank written
    then (with_operands blank written >>= λ i. Ok (with_target i (written_target blank written)))
    else Err fault.Operand

unfoldable pub directive_statement : Directive → List Written → Result Statement AsmFault
directive_statement directive.Org (Plain (Number n) ∷ []) = address_bits n >>= λ bits. Ok (Org bits)
directive_statement directive.Word (Plain (Number n) ∷ []) = word_bits n >>= λ bits. Ok (Word bits)
directive_statement directive.Word (Plain (Name name) ∷ []) = Ok (AddressOf name)
directive_statement directive.Byte (Plain (Number n) ∷ []) = byte_bits n >>= λ bits. Ok (Byte bits)
directive_statement directive.Space (Plain (Number n) ∷ []) = address_bits n >>= λ bits. Ok (Space bits)
directive_statement directive.Entry (Plain (Name name) ∷ []) = Ok (Entry name)
directive_statement _ _ = Err fault.Operand

abbrev pub statement_of : Operation → List Written → Result Statement AsmFault
statement_of (operation.Instruction blank) written = instruction_statement blank written
statement_of (operation.Pseudo p) written = pseudo_statement p written
statement_of (operation.Directive d) written = directive_statement d written

-- how the operands of an operation are read. `.word` and `.byte` of one operand are read as other directives are.
abbrev pub operand_form : Operation → List ℕ → OperandForm
operand_form (operation.Directive directive.Word) text = if list_any is_comma text then form.List element.Word else form.Separate
operand_form (operation.Directive directive.Half) text = form.List element.Half
operand_form (operation.Directive directive.Byte) text = if list_any is_comma text then form.List element.Byte else form.Separate
operand_form (operation.Directive directive.Ascii) text = form.Text false
operand_form (operation.Directive directive.Asciiz) text = form.Text true
operand_form _ text = form.Separate

abbrev pub with_operands_in : Operation → List ℕ → Result Statement AsmFault
with_operands_in operation text = operands_in text >>= λ written. statement_of operation written

abbrev pub statement_read : OperandForm → Operation → List ℕ → Result Statement AsmFault
statement_read (form.List element) operation text = list_statement element text
statement_read (form.Text zero) operation text = text_statement zero text
statement_read form.Separate operation text = with_operands_in operation text

-- the statement of an operation with the text behind it
unfoldable pub statement_with : Operation → List ℕ → Result Statement AsmFault
statement_with operation text = statement_read (operand_form operation text) operation text
