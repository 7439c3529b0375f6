-- A name and operands as a line, and what the line puts.
use Rattle.std.proofs.Common.{◌≡◌, ℕ, ◌<◌, true, false, not, List, [], ◌∷◌, ◌++◌, length, take, refl, ap, sym, ◌∙◌, arith, append_assoc, Ok, Some, None}
use Rattle.std.specs.List.{list_all, suffix_len}
use Rattle.std.specs.Char.{is_ascii}
use Rattle.std.proofs.Math.Bool.{and-false}
use Rattle.std.proofs.lemmas.Bool.{ltb-true}
use Rattle.mips_instr.specs.declared.instr.Instr.{Instr}
use Rattle.std.proofs.Math.Seq.{take-length, drop-append_seam, get_or-append_seam}
use Rattle.std.proofs.lemmas.List.{length-append}
use Rattle.masm_lines.specs.Characters.{is_blank, begins_comment, continues_name}
use Rattle.masm_lines.specs.Comments.{place_behind, is_comment_at, uncommented}
use Rattle.masm_lines.specs.declared.comment.Place.{Place}
use Rattle.masm_lines.specs.declared.comment.Place.TheVariants.{Plain, Quoted, Escaped}
use Rattle.masm_lines.specs.declared.operation.OperandForm.TheVariants.{Separate}
use Rattle.masm_lines.specs.Grammar.{body_of, label_of, statement_in, statement_or_nothing, line_of}
use Rattle.masm_lines.specs.Tokens.{trimmed_start, is_name}
use Rattle.masm_lines.specs.Operands.{Written}
use Rattle.masm_lines.specs.Operations.{operation_of, statement_of, instruction_statement, operand_form, statement_with}
use Rattle.masm_lines.specs.Statements.{Statement}
use Rattle.masm_lines.specs.declared.operation.Operation.{Operation}
use Rattle.masm_lines.specs.declared.operation.Operation.TheVariants as operation
use Rattle.masm.proofs.TakenApart.{is_dense, dense_ascii, dense_no_blank, dense_no_comment, both, is_false, is_some, all_imply, all_of_two, front_stops, before_it, before_none, back_stops, untrimmed, AreOperands}
use Rattle.masm.proofs.PrintedNames.{IsName}

-- no label stands before a blank
no_label : (name more : List ℕ) → list_all continues_name name ≡ true → label_of (name ++ 32 ∷ more) ≡ None
unfolding label_of
no_label name more h =
    rw (front_stops continues_name name 32 more h refl, get_or-append_seam name 32 more 0, and-false (is_name (take (length name) (name ++ 32 ∷ more)))) refl

-- a line of dense texts has no comment
no_comment : (name ops : List ℕ) → list_all is_dense name ≡ true → list_all is_dense ops ≡ true → list_all (λ c. not (begins_comment c)) (name ++ 32 ∷ ops) ≡ true
no_comment name ops n o = all_of_two (λ c. not (begins_comment c)) name (32 ∷ ops) (all_imply is_dense (λ c. not (begins_comment c)) dense_no_comment name n) (all_imply is_dense (λ c. not (begins_comment c)) dense_no_comment ops o)

-- a text without `#` has no comment, whatever quotes it has
no_comment_at : (place : Place) (c : ℕ) → begins_comment c ≡ false → is_comment_at place c ≡ false
no_comment_at Plain c h = h
no_comment_at Quoted c h = refl
no_comment_at Escaped c h = refl

uncommented_whole : (place : Place) (text : List ℕ) → list_all (λ c. not (begins_comment c)) text ≡ true → uncommented place text ≡ length text
uncommented_whole place [] h = refl
uncommented_whole place (c ∷ cs) h =
    let parts = both (not (begins_comment c)) (list_all (λ c. not (begins_comment c)) cs) h in
    let more = uncommented_whole (place_behind place c) cs parts.1 in
    rw (no_comment_at place c (is_false (begins_comment c) parts.0)) (omega (arith, more))

uncommented_none : (text : List ℕ) → list_all (λ c. not (begins_comment c)) text ≡ true → take (uncommented Plain text) text ≡ text
uncommented_none text h = rw (uncommented_whole Plain text h) (take-length text)

-- a line of dense texts is its own body
whole_body : (name ops : List ℕ) → 0 < length name → 0 < length ops → list_all is_dense name ≡ true → list_all is_dense ops ≡ true → body_of (name ++ 32 ∷ ops) ≡ name ++ 32 ∷ ops
unfolding body_of
whole_body [] ops some more n o = absurd (omega (arith, some))
whole_body (c ∷ name) ops some more n o =
    let first = (both (is_dense c) (list_all is_dense name) n).0 in
    let blanks : suffix_len is_blank ((c ∷ name) ++ 32 ∷ ops) ≡ 0 =
    ap (suffix_len is_blank) (sym (append_assoc (c ∷ name) (32 ∷ []) ops)) ∙ back_stops is_blank ((c ∷ name) ++ 32 ∷ []) ops more (all_imply is_dense (λ x. not (is_blank x)) dense_no_blank ops o) in
    rw (uncommented_none ((c ∷ name) ++ 32 ∷ ops) (no_comment (c ∷ name) ops n o)) (untrimmed c name (32 ∷ ops) (dense_no_blank c first) blanks)

-- the blank before the operands is skipped
blank_skipped : (ops : List ℕ) → 0 < length ops → list_all is_dense ops ≡ true → trimmed_start (32 ∷ ops) ≡ ops
unfolding trimmed_start
blank_skipped [] some o = refl
blank_skipped (c ∷ ops) some o =
    rw (is_false (is_blank c) (dense_no_blank c (both (is_dense c) (list_all is_dense ops) o).0)) refl

-- a name and operands are read as their statement
statement_is : (name ops : List ℕ) (o : Operation) (ws : List Written) (s : Statement) → list_all is_dense name ≡ true → operation_of name ≡ Ok o → operand_form o ops ≡ Separate → AreOperands ops ws → statement_of o ws ≡ Ok s → statement_in (name ++ 32 ∷ ops) ≡ Ok s
unfolding statement_in statement_with
statement_is name ops o ws s dense named form are is =
    rw (before_it is_blank name 32 ops (all_imply is_dense (λ x. not (is_blank x)) dense_no_blank name dense) refl, named, drop-append_seam name (32 ∷ ops), blank_skipped ops are.some are.dense, form, are.read) is

-- a line is read as the statement of its name and operands
pub line_read : (name ops : List ℕ) (o : Operation) (ws : List Written) (s : Statement) → 0 < length name → list_all is_dense name ≡ true → label_of (name ++ 32 ∷ ops) ≡ None → operation_of name ≡ Ok o → operand_form o ops ≡ Separate → AreOperands ops ws → statement_of o ws ≡ Ok s → line_of (name ++ 32 ∷ ops) ≡ Ok (record { label = None; statement = Some s })
unfolding line_of statement_or_nothing
line_read name ops o ws s some dense unlabelled named form are is =
    let ascii = all_of_two is_ascii name (32 ∷ ops) (all_imply is_dense is_ascii dense_ascii name dense) (all_imply is_dense is_ascii dense_ascii ops are.dense) in
    let size : 0 < length (name ++ 32 ∷ ops) = omega (arith, length-append name (32 ∷ ops)) in
    rw (ascii, whole_body name ops some are.some dense are.dense, unlabelled, is_some (length (name ++ 32 ∷ ops)) size, statement_is name ops o ws s dense named form are is) refl

-- a line of an instruction
pub instruction_line : (name ops : List ℕ) (blank : Instr) (ws : List Written) (s : Statement) → IsName name blank → AreOperands ops ws → instruction_statement blank ws ≡ Ok s → line_of (name ++ 32 ∷ ops) ≡ Ok (record { label = None; statement = Some s })
instruction_line name ops blank ws s is are reads =
    line_read name ops (operation.Instruction blank) ws s (ltb-true 0 (length name) is.some) is.dense (no_label name ops is.continues) is.operation refl are reads
