use Rattle.std.proofs.Common.{◌≡◌, ℕ, List, map, ap, subst, ◌∙◌, Result, Err, Some}
use Rattle.std.specs.Prelude.{IfSome}
use Rattle.std.specs.Result.{result_err}
use Rattle.std.specs.Str.Lines.{lines}
use Rattle.elf32.specs.declared.image.Image.{Image}
use Rattle.masm.specs.Answers.{Gives, Knows, fault_in}
use Rattle.masm.specs.Assembly.{Reading, first_pass, second_pass, assembly_of, first_fault}
use Rattle.masm.specs.Images.{IsImageOf}
use Rattle.masm.specs.Listings.{Listing}
use Rattle.masm_lines.specs.Views.{text_view}
use Rattle.masm.specs.declared.error.AsmError.{AsmError}
use Rattle.masm.specs.declared.reading.Names.{Names}
use Rattle.masm.proofs.OutputMeans.{image_told, error_told, fault_told}
use Rattle.masm.proofs.OutputWhole.{behind, from_lines, error_behind}
use Rattle.masm.proofs.assembly.assemble_image.Goals as goal

abbrev IsOf : Image → Listing → Type 0
IsOf image listing = IsImageOf listing image

abbrev Knowing : Names → Reading → Type 0
Knowing names reading = Knows names reading.names

opened : (r : Result Image AsmError) (source : List (List ℕ)) → Gives IsOf r (assembly_of source) → Gives IsOf r (from_lines source)
unfolding assembly_of first_pass second_pass
opened r source h = h

-- an error of the first pass is that of the whole
first_told : (text : List ℕ) (source : List (List ℕ)) (e : AsmError) → source ≡ lines text → Gives Knowing (Err e) (first_pass source) → IfSome (fault_in e) (λ fault. first_fault text ≡ Some fault)
unfolding assembly_of first_pass second_pass
first_told text source e same h =
    subst (λ (s : List (List ℕ)). IfSome (fault_in e) (λ fault. result_err (from_lines s) ≡ Some fault)) same
    (fault_told IsOf e (from_lines source) (error_behind Knowing IsOf e (first_pass source) (behind source) h))

pub returns-in_err-names-clause-fault : goal.returns-in_err-names-clause-fault
returns-in_err-names-clause-fault c =
    error_told (λ (e : AsmError). IfSome (fault_in e) (λ fault. first_fault c.args.text.now ≡ Some fault)) c.from_residual-in_err-names.result c.in_err-names.field-0.0 c.from_residual-in_err-names.ensures.1
    (first_told c.args.text.now (map text_view c.deref.result.now) c.in_err-names.field-0.0 (ap (map text_view) c.deref.ensures.value ∙ c.in_ok-lines.ensures) c.in_err-names.ensures)

pub returns-clause-image : goal.returns-clause-image
returns-clause-image c =
    let same : map text_view c.deref-2.result.now ≡ lines c.args.text.now = ap (map text_view) c.deref-2.ensures.value ∙ c.in_ok-lines.ensures in
    image_told c.args.text.now c.image_of.result (subst (λ (s : List (List ℕ)). Gives IsOf c.image_of.result (from_lines s)) same (opened c.image_of.result (map text_view c.deref-2.result.now) c.image_of.ensures))
