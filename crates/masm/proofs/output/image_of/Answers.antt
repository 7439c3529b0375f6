use Rattle.std.proofs.Common.{◌≡◌, sym, subst, ◌∙◌, List, ℕ, map, Err, refl, Ok}
use Rattle.elf32.specs.declared.image.Image.{Image}
use Rattle.masm.specs.Answers.{IsOutput, Knows, Gives}
use Rattle.masm.specs.Assembly.{Reading, Located, over_lines, first_step, first_reading, first_pass, second_pass, assembly_of, second_step, at_line}
use Rattle.masm.specs.Images.{IsImageOf}
use Rattle.masm.specs.Listings.{Output, Listing, first_output, listing_of}
use Rattle.masm_lines.specs.Views.{text_view}
use Rattle.masm.specs.declared.reading.Names.{Names}
use Rattle.masm.proofs.Passes.{given}
use Rattle.masm.proofs.OutputWhole.{behind, from_lines, from_lines_is, behind_is, error_behind, same_error}
use Rattle.masm.proofs.output.image_of.Goals as goal

abbrev IsOf : Image → Listing → Type 0
IsOf image listing = IsImageOf listing image

abbrev Knowing : Names → Reading → Type 0
Knowing names reading = Knows names reading.names

assembly_is : (source : List (List ℕ)) → from_lines source ≡ assembly_of source
unfolding assembly_of first_pass second_pass
assembly_is source = refl

pass_is : (source : List (List ℕ)) (names : Names) → Gives Knowing (Ok names) (first_pass source) → Gives Knowing (Ok names) (over_lines first_step 1 first_reading source)
unfolding first_pass
pass_is source names h = h

pub put_all-requires : goal.put_all-requires
put_all-requires c = pass_is (map text_view c.args.lines.now) c.args.names.now c.requires

pub returns-in_err-output : goal.returns-in_err-output
returns-in_err-output c =
    let source : List (List ℕ) = map text_view c.args.lines.now in
    let first = given Knowing c.args.names.now (over_lines first_step 1 first_reading source) (pass_is source c.args.names.now c.requires) in
    let refused : Gives IsOf (Err c.in_err-output.field-0.0) (behind source first.0) = error_behind IsOutput IsOf c.in_err-output.field-0.0 (over_lines (second_step first.0.names) 1 first_output source) (λ (o : Output). at_line 0 (listing_of o)) (c.in_err-output.ensures.value first.0 first.1) in
    same_error IsOf c.from_residual.result c.in_err-output.field-0.0 (assembly_of source) c.from_residual.ensures.1
    (subst (λ (found : Located Listing). Gives IsOf (Err c.in_err-output.field-0.0) found) (sym (from_lines_is source first.0 first.1) ∙ assembly_is source) refused)

pub returns : goal.returns
returns c =
    let source : List (List ℕ) = map text_view c.args.lines.now in
    let first = given Knowing c.args.names.now (over_lines first_step 1 first_reading source) (pass_is source c.args.names.now c.requires) in
    let second = given IsOutput c.in_ok-output.output (over_lines (second_step first.0.names) 1 first_output source) (c.in_ok-output.ensures.value first.0 first.1) in
    subst (λ (found : Located Listing). Gives IsOf c.image.result found)
    (sym (behind_is source first.0 second.0 second.1) ∙ sym (from_lines_is source first.0 first.1) ∙ assembly_is source)
    (c.image.ensures second.0 second.2)
