use Rattle.std.proofs.Common.{◌≡◌, ◌∙◌, sym, ap, true, false}
use Rattle.std.specs.List.{list_all, before_first}
use Rattle.masm_lines.specs.Characters.{is_comma}
use Rattle.masm_lines.specs.Lists.{is_within, parts}
use Rattle.masm_lines.proofs.Parts.{parts_left, all_step, all_ends}
use Rattle.masm_lines.proofs.elements.are_within.Goals as goal

pub returns-then-not-is_within : goal.returns-then-not-is_within
returns-then-not-is_within c =
    let here : parts_left c.loop-rest.rest ≡ parts c.in-Some.text.now = ap parts_left c.in-Some.is in
    let fails : is_within c.args.element (before_first is_comma c.in-Some.text.now) ≡ false = ap (is_within c.args.element) (sym c.before-in-Some.ensures) ∙ sym c.is_within.ensures ∙ c.if-not-is_within.true in
    sym (all_ends (is_within c.args.element) c.in-Some.text.now fails) ∙ ap (list_all (is_within c.args.element)) (sym here) ∙ c.loop-rest.invariant

pub loop-rest-preserved : goal.loop-rest-preserved
loop-rest-preserved c =
    let here : parts_left c.loop-rest.rest ≡ parts c.in-Some.text.now = ap parts_left c.in-Some.is in
    let holds : is_within c.args.element (before_first is_comma c.in-Some.text.now) ≡ true = ap (is_within c.args.element) (sym c.before-in-Some.ensures) ∙ sym c.is_within.ensures ∙ c.if-not-is_within.false in
    all_step (is_within c.args.element) c.in-Some.text.now c.behind_comma-rest.result c.behind_comma-rest.ensures holds ∙ ap (list_all (is_within c.args.element)) (sym here) ∙ c.loop-rest.invariant
