use Rattle.std.proofs.Common.{◌≡◌, ◌∷◌, [], ◌∙◌, sym, ap, map, List, ℕ}
use Rattle.std.specs.List.{before_first}
use Rattle.masm_lines.specs.Characters.{is_comma}
use Rattle.masm_lines.specs.Lists.{parts, value_of}
use Rattle.masm_lines.proofs.Parts.{parts_left, left_step}
use Rattle.masm_lines.proofs.list.List.split.Goals as goal

pub returns-in-Some : goal.returns-in-Some
returns-in-Some c =
    let text = c.args.self.now.text.now in
    ap (map value_of) (left_step text c.behind_comma.result c.behind_comma.ensures)
    ∙ ap (λ r. value_of (before_first is_comma text) ∷ map value_of (parts_left r)) c.in-Some.is
    ∙ ap (λ v. v ∷ map value_of (parts c.in-Some.text.now)) (ap value_of (sym c.before-2.ensures) ∙ sym c.value_of-first.ensures)

pub returns-in-None : goal.returns-in-None
returns-in-None c =
    let text = c.args.self.now.text.now in
    ap (map value_of) (left_step text c.behind_comma.result c.behind_comma.ensures)
    ∙ ap (λ r. value_of (before_first is_comma text) ∷ map value_of (parts_left r)) c.in-None.is
    ∙ ap (λ v. v ∷ []) (ap value_of (sym c.before-2.ensures) ∙ sym c.value_of-first.ensures)
