use Rattle.std.proofs.Common.{◌≡◌, ◌++◌, ◌∙◌, sym, ap, flat_map}
use Rattle.std.specs.List.{before_first}
use Rattle.masm_lines.specs.Characters.{is_comma}
use Rattle.masm_lines.specs.Lists.{parts, half_bytes}
use Rattle.masm_lines.proofs.Parts.{parts_left, put_step}
use Rattle.masm_lines.proofs.list.List.push_halves.Goals as goal

pub loop-rest-preserved : goal.loop-rest-preserved
loop-rest-preserved c =
    let here : parts_left c.loop-rest.rest ≡ parts c.in-Some.text.now = ap parts_left c.in-Some.is in
    let more : c.push_half.new.bytes.items ≡ c.loop-rest.bytes.items ++ half_bytes (before_first is_comma c.in-Some.text.now) = c.in_ok-push_half.ensures ∙ ap (λ part. c.loop-rest.bytes.items ++ half_bytes part) c.before-in-Some.ensures in
    put_step half_bytes c.loop-rest.bytes.items c.push_half.new.bytes.items c.in-Some.text.now c.behind_comma-rest.result c.behind_comma-rest.ensures more
    ∙ ap (λ ps. c.loop-rest.bytes.items ++ flat_map half_bytes ps) (sym here) ∙ c.loop-rest.invariant
