use Rattle.std.proofs.Common.{◌≡◌, ◌∙◌, sym, ap, Some, option_map}
use Rattle.masm_lines.specs.Texts.{next_byte}
use Rattle.masm_lines.specs.Views.{byte_behind}
use Rattle.masm_lines.proofs.Quotes.{ended_step}
use Rattle.masm_lines.proofs.quoted.is_ended.Goals as goal

pub loop-more-preserved : goal.loop-more-preserved
loop-more-preserved c =
    let rest = c.loop-more.rest.now in
    let more = c.in-Some.more.now in
    let read : next_byte rest ≡ Some (c.in-Some.field-0-0, more) = sym c.next_byte.ensures ∙ ap (option_map byte_behind) c.in-Some.is in
    sym (ended_step rest more c.in-Some.field-0-0 read) ∙ c.loop-more.invariant
