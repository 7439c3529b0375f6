use Rattle.std.proofs.Common.{◌≡◌, ◌≤◌, ◌+◌, ◌∷◌, ◌∙◌, sym, ap, arith, length, is_some, true, Some, option_map}
use Rattle.masm_lines.specs.Texts.{quoted, bytes_in, next_byte}
use Rattle.masm_lines.specs.Views.{byte_behind}
use Rattle.masm_lines.proofs.Quotes.{ended_step, bytes_step, bytes_size}
use Rattle.masm_lines.proofs.text.Text.len.Goals as goal

pub overflow_add-count : goal.overflow_add-count
overflow_add-count c =
    let short : length c.args.self.now.text.now ≤ 65536 = c.args.self.now.short in
    let counted = c.loop-more.invariant.counted in
    let size = bytes_size c.args.self.now.text.now in
    omega arith

pub loop-more-preserved : goal.loop-more-preserved
loop-more-preserved c =
    let rest = c.loop-more.rest.now in
    let more = c.in-Some.more.now in
    let byte = c.in-Some.field-0-0 in
    let read : next_byte rest ≡ Some (byte, more) = sym c.next_byte.ensures ∙ ap (option_map byte_behind) c.in-Some.is in
    let ends : is_some (quoted more) ≡ true = sym (ended_step rest more byte read) ∙ c.loop-more.invariant.ends in
    let bytes : length (bytes_in rest) ≡ length (byte ∷ bytes_in more) = ap length (bytes_step rest more byte read ends) in
    let counted = c.loop-more.invariant.counted in
    record { ends = ends; counted = omega arith }

pub returns-clause-small : goal.returns-clause-small
returns-clause-small c =
    let short : length c.args.self.now.text.now ≤ 65536 = c.args.self.now.short in
    let counted = c.loop-more.invariant.counted in
    let size = bytes_size c.args.self.now.text.now in
    omega arith
