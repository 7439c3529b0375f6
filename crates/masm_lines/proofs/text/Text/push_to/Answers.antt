use Rattle.std.proofs.Common.{◌≡◌, ◌∷◌, [], ◌++◌, ◌∙◌, sym, ap, append_assoc, is_some, true, Some, option_map}
use Rattle.masm_lines.specs.Texts.{quoted, bytes_in, next_byte}
use Rattle.masm_lines.specs.Views.{byte_behind}
use Rattle.masm_lines.proofs.Quotes.{ended_step, bytes_step}
use Rattle.masm_lines.proofs.text.Text.push_to.Goals as goal

pub loop-byte-preserved : goal.loop-byte-preserved
loop-byte-preserved c =
    let rest = c.loop-byte.rest.now in
    let more = c.in-Some.more.now in
    let old = c.loop-byte.bytes.items in
    let read : next_byte rest ≡ Some (c.in-Some.byte, more) = sym c.next_byte.ensures ∙ ap (option_map byte_behind) c.in-Some.is in
    let ends : is_some (quoted more) ≡ true = sym (ended_step rest more c.in-Some.byte read) ∙ c.loop-byte.invariant.ends in
    let bytes = bytes_step rest more c.in-Some.byte read ends in
    record {
      ends = ends;
      put = ap (λ b. b ++ bytes_in more) c.in_ok-push.ensures.items ∙ append_assoc old (c.in-Some.byte ∷ []) (bytes_in more) ∙ ap (λ b. old ++ b) (sym bytes) ∙ c.loop-byte.invariant.put;
    }
