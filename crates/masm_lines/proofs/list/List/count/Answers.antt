use Rattle.std.proofs.Common.{◌≡◌, ◌+◌, ◌≤◌, ◌∙◌, sym, ap, arith, length}
use Rattle.masm_lines.specs.Limits.{longest}
use Rattle.masm_lines.specs.Lists.{parts}
use Rattle.masm_lines.proofs.Parts.{parts_left, count_step, parts_size}
use Rattle.masm_lines.proofs.list.List.count.Goals as goal

pub overflow_add-count : goal.overflow_add-count
overflow_add-count c =
    let short : length c.args.self.now.text.now ≤ 65536 = c.args.self.now.short in
    let counted : c.loop-rest.count + length (parts_left c.loop-rest.rest) ≡ length (parts c.args.self.now.text.now) = c.loop-rest.invariant in
    let size = parts_size c.args.self.now.text.now in
    omega arith

pub loop-rest-preserved : goal.loop-rest-preserved
loop-rest-preserved c =
    let counted : c.loop-rest.count + length (parts_left c.loop-rest.rest) ≡ length (parts c.args.self.now.text.now) = c.loop-rest.invariant in
    let here : length (parts_left c.loop-rest.rest) ≡ length (parts c.in-Some.text.now) = ap (λ r. length (parts_left r)) c.in-Some.is in
    let step = count_step c.in-Some.text.now c.behind_comma-rest.result c.behind_comma-rest.ensures in
    omega arith

pub returns-clause-small : goal.returns-clause-small
returns-clause-small c =
    let short : length c.args.self.now.text.now ≤ 65536 = c.args.self.now.short in
    let counted : c.loop-rest.count + length (parts_left c.loop-rest.rest) ≡ length (parts c.args.self.now.text.now) = c.loop-rest.invariant in
    let size = parts_size c.args.self.now.text.now in
    omega arith
