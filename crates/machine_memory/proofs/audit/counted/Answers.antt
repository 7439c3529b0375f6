use Rattle.std.proofs.Common.{arith, ap, ◌∙◌}
use Rattle.std.specs.List.{sum_by}
use Rattle.guest_pages.specs.Holdings.{private_pages, shared_pages, swapped_pages}
use Rattle.machine_memory.specs.Gathered.{GatheredIs}
use Rattle.machine_memory.proofs.Auditing.{few_frames, is_count}
use Rattle.machine_memory.proofs.audit.counted.Goals as goal

pub overflow_sub-result : goal.overflow_sub-result
overflow_sub-result c =
    let fits = few_frames c.args.extent.now c.args.gathered.now.pages c.args.shares.now.entries c.args.book.now c.requires.all c.requires.exact in
    omega (arith, fits, c.gathered.invariant.in_own_frames, ap (λ (v : GatheredIs). sum_by private_pages v.pages) c.gathered.view_is, c.from-frames.ensures)

pub overflow_sub-result-2 : goal.overflow_sub-result-2
overflow_sub-result-2 c =
    let fits = few_frames c.args.extent.now c.args.gathered.now.pages c.args.shares.now.entries c.args.book.now c.requires.all c.requires.exact in
    omega (arith, fits, c.gathered.invariant.in_own_frames, ap (λ (v : GatheredIs). sum_by private_pages v.pages) c.gathered.view_is, c.from-frames.ensures, c.from-shared.ensures, c.shared.ensures)

pub returns : goal.returns
returns c =
    let own = c.gathered.invariant.in_own_frames ∙ ap (λ (v : GatheredIs). sum_by private_pages v.pages) c.gathered.view_is in
    let all = is_count c.args.extent.now c.args.gathered.now.pages c.args.shares.now.entries c.args.book.now c.requires.all c.requires.exact in
    all _ c.from-frames.ensures (omega (arith, own, c.from-frames.ensures, c.from-shared.ensures, c.shared.ensures)) own (c.from-shared.ensures ∙ c.shared.ensures)
    (c.gathered.invariant.in_shared_frames ∙ ap (λ (v : GatheredIs). sum_by shared_pages v.pages) c.gathered.view_is)
    (c.gathered.invariant.in_slots ∙ ap (λ (v : GatheredIs). sum_by swapped_pages v.pages) c.gathered.view_is) (c.from.ensures ∙ c.total.ensures)
