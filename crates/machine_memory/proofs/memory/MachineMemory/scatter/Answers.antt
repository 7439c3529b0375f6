use Rattle.std.proofs.Common.{ap, ◌∙◌}
use Rattle.machine_memory.specs.Gathered.{GatheredIs}
use Rattle.machine_memory.proofs.Auditing.{first_of, private_within, shared_within, swapped_within, gathered_still}
use Rattle.machine_memory.proofs.memory.MachineMemory.scatter.Goals as goal

pub overflow_sub-gathered-2 : goal.overflow_sub-gathered-2
overflow_sub-gathered-2 g c =
    private_within (g.P.Pages.pages c.args.pages.now) _ _ _ _ _ _ c.gathered.invariant (ap (λ (v : GatheredIs). v.pages) c.gathered.view_is ∙ first_of c.args.gathered.now.pages _ c.requires.last) _ _ _ (c.from.ensures ∙ c.requires.counts.in_own_frames)
    c.requires.counts.in_shared_frames c.requires.counts.in_slots

pub overflow_sub-gathered-3 : goal.overflow_sub-gathered-3
overflow_sub-gathered-3 g c =
    shared_within (g.P.Pages.pages c.args.pages.now) _ _ _ _ _ _ c.gathered.invariant (ap (λ (v : GatheredIs). v.pages) c.gathered.view_is ∙ first_of c.args.gathered.now.pages _ c.requires.last) _ _ _ c.requires.counts.in_own_frames
    (c.from-2.ensures ∙ c.requires.counts.in_shared_frames) c.requires.counts.in_slots

pub overflow_sub-gathered-4 : goal.overflow_sub-gathered-4
overflow_sub-gathered-4 g c =
    swapped_within (g.P.Pages.pages c.args.pages.now) _ _ _ _ _ _ c.gathered.invariant (ap (λ (v : GatheredIs). v.pages) c.gathered.view_is ∙ first_of c.args.gathered.now.pages _ c.requires.last) _ _ _ c.requires.counts.in_own_frames
    c.requires.counts.in_shared_frames (c.from-3.ensures ∙ c.requires.counts.in_slots)

pub invariant_of-gathered : goal.invariant_of-gathered
invariant_of-gathered g c =
    gathered_still (g.P.Pages.pages c.args.pages.now) _ c.gathered.inside.share c.part.new.from _ _ _ _ _ _ _ c.part.ensures.from c.gathered.invariant
    (ap (λ (v : GatheredIs). v.pages) c.gathered.view_is ∙ first_of c.args.gathered.now.pages _ c.requires.last) (c.from.ensures ∙ c.requires.counts.in_own_frames) (c.from-2.ensures ∙ c.requires.counts.in_shared_frames)
    (c.from-3.ensures ∙ c.requires.counts.in_slots)
