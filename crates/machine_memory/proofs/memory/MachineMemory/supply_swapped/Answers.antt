use Rattle.std.proofs.Common.{[], refl, sym, ap, subst}
use Rattle.machine_memory.specs.declared.stake.Stake.{Stake}
use Rattle.machine_memory.proofs.Frames.{frames_unmoved, frames_supplied_by}
use Rattle.machine_memory.proofs.Supplying.{swapped_inside_by}
use Rattle.machine_memory.specs.Memories.{MemoryIs}
use Rattle.machine_memory.proofs.Dealing.{kept_on}
use Rattle.machine_memory.proofs.memory.MachineMemory.supply_swapped.Goals as goal

pub returns-in_default-clause-frames : goal.returns-in_default-clause-frames
returns-in_default-clause-frames g c = frames_unmoved _ _ _ _ refl (ap (λ (s : Stake). s.pass) c.in_default.ensures.unchanged)

pub returns-clause-frames : goal.returns-clause-frames
returns-clause-frames g c = frames_supplied_by _ _ _ _ c.take.new.stake.pass [] [] c.in-Some.no _ (c.swapped_supplied-done.ensures.frames []) c.in-Some.ensures.taken c.give.ensures.given

pub returns-in_default-clause-slot : goal.returns-in_default-clause-slot
returns-in_default-clause-slot g c =
    swapped_inside_by c.self.inside.books c.args.self.now.books (g.P.Pages.pages c.args.pages.now) c.args.p c.args.stake.now.share (ap (λ (m : MemoryIs _). m.books) c.self.view_is) c.requires.level.share
    (c.meet.ensures.exact (g.P.Pages.pages c.args.pages.now) []) c.requires.there c.requires.kind

pub returns-clause-slot : goal.returns-clause-slot
returns-clause-slot g c =
    swapped_inside_by c.self.inside.books c.args.self.now.books (g.P.Pages.pages c.args.pages.now) c.args.p c.args.stake.now.share (ap (λ (m : MemoryIs _). m.books) c.self.view_is) c.requires.level.share
    (c.meet.ensures.exact (g.P.Pages.pages c.args.pages.now) []) c.requires.there c.requires.kind

pub returns-clause-kept : goal.returns-clause-kept
returns-clause-kept g c trust view k =
    kept_on _ _ view _ c.give.ensures.contents
    (c.swapped_supplied-done.ensures.kept (subst g.S.SwapStore.true_to_digests (sym (ap (λ (m : MemoryIs _). m.first) c.self.view_is)) trust) view (kept_on _ _ view _ c.in-Some.ensures.contents k))
