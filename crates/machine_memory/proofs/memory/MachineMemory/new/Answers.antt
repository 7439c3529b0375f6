use Rattle.std.proofs.Common.{map, drop, sym, ap, ◌∙◌, subst}
use Rattle.ledger.specs.Shares.{ShareIs}
use Rattle.slot_contents.specs.declared.content.Content.{Content}
use Rattle.machine_memory.specs.Memories.{MemoryIs}
use Rattle.machine_memory.specs.Dealt.{guest_part, Each, IsFound}
use Rattle.machine_memory.proofs.Dealing.{each_kept, slots_known}
use Rattle.machine_memory.proofs.memory.MachineMemory.new.Goals as goal

pub hand_out-requires-clause-written : goal.hand_out-requires-clause-written
hand_out-requires-clause-written g c =
    let held = g.S.SwapStore.held in
    let pages = g.P.Pages.pages in
    c.in-Ok-lock_up.ensures.written ∙ ap (λ (s : ShareIs Content). record s { parts = drop 2 s.parts }) c.in-Ok.ensures.written
    ∙ ap (λ (m : MemoryIs _). record { ledger = m.contents.id; parts = map (λ x. guest_part (held m.first) (pages x)) c.args.guests.now }) (sym c.in-Ok-lock_up.ensures.memory)

pub returns-in-Ok-lock_up-clause-kept : goal.returns-in-Ok-lock_up-clause-kept
returns-in-Ok-lock_up-clause-kept g c trust =
    let store = c.args.around.store in
    let held = g.S.SwapStore.held in
    let all = map g.P.Pages.pages c.args.guests.now in
    each_kept (held store) c.hand_out.new.stakes.items all
    (slots_known c.args.around.slots.free (g.S.SwapStore.slots store) (held store) all c.requires.exact.each_slot (λ k inside. g.met.S.SwapStore.known store trust k inside))
    (subst (λ (m : MemoryIs _). Each (IsFound (held m.first)) c.hand_out.new.stakes.items all) c.in-Ok-lock_up.ensures.memory c.hand_out.ensures.contents)
