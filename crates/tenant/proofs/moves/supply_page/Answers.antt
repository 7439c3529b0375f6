use Rattle.std.proofs.Common.{◌≡◌, sym, ◌∙◌}
use Rattle.guest_pages.specs.declared.page.PageKind.TheVariants.{Swapped}
use Rattle.guest_pages.specs.Pages.{page_at, kind_at, slot_of}
use Rattle.swapstore.specs.Failures.{one_more}
use Rattle.tenant.proofs.Moving.{never_damaged}
use Rattle.tenant.proofs.moves.supply_page.Goals as goal

pub returns-in-Zero-clause-conserves : goal.returns-in-Zero-clause-conserves
returns-in-Zero-clause-conserves g c = c.supply_first_from.ensures.conserves c.args.slots.now c.args.shares.now.entries

pub returns-in-Given-clause-conserves : goal.returns-in-Given-clause-conserves
returns-in-Given-clause-conserves g c = c.supply_first_from-in-Given.ensures.conserves c.args.slots.now c.args.shares.now.entries

pub returns-in-Shared-clause-conserves : goal.returns-in-Shared-clause-conserves
returns-in-Shared-clause-conserves g c = c.supply_copy_from.ensures.conserves c.args.slots.now

pub returns-in-Shared-clause-kept : goal.returns-in-Shared-clause-kept
returns-in-Shared-clause-kept g c = λ trusted view k. c.supply_copy_from.ensures.kept (g.S.SwapStore.held c.args.store.now) view k

pub returns-in-Swapped-clause-undamaged : goal.returns-in-Swapped-clause-undamaged
returns-in-Swapped-clause-undamaged g c = λ is honest view k.
    let s = g.S.SwapStore in
    let store = c.args.store.now in
    let ps = g.P.Pages.pages c.args.pages.now in
    let slot = slot_of (page_at ps c.args.p) in
    let kind : kind_at ps c.args.p ≡ Swapped = sym c.kind.ensures ∙ c.in-Swapped.is in
    never_damaged c.supply_swapped_from.result c.args.pool.now (s.failed c.supply_swapped_from.new.store ≡ one_more (s.failed store)) (s.gives store slot) (s.honest store) (s.held store) view ps c.args.p is c.requires.there kind honest
    (g.met.S.SwapStore.known store (g.met.S.SwapStore.honest_is_true store honest) slot (c.requires.lent.its_slot c.args.p c.requires.there kind)) k c.supply_swapped_from.ensures.err
