use Rattle.std.proofs.Common.{List, map, sum_by, sym, ap, ◌∙◌, arith}
use Rattle.world.proofs.All.{TenantIs, WorldIs, pages_in, private_pages, shared_pages, ticket_count}
use Rattle.page_moves.proofs.Totals.{frames_add_up, slots_out_add_up, tickets_add_up}
use Rattle.world.proofs.world.World.books.Goals as goal

pub overflow_cast-result : goal.overflow_cast-result
overflow_cast-result g c =
    let w = c.self.inside in
    omega (arith, frames_add_up w.frames (g.S.SwapStore.slots w.store) (map pages_in w.tenants.items) w.shares.entries w.pool w.slots c.self.invariant.books, c.from.ensures, c.from.type_inv, c.private_in.ensures, ap (λ (ts : List TenantIs). sum_by private_pages (map pages_in ts)) c.deref.ensures.value)

pub overflow_cast-result-2 : goal.overflow_cast-result-2
overflow_cast-result-2 g c =
    let w = c.self.inside in
    omega (arith, tickets_add_up w.frames (g.S.SwapStore.slots w.store) (map pages_in w.tenants.items) w.shares.entries w.pool w.slots c.self.invariant.books, c.tickets-tickets.ensures, c.tickets-tickets.type_inv, c.shared_in.ensures, ap (λ (ts : List TenantIs). sum_by shared_pages (map pages_in ts)) c.deref-2.ensures.value)

pub returns-clause-slots : goal.returns-clause-slots
returns-clause-slots g c =
    let w = c.self.inside in
    omega (arith, slots_out_add_up w.frames (g.S.SwapStore.slots w.store) (map pages_in w.tenants.items) w.shares.entries w.pool w.slots c.self.invariant.books, c.total.ensures, c.from-slots.ensures, ap (λ (x : WorldIs _). g.S.SwapStore.slots x.store) c.self.view_is)

pub returns-clause-all_frames : goal.returns-clause-all_frames
returns-clause-all_frames g c =
    let w = c.self.inside in
    omega (
      arith,
      frames_add_up w.frames (g.S.SwapStore.slots w.store) (map pages_in w.tenants.items) w.shares.entries w.pool w.slots c.self.invariant.books,
      c.from.ensures,
      c.free.ensures,
      c.from-2.ensures,
      c.private_in.ensures,
      c.shared.ensures,
      c.from-3.ensures,
      ap (λ (ts : List TenantIs). sum_by private_pages (map pages_in ts)) c.deref.ensures.value,
    )

pub returns-clause-all_tickets : goal.returns-clause-all_tickets
returns-clause-all_tickets g c =
    let w = c.self.inside in
    c.shared_in.ensures ∙ ap (λ (ts : List TenantIs). sum_by shared_pages (map pages_in ts)) c.deref-2.ensures.value
    ∙ sym (tickets_add_up w.frames (g.S.SwapStore.slots w.store) (map pages_in w.tenants.items) w.shares.entries w.pool w.slots c.self.invariant.books) ∙ ap (λ (x : WorldIs _). ticket_count x.shares.entries) c.self.view_is
