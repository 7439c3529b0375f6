use Rattle.std.proofs.Common.{ℕ, ◌≡◌, List, map, sym, ap, subst, ◌∙◌}
use Rattle.guest_pages.specs.declared.page.Page.{Page}
use Rattle.booting.specs.Boots.{AreAtBoot}
use Rattle.world.specs.All.{AreBooted, Books, FramesComeFirst, IsAdmitted, NewGuest, SlotsComeInOrder, TenantIs, pages_in}
use Rattle.world.proofs.Booting.{booted_admitted, seated_kept, seated_pages}
use Rattle.world.proofs.world.World.boot.Goals as goal

pub from_parts-requires : goal.from_parts-requires
from_parts-requires g c =
    let b = c.in-Ok.booted in
    let e = c.in-Ok.ensures in
    let slots = g.S.SwapStore.slots b.store in
    let held = g.S.SwapStore.held b.store in
    let ts = c.seat_each.new.tenants.items in
    let seated = c.seat_each.ensures.guests in
    record {
      books = subst (λ (l : List (List Page)). Books c.args.config.frames slots l b.shares.entries b.pool b.slots) (seated_pages b.guests.items ts seated) e.exact;
      kept = λ trust. seated_kept held b.guests.items ts seated e.intact e.kept;
    }

-- the guests are booted that were asked for
booted : (runs : ℕ) (asked guests : List NewGuest) (gs : List _) (ts : List TenantIs) → asked ≡ guests → (AreAtBoot runs asked gs → AreBooted runs asked ts) → AreAtBoot runs guests gs → AreBooted runs guests ts
booted runs asked guests gs ts same seats at =
    subst (λ (l : List NewGuest). AreBooted runs l ts) same (seats (subst (λ (l : List NewGuest). AreAtBoot runs l gs) (sym same) at))

pub returns-clause-booted : goal.returns-clause-booted
returns-clause-booted g c =
    let runs = c.args.config.log_runs in
    subst (λ (ts : List TenantIs). AreBooted runs c.args.guests.items ts) (sym (ap (λ w. w.tenants) c.from_parts.ensures))
    (booted runs c.deref.result.now c.args.guests.items c.in-Ok.booted.guests.items c.seat_each.new.tenants.items (c.deref.ensures.value ∙ c.in-Ok.ensures.asked) (c.seat_each.ensures.booted runs) c.in-Ok.ensures.at_boot)

pub returns-clause-admitted : goal.returns-clause-admitted
returns-clause-admitted g c = λ admit.
    let config = c.args.config in
    let slots = g.S.SwapStore.slots c.args.store in
    let within = c.in-Ok.ensures.within in
    subst (λ (ts : List TenantIs). IsAdmitted config.frames slots ts) (sym (ap (λ w. w.tenants) c.from_parts.ensures))
    (booted_admitted config.log_runs config.frames slots c.args.guests.items c.seat_each.new.tenants.items
    (booted config.log_runs c.deref.result.now c.args.guests.items c.in-Ok.booted.guests.items c.seat_each.new.tenants.items (c.deref.ensures.value ∙ c.in-Ok.ensures.asked)
    (c.seat_each.ensures.booted config.log_runs) c.in-Ok.ensures.at_boot)
    within.0.count.0 (within.2 admit))

pub returns-clause-frames_first : goal.returns-clause-frames_first
returns-clause-frames_first g c =
    subst (λ w. FramesComeFirst w.pool (map pages_in w.tenants)) (sym c.from_parts.ensures)
    (subst (λ (l : List (List Page)). FramesComeFirst c.in-Ok.booted.pool l) (seated_pages c.in-Ok.booted.guests.items c.seat_each.new.tenants.items c.seat_each.ensures.guests) c.in-Ok.ensures.frames_first)

pub returns-clause-slots_in_order : goal.returns-clause-slots_in_order
returns-clause-slots_in_order g c =
    subst (λ w. SlotsComeInOrder w.slots (map pages_in w.tenants)) (sym c.from_parts.ensures)
    (subst (λ (l : List (List Page)). SlotsComeInOrder c.in-Ok.booted.slots l) (seated_pages c.in-Ok.booted.guests.items c.seat_each.new.tenants.items c.seat_each.ensures.guests) c.in-Ok.ensures.slots_in_order)
