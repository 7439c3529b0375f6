use Rattle.std.proofs.Common.{ℕ, ◌<◌, [], ◌∷◌, sym, subst, ◌∙◌}
use Rattle.guest_pages.specs.Pages.{slot_of, page_at}
use Rattle.accounts.proofs.Settled.{swapped_moved}
use Rattle.accounts.proofs.tests.back.Goals as goal

pub supply_swapped-requires-clause-slot : goal.supply_swapped-requires-clause-slot
supply_swapped-requires-clause-slot g c =
    subst (λ (n : ℕ). slot_of (page_at (g.P.Pages.pages c.args.guest.now.pages) c.args.p) < n) (sym c.requires.store)
    (c.meet_slots.ensures.inside _ (c.args.no ∷ []) c.requires.guest c.args.p c.requires.kind)

pub give-requires : goal.give-requires
give-requires g c = c.meet_slots.ensures.used _ (c.args.no ∷ []) c.requires.guest c.args.p c.requires.kind

pub settle_slots-requires : goal.settle_slots-requires
settle_slots-requires g c = record {
  moved = swapped_moved _ _ _ _ _ _ c.in-Ok.slot _ _ (c.meet_slots.ensures.guest ∙ c.requires.guest) (c.meet_slots.ensures.slots ∙ c.requires.slots) c.in-Ok.ensures.conserves
      (record { numbers = c.give.ensures.given; out = c.give.ensures.out }) c.supply_swapped.ensures.reads;
}
