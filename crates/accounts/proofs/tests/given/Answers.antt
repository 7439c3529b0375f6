use Rattle.std.proofs.Common.{[], sym, refl, ◌∙◌}
use Rattle.accounts.proofs.Settled.{given_ticket_moved, given_slot_moved}
use Rattle.accounts.proofs.tests.given.Goals as goal

pub leave-hand-requires : goal.leave-hand-requires
leave-hand-requires g c = c.meet_table.ensures.returned _ [] c.requires.guest c.args.p _ (sym c.give.ensures.returned ∙ c.in-Ticket.is)

pub settle_table-requires : goal.settle_table-requires
settle_table-requires g c = record {
  moved = given_ticket_moved _ _ _ _ c.args.guest.now.pages _ c.args.p c.in-Ticket.ticket _ _ c.leave-hand.result (c.meet_table.ensures.guest ∙ c.requires.guest)
      (c.meet_table.ensures.table ∙ c.requires.table) refl c.give.ensures.pages (sym c.give.ensures.returned ∙ c.in-Ticket.is) (c.meet_table.ensures.covered _ [] c.requires.guest)
      c.leave-hand.ensures.entries c.leave-hand.ensures.frame;
}

pub give-requires-in-Slot : goal.give-requires-in-Slot
give-requires-in-Slot g c = c.meet_slots.ensures.returned _ [] c.requires.guest c.args.p _ (sym c.give.ensures.returned ∙ c.in-Slot.is)

pub settle_slots-requires : goal.settle_slots-requires
settle_slots-requires g c = record {
  moved = given_slot_moved _ _ _ _ c.args.guest.now.pages _ c.args.p c.in-Slot.slot _ _ (c.meet_slots.ensures.guest ∙ c.requires.guest)
      (c.meet_slots.ensures.slots ∙ c.requires.slots) refl c.give.ensures.pages (sym c.give.ensures.returned ∙ c.in-Slot.is)
      (record { numbers = c.give-in-Slot.ensures.given; out = c.give-in-Slot.ensures.out });
}
