use Rattle.std.proofs.Common.{ap, ◌∙◌, arith, length}
use Rattle.std.proofs.lemmas.Grind.{common_steps}
use Rattle.guest_pages.proofs.Holdings.{private_fits, shared_fits, swapped_fits}
use Rattle.guest_pages.specs.Pages.{is_resident}
use Rattle.guest_pages.specs.Marks.{bit_of}
use Rattle.guest_pages.proofs.Marking.{marked_set}
use Rattle.guest_pages.proofs.Replacing.{whole_set, tickets_set}
use Rattle.guest_pages.proofs.Holdings.{private_set, shared_set, swapped_set}
use Rattle.guest_pages.proofs.map.GuestPages.replace.Goals as goal

pub with-self-inside-requires-clause-private : goal.with-self-inside-requires-clause-private
with-self-inside-requires-clause-private c =
    private_fits c.self.inside.pages.items c.number-place.result c.without.result.private _ c.index.result.now c.args.page c.index.ensures (omega (arith, ap length c.self.view_is)) c.self.invariant.few
    (c.without.ensures.private ∙ c.self.invariant.in_own_frames)

pub with-self-inside-requires-clause-shared : goal.with-self-inside-requires-clause-shared
with-self-inside-requires-clause-shared c =
    shared_fits c.self.inside.pages.items c.number-place.result c.without.result.shared _ c.index.result.now c.args.page c.index.ensures (omega (arith, ap length c.self.view_is)) c.self.invariant.few
    (c.without.ensures.shared ∙ c.self.invariant.in_shared_frames)

pub with-self-inside-requires-clause-swapped : goal.with-self-inside-requires-clause-swapped
with-self-inside-requires-clause-swapped c =
    swapped_fits c.self.inside.pages.items c.number-place.result c.without.result.swapped _ c.index.result.now c.args.page c.index.ensures (omega (arith, ap length c.self.view_is)) c.self.invariant.few
    (c.without.ensures.swapped ∙ c.self.invariant.in_slots)

pub invariant_of-self : goal.invariant_of-self
invariant_of-self c = rw c.replace.ensures.after (record {
  whole = whole_set c.self.inside.pages.items c.number-place.result c.args.page c.self.invariant.whole c.bytes-bytes.ensures.length;
  tickets = tickets_set c.self.inside.pages.items c.number-place.result c.args.page c.self.invariant.tickets c.requires.ticket;
  few = grind (arith, common_steps);
  in_own_frames = grind (arith, common_steps, private_set);
  in_shared_frames = grind (arith, common_steps, shared_set);
  in_slots = grind (arith, common_steps, swapped_set);
  marked =
      marked_set c.self.inside.pages.items c.self.inside.residents c.put.new.self c.number-place.result c.args.page (omega (arith, ap length c.self.view_is)) c.self.invariant.marked
      (c.put.ensures.same ∙ ap bit_of (c.is_resident.ensures ∙ ap is_resident c.kind.ensures))
      c.put.ensures.others c.put.ensures.length;
})
