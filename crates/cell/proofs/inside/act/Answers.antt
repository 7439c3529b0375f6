use Rattle.std.proofs.Common.{refl, ap, sym, ◌∙◌}
use Rattle.std.specs.Box.{with_value}
use Rattle.guest.specs.Guests.{GuestIs}
use Rattle.cell.specs.declared.cell.Locked.{Locked}
use Rattle.cell.specs.Inputs.{bytes_in}
use Rattle.cell.proofs.Sitting.{sits_through, acted_bytes}
use Rattle.cell.proofs.inside.act.Goals as goal

pub returns-clause-sits : goal.returns-clause-sits
returns-clause-sits g c =
    let l = c.args.locked.now in
    let l' : Locked = record l { guest = with_value l.guest c.act.new.guest; keeper = c.act.new.keeper } in
    let old = c.deref_mut.result.now in
    let a = c.act.ensures in
    sits_through g.S.SwapStore.true_to_digests c.args.front.now l l' old c.deref_mut.ensures.value c.requires.sits a.stays a.intact a.keeper refl
    (c.requires.sits.taken ∙ ap (λ (h : GuestIs). bytes_in h.log.items) (sym c.deref_mut.ensures.value)
    ∙ sym (acted_bytes c.act.result c.args.seat.now.seat c.act.new.seat.seat old.log.items c.act.new.guest.log.items c.args.item a.acts a.unmoved a.saw c.requires.no_byte)) a.outline refl a.kept
