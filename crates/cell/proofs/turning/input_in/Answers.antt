use Rattle.std.proofs.Common.{refl, ap}
use Rattle.std.specs.Box.{with_value}
use Rattle.guest_pages.specs.Outline.{outline}
use Rattle.cell.specs.declared.cell.Locked.{Locked}
use Rattle.cell.proofs.Sitting.{sits_through}
use Rattle.cell.proofs.turning.input_in.Goals as goal

pub returns-clause-sits : goal.returns-clause-sits
returns-clause-sits g c =
    let l = c.args.locked.now in
    let l' : Locked = record l { guest = with_value l.guest c.take_bytes.new.guest; taker = c.take_bytes.new.taker } in
    let b = c.take_bytes.ensures in
    sits_through g.S.SwapStore.true_to_digests c.args.front.now l l' c.deref_mut.result.now c.deref_mut.ensures.value c.requires.sits b.stays b.intact refl b.queue b.taken (ap outline b.pages) refl b.kept
