use Rattle.std.proofs.Common.{List, length, Some, sym, ap, ◌∙◌}
use Rattle.items.specs.declared.item.Item.{Item}
use Rattle.machine.specs.Items.{run}
use Rattle.machine.specs.Replies.{bytes_at}
use Rattle.lasting_truth.specs.Truths.{KeeperIs}
use Rattle.cell.specs.Sitting.{front_boot}
use Rattle.cell.proofs.Supplied.{seen_ok, seen_none}
use Rattle.cell.proofs.reading.read_and_see.Goals as goal

pub returns-clause-ok : goal.returns-clause-ok
returns-clause-ok g c =
    seen_ok c.read_in-done.result (λ (items : List Item). bytes_at (run items (front_boot c.args.front.now)) c.args.address (length c.args.bytes.now)) (Some c.read_in-done.new.bytes)
    c.read_in-done.new.locked.guest.value.log.items c.see.new.seat.seat.saw c.read_in-done.new.locked.keeper.holds c.see.new.seat.witness.held c.see.ensures.saw
    (λ held. sym (ap (λ (k : KeeperIs). k.holds) c.see.ensures.keeper) ∙ c.see.ensures.holds held) c.read_in-done.ensures.ok

pub returns-clause-no_place : goal.returns-clause-no_place
returns-clause-no_place g c =
    seen_none (λ (items : List Item). bytes_at (run items (front_boot c.args.front.now)) c.args.address (length c.args.bytes.now)) c.read_in-done.new.locked.guest.value.log.items
    c.see.new.seat.seat.saw c.read_in-done.new.locked.keeper.holds c.see.new.seat.witness.held c.see.ensures.saw
    (λ held. sym (ap (λ (k : KeeperIs). k.holds) c.see.ensures.keeper) ∙ c.see.ensures.holds held) c.read_in-done.ensures.no_place
