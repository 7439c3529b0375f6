use Rattle.std.proofs.Common.{◌≡◌, ℕ, ◌++◌, List, Err, get_or, sym, ap, subst, ◌∙◌}
use Rattle.world.proofs.All.{Item, Write, WritesTo, accepts, guests_stay, input_items, input_logs, item_for, kind_at, log_at, pages_in, some_tenant, standing, write_of, written_items}
use Rattle.world.proofs.Reached.{accepted_where_placed, not_both, stored_to}
use Rattle.world.proofs.world.World.write.Goals as goal
use Rattle.world.proofs.world.World.write.Goals.{in-Ok, in-Err-Stop-Memory, in-Err-Stop-LogFull}

pub unreachable-requires : goal.unreachable-requires
unreachable-requires g c =
    let ts = c.args.self.now.tenants in
    let t = some_tenant ts c.args.g c.requires.guest in
    let m = standing (get_or ts c.args.g t).guest in
    let bytes = c.args.bytes.items in
    let no = c.input.ensures.refused_as_it_stands (c.in-Err-Machine.is ∙ ap Err c.in-Err-Machine.field-0-is) t in
    not_both (accepts (Write c.args.address bytes) m) (accepted_where_placed m c.args.address bytes c.requires.few (c.requires.placed t))
    (subst (λ (written : List ℕ). accepts (Write c.args.address written) m ≡ _) c.from_vec.ensures no)

pub unreachable-requires-in-Err-Away : goal.unreachable-requires-in-Err-Away
unreachable-requires-in-Err-Away g c =
    let ts = c.args.self.now.tenants in
    let t = some_tenant ts c.args.g c.requires.guest in
    let page = c.in-Err-Away.field-0-0 in
    let is = c.in-Err-Away.is ∙ ap Err c.in-Err-Away.field-0-is in
    let away = c.input.ensures.away page is t in
    let lies = subst (λ (written : List ℕ). WritesTo (Write c.args.address written) (standing (get_or ts c.args.g t).guest) page) c.from_vec.ensures (c.input.ensures.its_page page is t) in
    away (stored_to (kind_at (pages_in (get_or ts c.args.g t)) page) (c.requires.there t page lies))

pub returns-clause-logs : goal.returns-clause-logs
returns-clause-logs g c = λ h.
    let ts = c.args.self.now.tenants in
    let item : Item = record { seat = c.new.result; what = Write c.args.address c.from_vec.result } in
    let is : item ≡ write_of c.args.address c.args.bytes.items = λ i. record { seat = c.new.ensures i; what = Write c.args.address (c.from_vec.ensures i) } in
    let own : input_items h c.args.g item c.input.result ≡ written_items h c.args.g c.args.address c.args.bytes.items c.match-input.result =
    elim c.match-input.branch [
      | in-Ok w ↦
          ap (input_items h c.args.g item) w.in-Ok.is ∙ ap (item_for h c.args.g) is ∙ sym (ap (written_items h c.args.g c.args.address c.args.bytes.items) w.result-is)
      | in-Err-Stop-Memory w ↦
          ap (input_items h c.args.g item) w.in-Err-Stop-Memory.is ∙ sym (ap (written_items h c.args.g c.args.address c.args.bytes.items) w.result-is)
      | in-Err-Stop-LogFull w ↦
          ap (input_items h c.args.g item) w.in-Err-Stop-LogFull.is ∙ sym (ap (written_items h c.args.g c.args.address c.args.bytes.items) w.result-is)
    ] in
    input_logs c.args.g ts c.input.new.self.tenants item c.input.result c.requires.guest c.input.ensures.adds c.input.ensures.unchanged h
    ∙ ap (λ (xs : List Item). log_at ts h ++ xs) own

pub returns-clause-guests : goal.returns-clause-guests
returns-clause-guests g c = guests_stay c.input.ensures.stays c.requires.guest
