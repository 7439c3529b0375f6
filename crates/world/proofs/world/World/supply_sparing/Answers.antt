use Rattle.std.proofs.Common.{ℕ, ◌≡◌, ◌<◌, rules, sym, subst}
use Rattle.world.specs.All.{HasDamage}
use Rattle.world.proofs.All.{only_pages, pages_then, same_pages, still_inside, supplied_spares}
use Rattle.world.proofs.Damaged.{found_damage}
use Rattle.world.proofs.world.World.supply_sparing.Goals as goal

pub supply-supplied-requires-clause-page : goal.supply-supplied-requires-clause-page
supply-supplied-requires-clause-page g c = λ t.
    let ts = c.args.self.now.tenants in
    let mid = c.make_room.new.self.tenants in
    subst (λ (n : ℕ). c.args.p < n) (sym (same_pages ts mid c.args.g t c.requires.guest c.make_room.ensures.moves)) (c.requires.page t)

pub returns-in-Ok-clause-moves : goal.returns-in-Ok-clause-moves
returns-in-Ok-clause-moves g c =
    let ts = c.args.self.now.tenants in
    let mid = c.make_room.new.self.tenants in
    pages_then ts mid c.supply-supplied.new.self.tenants c.make_room.ensures.moves
    (only_pages c.args.g mid c.supply-supplied.new.self.tenants (still_inside ts mid c.args.g c.requires.guest c.make_room.ensures.moves) c.supply-supplied.ensures.moves)

pub returns-in-Err-SwapDamaged-clause-err : goal.returns-in-Err-SwapDamaged-clause-err
returns-in-Err-SwapDamaged-clause-err g c =
    let mid = c.make_room.new.self in
    let damage : HasDamage g.S.SwapStore mid.store mid.tenants c.args.g c.args.p = search rules in
    let same : c.supply-supplied.new.self.tenants ≡ mid.tenants = search rules in
    found_damage c.make_room.ensures.around c.in_ok-make_room.ensures.no_failure c.is_sound.ensures c.supply-supplied.ensures.around same c.is_sound-2.ensures damage

pub returns-in-Ok-clause-others : goal.returns-in-Ok-clause-others
returns-in-Ok-clause-others g c =
    supplied_spares c.args.g c.args.p c.args.spared.now c.args.self.now.tenants c.make_room.new.self.tenants c.supply-supplied.new.self.tenants c.make_room.ensures.spared c.supply-supplied.ensures.moves
    c.supply-supplied.ensures.others
