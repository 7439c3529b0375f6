use Rattle.std.proofs.Common.{◌≡◌, Err, Some, None, get_or, length, refl, sym, ap, subst, ◌∙◌}
use Rattle.world.proofs.All.{GuestIs, Intact, Machine, SomePlaceIn, bytes_at, guest_of, kept_of, kind_at, pages_in, standing, still_inside, view_of}
use Rattle.guest_pages.specs.declared.page.PageKind.TheVariants.{Swapped}
use Rattle.world.proofs.Reached.{not_away}
use Rattle.world.proofs.Runs.{moved_same}
use Rattle.world.proofs.world.World.debug_read.Goals as goal

pub unreachable-requires : goal.unreachable-requires
unreachable-requires g c =
    let t = c.guest.result.now in
    let none = c.debug_read.ensures.not_placed.0 (c.in-Err-Machine.is ∙ ap Err c.in-Err-Machine.field-0-is) in
    c.in_ok-reach.ensures.placed t (subst (λ (x : GuestIs). bytes_at (standing x) c.args.address (length c.args.bytes.now) ≡ None) (guest_of c.reach.new.self.tenants c.args.g c.guest-2.ensures c.guest.ensures t) none)

pub unreachable-requires-in-Err-Away : goal.unreachable-requires-in-Err-Away
unreachable-requires-in-Err-Away g c =
    let t = c.guest.result.now in
    let page = c.in-Err-Away.field-0-0 in
    let refused = c.in-Err-Away.is ∙ ap Err c.in-Err-Away.field-0-is in
    let is = guest_of c.reach.new.self.tenants c.args.g c.guest-2.ensures c.guest.ensures t in
    let lies = subst (λ (x : GuestIs). SomePlaceIn (standing x) c.args.address (length c.args.bytes.now) page) is (c.debug_read.ensures.placed_in page refused) in
    not_away (kind_at (pages_in (get_or c.reach.new.self.tenants c.args.g t)) page) (c.in_ok-reach.ensures.there t page lies)
    (subst (λ (x : GuestIs). kind_at x.bus.pages page ≡ Swapped) is (c.debug_read.ensures.away page refused))

pub returns-clause-read : goal.returns-clause-read
returns-clause-read g c = λ trust t.
    let ts = c.args.self.now.tenants in
    let e = c.reach.ensures in
    let kept = kept_of c.is_sound.ensures (still_inside ts c.reach.new.self.tenants c.args.g c.requires.guest e.moves) (c.guest.ensures c.guest.result.now) (e.around.store.true_to_digests.1 trust) in
    let view : view_of c.guest-2.result.now ≡ view_of (get_or ts c.args.g t).guest =
    ap view_of (guest_of c.reach.new.self.tenants c.args.g c.guest-2.ensures c.guest.ensures t) ∙ moved_same (λ u. view_of u.guest) (λ u. refl) ts c.reach.new.self.tenants c.args.g t c.requires.guest e.moves in
    subst (λ (m : Machine). bytes_at m c.args.address (length c.args.bytes.now) ≡ Some c.debug_read.new.bytes) view (c.in-Ok.ensures.read (subst Intact (sym c.guest-2.ensures) kept.intact))
