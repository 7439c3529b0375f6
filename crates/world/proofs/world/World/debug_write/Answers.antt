use Rattle.std.proofs.Common.{ℕ, true, ◌≡◌, ◌++◌, List, get_or, length, refl, sym, ap, subst, ◌∙◌, arith}
use Rattle.world.proofs.All.{IsFull, Item, Machine, SomePlaceIn, TenantIs, Write, accepts, around_books, around_then, books_same, fault_logs, guests_move, guests_then, on_ok_weaker, standing, view_of, written_items}
use Rattle.world.specs.declared.debugging.DebugError.TheVariants.{Stop}
use Rattle.world.specs.declared.running.RunStop.TheVariants.{LogFull}
use Rattle.world.proofs.Reached.{ok_not}
use Rattle.world.proofs.Runs.{fault_stays, moved_room, moved_same}
use Rattle.world.proofs.world.World.debug_write.Goals as goal

pub returns-in-Err-clause-logs : goal.returns-in-Err-clause-logs
returns-in-Err-clause-logs g c = fault_logs c.reach.ensures.moves

pub write-requires-clause-there : goal.write-requires-clause-there
write-requires-clause-there g c = λ t q some.
    let same : length c.args.bytes.items ≡ c.len-count.result = omega (arith, c.len-count.ensures, c.args.bytes.ok.0) in
    c.in-Ok.ensures.there t q (subst (λ (n : ℕ). SomePlaceIn (standing (get_or c.reach.new.self.tenants c.args.g t).guest) c.args.address n q) same some)

pub returns-in-Ok-clause-logs : goal.returns-in-Ok-clause-logs
returns-in-Ok-clause-logs g c = λ h.
    let own = written_items h c.args.g c.args.address c.args.bytes.items c.write.result in
    c.write.ensures.logs h ∙ ap (λ (xs : List Item). xs ++ own) (fault_stays c.reach.ensures.moves h)

pub returns-in-Ok-clause-full : goal.returns-in-Ok-clause-full
returns-in-Ok-clause-full g c = λ is t.
    moved_room c.args.self.now.tenants c.reach.new.self.tenants c.args.g t c.requires.guest c.reach.ensures.moves ((c.write.ensures.full t).0 is)

pub returns-in-Ok-clause-room : goal.returns-in-Ok-clause-room
returns-in-Ok-clause-room g c =
    let ts = c.args.self.now.tenants in
    let mid = c.reach.new.self.tenants in
    let none = ok_not c.write.result (Stop LogFull) ((t : TenantIs) × IsFull (get_or ts c.args.g t).guest.log) (λ full.
    (c.write.ensures.full full.0).1 (subst IsFull (sym (moved_same (λ u. u.guest.log) (λ u. refl) ts mid c.args.g full.0 c.requires.guest c.reach.ensures.moves)) full.1)) in
    on_ok_weaker c.write.result (λ f t full. f (t, full)) none

pub returns-in-Ok-clause-accepted : goal.returns-in-Ok-clause-accepted
returns-in-Ok-clause-accepted g c =
    let ts = c.args.self.now.tenants in
    let mid = c.reach.new.self.tenants in
    on_ok_weaker c.write.result (λ accepted trust t.
    subst (λ (m : Machine). accepts (Write c.args.address c.args.bytes.items) m ≡ true)
    (moved_same (λ u. view_of u.guest) (λ u. refl) ts mid c.args.g t c.requires.guest c.reach.ensures.moves)
    (accepted (c.reach.ensures.around.store.true_to_digests.1 trust) t)) c.write.ensures.accepted

pub returns-in-Err-clause-guests : goal.returns-in-Err-clause-guests
returns-in-Err-clause-guests g c = guests_move c.reach.ensures.moves

pub returns-in-Ok-clause-guests : goal.returns-in-Ok-clause-guests
returns-in-Ok-clause-guests g c = guests_then (guests_move c.reach.ensures.moves) c.write.ensures.guests

pub returns-in-Ok-clause-around : goal.returns-in-Ok-clause-around
returns-in-Ok-clause-around g c = around_then c.reach.ensures.around (around_books (books_same c.write.ensures.around))
