use Rattle.std.proofs.Common.{ℕ, ◌≡◌, ◌<◌, ◌⊎◌, inl, inr, get_or, refl, sym, subst}
use Rattle.world.proofs.All.{around_same, err_from_is_err_and, on_ok_weaker, pages_in, same_pages}
use Rattle.world.proofs.Damaged.{unsupplied_if, unsupplied_later}
use Rattle.world.proofs.Reached.{both_ready, one_stays, both_stay}
use Rattle.world.proofs.world.World.supply_reached.Goals as goal

pub supply_one-requires-2-clause-page : goal.supply_one-requires-2-clause-page
supply_one-requires-2-clause-page g c = λ t.
    subst (λ (n : ℕ). c.args.reached.now.1 < n) (sym (same_pages c.args.self.now.tenants c.supply_one.new.self.tenants c.args.g t c.requires.guest c.supply_one.ensures.moves)) (c.requires.pages t)

pub returns-clause-err : goal.returns-clause-err
returns-clause-err g c =
    let s = g.S.SwapStore in
    let pages = c.args.reached.now in
    unsupplied_if {facts = s} c.args.g (λ q. q ≡ pages.1) (λ q. (q ≡ pages.0) ⊎ (q ≡ pages.1)) c.args.self.now c.supply_one.new.self c.supply_one-2.new.self
    c.supply_one.ensures.around c.in_ok-supply_one.ensures.no_failure (λ q is. inr is) c.supply_one-2.result c.supply_one-2.ensures.err

pub returns-in_err-supply_one-clause-err : goal.returns-in_err-supply_one-clause-err
returns-in_err-supply_one-clause-err g c =
    let s = g.S.SwapStore in
    let pages = c.args.reached.now in
    let p = err_from_is_err_and c.from_residual.result c.from_residual.ensures.1 in
    rw (p.1, p.2)
    (unsupplied_later {facts = s} c.args.g (λ q. q ≡ pages.0) (λ q. (q ≡ pages.0) ⊎ (q ≡ pages.1)) c.args.self.now c.args.self.now c.supply_one.new.self
    around_same refl (λ q is. inl is) _ c.in_err-supply_one.ensures.err)

pub returns-clause-ready : goal.returns-clause-ready
returns-clause-ready g c =
    on_ok_weaker c.supply_one-2.result (λ ready t q which.
    let old = pages_in (get_or c.args.self.now.tenants c.args.g t) in
    let mid = pages_in (get_or c.supply_one.new.self.tenants c.args.g t) in
    let new = pages_in (get_or c.supply_one-2.new.self.tenants c.args.g t) in
    both_ready c.args.access c.args.reached.now.0 c.args.reached.now.1 old mid new (c.in_ok-supply_one.ensures.ready t) (c.supply_one.ensures.others t) (ready t) (c.supply_one-2.ensures.others t) q which)
    c.supply_one-2.ensures.ready

pub returns-clause-stays : goal.returns-clause-stays
returns-clause-stays g c = λ t q which unwanted.
    let old = pages_in (get_or c.args.self.now.tenants c.args.g t) in
    let mid = pages_in (get_or c.supply_one.new.self.tenants c.args.g t) in
    let new = pages_in (get_or c.supply_one-2.new.self.tenants c.args.g t) in
    let first = c.args.reached.now.0 in
    let last = c.args.reached.now.1 in
    both_stay c.args.access q old mid new unwanted
    (one_stays c.args.access first first last old mid (c.supply_one.ensures.stays t) (c.supply_one.ensures.others t) q which unwanted)
    (λ still. one_stays c.args.access last first last mid new (c.supply_one-2.ensures.stays t) (c.supply_one-2.ensures.others t) q which still)
