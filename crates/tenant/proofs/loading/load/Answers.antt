use Rattle.std.proofs.Common.{ℕ, ◌+◌, [], length, subst, sym, ◌∙◌, arith}
use Rattle.tenant.specs.Loading.{AreUntouched, AreLoaded}
use Rattle.tenant.proofs.Giving.{then_moves}
use Rattle.tenant.proofs.Booting.{loading_once, loading_used}
use Rattle.tenant.proofs.loading.load.Goals as goal

pub load_next-requires-clause-once : goal.load_next-requires-clause-once
load_next-requires-clause-once g c =
    loading_once c.args.guest.now.bus.pages c.loop-p.guest.bus.pages c.args.pool.now c.loop-p.pool c.args.slots.now c.loop-p.slots (g.S.SwapStore.slots c.args.store.now) (g.S.SwapStore.slots c.loop-p.store)
    (length c.args.guest.now.bus.pages) c.requires.untouched (c.loop-p.invariant.conserves []) c.requires.once c.loop-p.invariant.slots

pub returns-in_err-load_next-clause-conserves : goal.returns-in_err-load_next-clause-conserves
returns-in_err-load_next-clause-conserves g c = λ es.
    then_moves c.args.guest.now.bus.pages c.loop-p.guest.bus.pages c.load_next.new.guest.bus.pages c.args.pool.now c.loop-p.pool c.load_next.new.pool c.args.slots.now c.loop-p.slots c.load_next.new.slots es es
    (c.loop-p.invariant.conserves es) (c.load_next.ensures.conserves es)

pub returns-in_err-load_next-clause-used : goal.returns-in_err-load_next-clause-used
returns-in_err-load_next-clause-used g c =
    loading_used c.args.guest.now.bus.pages c.loop-p.guest.bus.pages c.args.pool.now c.loop-p.pool c.args.slots.now c.loop-p.slots (length c.args.guest.now.bus.pages)
    (g.S.SwapStore.held c.args.store.now) (g.S.SwapStore.held c.loop-p.store) (g.S.SwapStore.held c.load_next.new.store) c.requires.untouched (c.loop-p.invariant.conserves [])
    c.loop-p.invariant.used c.load_next.ensures.used

pub loop-p-preserved : goal.loop-p-preserved
loop-p-preserved g c =
    let first = c.args.guest.now.bus.pages in
    let mid = c.loop-p.guest.bus.pages in
    let new = c.load_next.new.guest.bus.pages in
    let inv = c.loop-p.invariant in
    let e = c.load_next.ensures in
    let held = g.S.SwapStore.held c.load_next.new.store in
    record {
      conserves = λ es. then_moves first mid new c.args.pool.now c.loop-p.pool c.load_next.new.pool c.args.slots.now c.loop-p.slots c.load_next.new.slots es es (inv.conserves es) (e.conserves es);
      reads = λ es r. e.reads es (inv.reads es r);
      used = loading_used first mid c.args.pool.now c.loop-p.pool c.args.slots.now c.loop-p.slots (length first) (g.S.SwapStore.held c.args.store.now) (g.S.SwapStore.held c.loop-p.store) held
          c.requires.untouched (inv.conserves []) inv.used e.used;
      rest = e.rest ∙ inv.rest;
      count = e.count ∙ inv.count;
      untouched = subst (λ (q : ℕ). AreUntouched c.args.image.now (q + 1) new) c.new.ensures c.in_ok-load_next.ensures.untouched;
      loaded =
          subst (λ (n : ℕ). AreLoaded held c.args.image.now n (c.loop-p.p + 1) new) inv.count
          (subst (λ (q : ℕ). AreLoaded held c.args.image.now (length mid) (q + 1) new) c.new.ensures
          (c.in_ok-load_next.ensures.loaded
          (subst (λ (q : ℕ). AreLoaded (g.S.SwapStore.held c.loop-p.store) c.args.image.now (length mid) q mid) (sym c.new.ensures)
          (subst (λ (n : ℕ). AreLoaded (g.S.SwapStore.held c.loop-p.store) c.args.image.now n c.loop-p.p mid) (sym inv.count) inv.loaded))));
      no_frames = λ none. c.in_ok-load_next.ensures.no_frames (inv.no_frames none);
      none_private = λ none. c.in_ok-load_next.ensures.none_private (inv.no_frames none) (inv.none_private none);
      taken = omega (arith, inv.taken, c.in_ok-load_next.ensures.taken, c.new.ensures);
      no_failure = c.in_ok-load_next.ensures.no_failure ∙ inv.no_failure;
      frames_first = c.in_ok-load_next.ensures.frames_first;
      slots_rise = c.in_ok-load_next.ensures.slots_rise;
      slots = e.slots ∙ inv.slots;
      honest = (λ h. inv.honest.0 (e.honest.0 h), λ h. e.honest.1 (inv.honest.1 h));
      true_to_digests = (λ h. inv.true_to_digests.0 (e.true_to_digests.0 h), λ h. e.true_to_digests.1 (inv.true_to_digests.1 h));
    }
