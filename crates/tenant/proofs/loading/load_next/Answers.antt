use Rattle.std.proofs.Common.{length}
use Rattle.std.proofs.lemmas.Result.{on_ok_weaker}
use Rattle.tenant.proofs.Booting.{on_ok_both, next_untouched, next_loaded, next_frames_first, next_none_private, beside_loaded, beside_untouched, reached_not_beside}
use Rattle.tenant.proofs.SlotOrder.{next_slots_rise}
use Rattle.tenant.proofs.loading.load_next.Goals as goal

pub returns-then-reaches-clause-untouched : goal.returns-then-reaches-clause-untouched
returns-then-reaches-clause-untouched g c =
    on_ok_weaker c.load_one.result
    (λ l. next_untouched c.args.image.now c.args.p c.args.guest.now.bus.pages c.load_one.new.guest.bus.pages l.others
    (λ b. absurd (reached_not_beside c.args.image.now c.args.p (c.reaches.ensures.reached c.if-reaches.true) b)) c.requires.untouched)
    c.load_one.ensures.loaded

pub returns-then-reaches-clause-loaded : goal.returns-then-reaches-clause-loaded
returns-then-reaches-clause-loaded g c =
    let old = c.args.guest.now.bus.pages in
    on_ok_weaker c.load_one.result
    (λ l a. next_loaded c.args.slots.now (g.S.SwapStore.held c.args.store.now) (g.S.SwapStore.held c.load_one.new.store) c.args.image.now (g.S.SwapStore.slots c.args.store.now)
    (length old) c.args.p old c.load_one.new.guest.bus.pages c.load_one.ensures.count l.others l.faithful l.lies c.load_one.ensures.used c.requires.once a)
    c.load_one.ensures.loaded

pub returns-then-reaches-clause-frames_first : goal.returns-then-reaches-clause-frames_first
returns-then-reaches-clause-frames_first g c =
    on_ok_both c.load_one.result
    (λ l now. next_frames_first c.args.image.now c.args.p c.args.pool.now c.load_one.new.pool c.args.guest.now.bus.pages c.load_one.new.guest.bus.pages l.others c.requires.untouched now c.requires.frames_first)
    c.load_one.ensures.loaded c.load_one.ensures.frame_first

pub returns-else-reaches-clause-untouched : goal.returns-else-reaches-clause-untouched
returns-else-reaches-clause-untouched g c = beside_untouched c.args.image.now c.args.p c.args.guest.now.bus.pages c.requires.untouched

pub returns-else-reaches-clause-loaded : goal.returns-else-reaches-clause-loaded
returns-else-reaches-clause-loaded g c = λ a.
    beside_loaded c.args.slots.now (g.S.SwapStore.held c.args.store.now) c.args.image.now (g.S.SwapStore.slots c.args.store.now) c.args.p c.args.guest.now.bus.pages
    c.requires.there c.requires.fits (c.reaches.ensures.beside c.if-reaches.false) c.requires.once c.requires.untouched a

pub returns-then-reaches-clause-none_private : goal.returns-then-reaches-clause-none_private
returns-then-reaches-clause-none_private g c = λ none before.
    on_ok_both c.load_one.result
    (λ l now. next_none_private c.args.p c.args.pool.now c.load_one.new.pool c.args.guest.now.bus.pages c.load_one.new.guest.bus.pages l.others now none before)
    c.load_one.ensures.loaded c.load_one.ensures.frame_first

pub returns-then-reaches-clause-slots_rise : goal.returns-then-reaches-clause-slots_rise
returns-then-reaches-clause-slots_rise g c =
    on_ok_both c.load_one.result
    (λ l now. next_slots_rise c.args.image.now c.args.p (g.S.SwapStore.slots c.args.store.now) c.args.slots.now c.load_one.new.slots c.args.guest.now.bus.pages c.load_one.new.guest.bus.pages l.others
    c.requires.untouched c.requires.once now c.requires.slots_rise)
    c.load_one.ensures.loaded c.load_one.ensures.lowest
