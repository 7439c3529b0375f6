use Rattle.std.proofs.Common.{ℕ, ◌≡◌, ◌∙◌, ap, sym, subst}
use Rattle.world.proofs.All.{Answer, Event, GoesByWords, IsAnswered, StoreFacts, WorldIs}
use Rattle.world.specs.declared.events.Event.TheVariants as event
use Rattle.world.proofs.world.World.apply_event.Goals as goal

-- what is answered to an event whatever the tax is
told : {Kept : Type 0} (facts : StoreFacts Kept) (tax : ℕ) (w w' : WorldIs Kept) {e e' : Event} (a : Answer) → e ≡ e'
    → ((tax : ℕ) → IsAnswered facts tax w w' e' a) → IsAnswered facts tax w w' e a
told facts tax w w' a is so = subst (λ (f : Event). IsAnswered facts tax w w' f a) (sym is) (so tax)

pub returns-in-Step-clause-answered : goal.returns-in-Step-clause-answered
returns-in-Step-clause-answered g c = told g.S.SwapStore c.args.tax.percent c.args.self.now c.apply_step.new.self c.apply_step.result (c.in-Step.is ∙ ap (λ (g : ℕ). event.Step g) (sym c.index.ensures)) c.apply_step.ensures.answered

pub returns-in-Steps-clause-answered : goal.returns-in-Steps-clause-answered
returns-in-Steps-clause-answered g c = told g.S.SwapStore c.args.tax.percent c.args.self.now c.apply_steps.new.self c.apply_steps.result (c.in-Steps.is ∙ ap (λ (g : ℕ). event.Steps g c.in-Steps.count) (sym c.index-in-Steps.ensures)) c.apply_steps.ensures.answered

pub returns-in-Input-clause-answered : goal.returns-in-Input-clause-answered
returns-in-Input-clause-answered g c = told g.S.SwapStore c.args.tax.percent c.args.self.now c.apply_input.new.self c.apply_input.result (c.in-Input.is ∙ ap (λ (g : ℕ). event.Input g c.in-Input.item) (sym c.index-in-Input.ensures)) c.apply_input.ensures.answered

pub returns-in-Feed-clause-answered : goal.returns-in-Feed-clause-answered
returns-in-Feed-clause-answered g c = told g.S.SwapStore c.args.tax.percent c.args.self.now c.apply_feed.new.self c.apply_feed.result (c.in-Feed.is ∙ ap (λ (g : ℕ). event.Feed g c.in-Feed.bytes) (sym c.index-in-Feed.ensures)) c.apply_feed.ensures.answered

pub returns-in-Supply-clause-answered : goal.returns-in-Supply-clause-answered
returns-in-Supply-clause-answered g c = told g.S.SwapStore c.args.tax.percent c.args.self.now c.apply_supply.new.self c.apply_supply.result (c.in-Supply.is ∙ ap (λ (g : ℕ). event.Supply g c.in-Supply.p) (sym c.index-in-Supply.ensures)) c.apply_supply.ensures.answered

pub returns-in-Evict-clause-answered : goal.returns-in-Evict-clause-answered
returns-in-Evict-clause-answered g c = told g.S.SwapStore c.args.tax.percent c.args.self.now c.apply_evict.new.self c.apply_evict.result (c.in-Evict.is ∙ ap (λ (g : ℕ). event.Evict g c.in-Evict.p) (sym c.index-in-Evict.ensures)) c.apply_evict.ensures.answered

pub returns-in-Scan-clause-answered : goal.returns-in-Scan-clause-answered
returns-in-Scan-clause-answered g c = told g.S.SwapStore c.args.tax.percent c.args.self.now c.apply_scan.new.self c.apply_scan.result (c.in-Scan.is ∙ ap (λ (g : ℕ). event.Scan g c.in-Scan.p) (sym c.index-in-Scan.ensures)) c.apply_scan.ensures.answered

pub returns-in-Sample-clause-answered : goal.returns-in-Sample-clause-answered
returns-in-Sample-clause-answered g c = told g.S.SwapStore c.args.tax.percent c.args.self.now c.apply_sample.new.self c.apply_sample.result c.in-Sample.is c.apply_sample.ensures.answered

pub returns-in-Sample-clause-by_words : goal.returns-in-Sample-clause-by_words
returns-in-Sample-clause-by_words g c =
    subst (λ (e : Event). GoesByWords g.S.SwapStore c.args.tax.percent (g.R.Rng.stream c.args.rng.now) c.args.self.now e c.apply_sample.result (g.R.Rng.stream c.apply_sample.new.rng) c.apply_sample.new.self)
    (sym c.in-Sample.is) (c.apply_sample.ensures.by_words c.args.tax.percent)
