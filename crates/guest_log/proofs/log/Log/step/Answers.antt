use Rattle.std.proofs.Common.{ℕ, ◌∙◌, ap, sym, arith, length, ◌++◌, ◌∷◌, []}
use Rattle.items.specs.Entries.{step_by}
use Rattle.guest_log.specs.Logs.{LogIs}
use Rattle.guest_log.specs.Runs.{run_count}
use Rattle.guest_log.specs.Stored.{entries_of}
use Rattle.guest_log.proofs.Keeping.{keeps_same, keeps_next, items-more, items-next}
use Rattle.guest_log.proofs.log.Log.step.Goals as goal

pub invariant_of-self : goal.invariant_of-self
invariant_of-self c =
    let g = c.self.inside in
    let runs = ap (λ (v : LogIs). run_count v.items) c.self.view_is in
    let limit = ap (λ (v : LogIs). v.limit) c.self.view_is in
    let items = ap (λ (v : LogIs). length v.items) c.self.view_is in
    keeps_same g.earlier.items g.before g.last.seat g.last.steps g.limit (omega (arith, runs, limit)) (omega (arith, items)) c.self.invariant

pub invariant_of-self-else-number : goal.invariant_of-self-else-number
invariant_of-self-else-number c =
    let g = c.self.inside in
    let runs = ap (λ (v : LogIs). run_count v.items) c.self.view_is in
    let limit = ap (λ (v : LogIs). v.limit) c.self.view_is in
    let items = ap (λ (v : LogIs). length v.items) c.self.view_is in
    rw c.store.ensures.items (keeps_next g.earlier.items g.before g.last.seat g.last.steps c.args.seat g.limit (λ e. c.if-number.false (c.number.ensures.value ∙ e ∙ sym c.number-2.ensures.value)) (omega (arith, runs, limit)) (omega (arith, items)) c.self.invariant)

pub returns-then-number-clause-items : goal.returns-then-number-clause-items
returns-then-number-clause-items c =
    let g = c.self.inside in
    let same = sym c.number.ensures.value ∙ c.if-number.true ∙ c.number-2.ensures.value in
    items-more g.earlier.items g.last.seat g.last.steps
    ∙ ap (λ (v : LogIs). v.items ++ step_by g.last.seat ∷ []) c.self.view_is
    ∙ ap (λ (seat : ℕ). c.args.self.now.items ++ step_by seat ∷ []) same

pub returns-else-number-clause-items : goal.returns-else-number-clause-items
returns-else-number-clause-items c =
    let g = c.self.inside in
    rw c.store.ensures.items (items-next (entries_of g.earlier.items g.last) c.args.seat ∙ ap (λ (v : LogIs). v.items ++ step_by c.args.seat ∷ []) c.self.view_is)
