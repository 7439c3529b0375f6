use Rattle.std.proofs.Common.{false, true, ◌≡◌, ◌<◌, ◌+◌, ◌++◌, ◌∷◌, [], ◌∙◌, ap, sym, arith, inl, inr}
use Rattle.items.specs.Entries.{step_by}
use Rattle.guest_log.specs.Logs.{LogIs}
use Rattle.guest_log.specs.Runs.{run_count}
use Rattle.guest_log.proofs.Keeping.{runs_with}
use Rattle.guest_log.proofs.log.Log.is_full_after.Goals as goal

pub returns-then-self-eq0 : goal.returns-then-self-eq0
returns-then-self-eq0 c =
    let g = c.self.inside in
    let before = ap (λ (v : LogIs). run_count v.items) c.self.view_is in
    let after = ap (λ (v : LogIs). run_count (v.items ++ step_by c.args.seat ∷ [])) c.self.view_is in
    let more = (runs_with g.earlier.items g.before g.last.seat g.last.steps c.args.seat g.limit c.self.invariant).1 (inl c.if-self-eq0.true) in
    let same : run_count (c.args.self.now.items ++ step_by c.args.seat ∷ []) ≡ run_count c.args.self.now.items + 1 = omega (arith, before, after, more) in
    ((λ full. omega (arith, c.has_one_run_left.ensures.0 full, same)), (λ full. c.has_one_run_left.ensures.1 (omega (arith, full, same))))

pub returns-then-number : goal.returns-then-number
returns-then-number c =
    let g = c.self.inside in
    let before = ap (λ (v : LogIs). run_count v.items) c.self.view_is in
    let after = ap (λ (v : LogIs). run_count (v.items ++ step_by c.args.seat ∷ [])) c.self.view_is in
    let seats : g.last.seat ≡ c.args.seat = sym c.number-2.ensures.value ∙ sym c.if-number.true ∙ c.number.ensures.value in
    let some : 0 < g.last.steps = omega (arith, c.if-self-eq0.false) in
    let same = (runs_with g.earlier.items g.before g.last.seat g.last.steps c.args.seat g.limit c.self.invariant).0 some seats in
    ((λ never. absurd (let wrong : false ≡ true = never in cc)), (λ full. absurd (omega (arith, full, before, after, same, c.requires.runs))))

pub returns : goal.returns
returns c =
    let g = c.self.inside in
    let before = ap (λ (v : LogIs). run_count v.items) c.self.view_is in
    let after = ap (λ (v : LogIs). run_count (v.items ++ step_by c.args.seat ∷ [])) c.self.view_is in
    let differ : g.last.seat ≡ c.args.seat → ⊥ = λ same. c.if-number.false (c.number.ensures.value ∙ sym same ∙ sym c.number-2.ensures.value) in
    let more = (runs_with g.earlier.items g.before g.last.seat g.last.steps c.args.seat g.limit c.self.invariant).1 (inr differ) in
    let same : run_count (c.args.self.now.items ++ step_by c.args.seat ∷ []) ≡ run_count c.args.self.now.items + 1 = omega (arith, before, after, more) in
    ((λ full. omega (arith, c.has_one_run_left-2.ensures.0 full, same)), (λ full. c.has_one_run_left-2.ensures.1 (omega (arith, full, same))))
