use Rattle.std.proofs.Common.{ℕ, ◌≡◌, ◌<◌, ◌+◌, ◌∙◌, sym, ap, None, rules, arith}
use Rattle.machine.specs.Step.{Machine}
use Rattle.runs.specs.Endings.{ending_after, state_ending}
use Rattle.runs.specs.Runs.{after_steps}
use Rattle.runs.proofs.Covered.{covered_then}
use Rattle.runs.proofs.Ends.{ends_from, none_between, none_passed, steps_then}
use Rattle.runs.proofs.running.next_states.Goals as goal

pub returns-then-past-count-clause-none_before : goal.returns-then-past-count-clause-none_before
returns-then-past-count-clause-none_before g c =
    none_passed c.args.until.now (g.M.Runnable.state c.args.machine.now) c.steps_past-past.result c.steps_past-past.ensures.passed

pub returns-clause-state : goal.returns-clause-state
returns-clause-state g c =
    let first = g.M.Runnable.state c.args.machine.now in
    let past = c.steps_past-past in
    let next = c.next_state-next in
    next.ensures.state ∙ ap (after_steps next.result.steps) past.ensures.state ∙ steps_then past.result next.result.steps first

pub returns-clause-none_before : goal.returns-clause-none_before
returns-clause-none_before g c =
    let first = g.M.Runnable.state c.args.machine.now in
    let past = c.steps_past-past in
    let next = c.next_state-next in
    let nowhere : c.state_ending-ending.result ≡ None = search rules in
    let there : state_ending c.args.until.now (after_steps past.result first) ≡ None =
    ap (state_ending c.args.until.now) (sym past.ensures.state) ∙ sym c.state_ending-ending.ensures ∙ nowhere in
    none_between c.args.until.now first past.result next.result.steps next.ensures.few past.ensures.passed (λ any. there)

pub returns-clause-there : goal.returns-clause-there
returns-clause-there g c on =
    let first = g.M.Runnable.state c.args.machine.now in
    let past = c.steps_past-past in
    let next = c.next_state-next in
    let one = next.ensures.one on in
    let some : 0 < 1 = omega arith in
    next.ensures.there on
    ∙ ap (λ (m : Machine). ending_after c.args.until.now m 1) past.ensures.state
    ∙ ends_from c.args.until.now first past.result 1 some
    ∙ ap (λ (n : ℕ). ending_after c.args.until.now first (past.result + n)) (sym one)

pub returns-clause-covered : goal.returns-clause-covered
returns-clause-covered g c =
    let past = c.steps_past-past in
    let next = c.next_state-next in
    covered_then (g.M.Runnable.coverage c.args.machine.now) (g.M.Runnable.coverage past.new.self) (g.M.Runnable.coverage next.new.machine) past.result next.result.steps
    (g.M.Runnable.state c.args.machine.now) (g.M.Runnable.state past.new.self) past.ensures.covered past.ensures.state next.ensures.covered
