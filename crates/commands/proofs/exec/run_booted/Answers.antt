use Rattle.std.proofs.Common.{ℕ, List, Option, IfSome, sym, subst}
use Rattle.runs.specs.declared.running.Ran.{Ran}
use Rattle.runs.specs.Runs.{IsCount}
use Rattle.commands.specs.Runs.{IsWhole}
use Rattle.commands.proofs.exec.run_booted.Goals as goal

pub returns-in-Some-clause-count : goal.returns-in-Some-clause-count
returns-in-Some-clause-count g c =
    let steps = c.args.steps in
    let found = c.in-Some.found in
    let whole = subst (λ (o : Option Ran). IfSome o (IsWhole c.args.runner.now.machine c.args.input.now steps c.args.until.now)) c.in-Some.is c.requires.found in
    subst (λ (bytes : List ℕ). IsCount bytes steps c.run_again.result) c.as_slice.ensures.value
    (c.run_again.ensures.count steps (subst (λ (bytes : List ℕ). IsCount bytes steps found) (sym c.as_slice.ensures.value) whole.count))
