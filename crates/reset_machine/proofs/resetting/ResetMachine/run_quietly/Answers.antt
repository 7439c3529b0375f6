use Rattle.std.proofs.Common.{ap, subst, ◌∙◌}
use Rattle.machine.specs.Step.{machine_with}
use Rattle.mips_fast.specs.Runs.{AreAdmitted}
use Rattle.runs.specs.Coverage.{CoverageIs, covered}
use Rattle.reset_machine.specs.Watched.{Resettable}
use Rattle.reset_machine.proofs.Reaching.{among, steps_reached}
use Rattle.reset_machine.proofs.resetting.ResetMachine.run_quietly.Goals as goal

pub returns-then-is_kept-clause-coverage : goal.returns-then-is_kept-clause-coverage
returns-then-is_kept-clause-coverage g c =
    let made = c.run.result in
    let m = machine_with c.self.inside.cpu c.self.inside.bus.board in
    let filter = g.F.Filter.admits c.new-reached.result.filter.now in
    let admitted = subst (λ (cover : CoverageIs). AreAdmitted (among cover filter) made m) c.new-reached.ensures.cover c.run.ensures.admitted in
    steps_reached made m c.self.inside.cover filter admitted ∙ ap (λ (r : Resettable). covered made r.machine r.coverage) c.self.view_is
