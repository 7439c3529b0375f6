use Rattle.std.proofs.Common.{rules, ◌∙◌}
use Rattle.fuzz_command.specs.Settings.{IsSilent}
use Rattle.fuzz_command.proofs.Readiness.{still_silent}
use Rattle.fuzz_command.proofs.ready.make_ready.Goals as goal

pub returns-in-Ok-clause-silent : goal.returns-in-Ok-clause-silent
returns-in-Ok-clause-silent c =
    let booted = c.in_ok-machine.machine.machine in
    let silent : IsSilent booted = search rules in
    still_silent c.in_ok-made.made booted c.in-Ok.home.value (c.in-Ok.ensures.ok ∙ c.into_home.ensures ∙ c.in_ok-made.ensures.machine) silent
