use Rattle.std.proofs.Common.{◌∙◌}
use Rattle.machine.specs.Boot.{boot_machine}
use Rattle.commands.proofs.Reports.{whole}
use Rattle.commands.proofs.exec.rehearse.Goals as goal

pub returns : goal.returns
returns g c =
    whole c.args.until.now c.args.order.steps c.args.input.now c.as_slice.result.now c.in_ok-machine.machine.machine (boot_machine c.args.order.profile c.args.image.now c.args.order.pages) c.run.result
    c.as_slice.ensures.value (c.in_ok-machine.ensures.machine ∙ c.in_ok-home-2.ensures.ok ∙ c.in_ok-home.ensures) c.run.ensures.count c.run.ensures.reason c.run.ensures.first
