use Rattle.std.proofs.Common.{ap, ◌∙◌}
use Rattle.machine.specs.Bus.{Lacks}
use Rattle.machine.specs.Accesses.{accesses, first_lack}
use Rattle.machine.specs.Step.{machine_with}
use Rattle.guest_bus.specs.Buses.{board_of}
use Rattle.guest.proofs.Reaching.{need_inside}
use Rattle.guest.proofs.Stepping.{same_lacks}
use Rattle.guest.proofs.step.need_pages.Goals as goal

pub returns-clause-there : goal.returns-clause-there
returns-clause-there c =
    let b = c.args.bus.now in
    need_inside c.args.cpu.now b c.need.result c.whole.ensures c.requires.settled
    (c.need.ensures ∙ ap (λ (lacks : Lacks). first_lack lacks (accesses (machine_with c.args.cpu.now (board_of b)))) (same_lacks b.pages))
