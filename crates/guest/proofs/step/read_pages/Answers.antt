use Rattle.std.proofs.Common.{length, subst, ◌∙◌}
use Rattle.machine.specs.Bus.{Lacks}
use Rattle.machine.specs.Step.{machine_with}
use Rattle.machine.specs.Replies.{EachPlace, CanLook}
use Rattle.guest_bus.specs.Buses.{board_of}
use Rattle.guest.proofs.Looking.{read_same, none_same, some_place_same}
use Rattle.guest.proofs.Stepping.{same_lacks}
use Rattle.guest.proofs.step.read_pages.Goals as goal

pub returns-in-Ok-clause-read : goal.returns-in-Ok-clause-read
returns-in-Ok-clause-read c = λ m s.
    let cpu = c.args.cpu.now in
    let b = c.args.bus.now in
    let count = length c.args.bytes.now in
    let can = subst (λ (lacks : Lacks). EachPlace (machine_with cpu (board_of b)) c.args.address count (CanLook lacks)) (same_lacks b.pages) c.in-Ok.ensures.there in
    read_same m cpu b c.whole.ensures c.requires.settled s c.args.address count can ∙ c.in-Ok.ensures.read

pub returns-in-Ok-clause-no_place : goal.returns-in-Ok-clause-no_place
returns-in-Ok-clause-no_place c = λ m s.
    let none = none_same m c.args.cpu.now c.args.bus.now c.whole.ensures c.requires.settled s c.args.address (length c.args.bytes.now) in
    (λ refused. none.0 (c.in-Ok.ensures.no_place.0 refused), λ e. c.in-Ok.ensures.no_place.1 (none.1 e))

pub returns-in-Err-clause-no_place : goal.returns-in-Err-clause-no_place
returns-in-Err-clause-no_place c = λ m s.
    let none = none_same m c.args.cpu.now c.args.bus.now c.whole.ensures c.requires.settled s c.args.address (length c.args.bytes.now) in
    (λ refused. none.0 (c.in-Err.ensures.no_place.0 refused), λ e. c.in-Err.ensures.no_place.1 (none.1 e))

pub returns-in-Err-clause-its_page : goal.returns-in-Err-clause-its_page
returns-in-Err-clause-its_page c = λ page away m s.
    some_place_same m c.args.cpu.now c.args.bus.now c.whole.ensures c.requires.settled s c.args.address (length c.args.bytes.now) page (c.in-Err.ensures.its_page page away)
