use Rattle.std.proofs.Common.{suc, ◌≡◌, ◌+◌, ◌%◌, ◌^◌, ◌-◌, length, arith}
use Rattle.machine.specs.Step.{Machine, machine_with}
use Rattle.guest_bus.specs.Buses.{board_of}
use Rattle.guest.proofs.Placing.{reached_pages, turned, inside_pages, sized}
use Rattle.guest.proofs.placed.pages_reached.Goals as goal

pub returns-then-number-clause-reached : goal.returns-then-number-clause-reached
returns-then-number-clause-reached c =
    let m : Machine = machine_with c.args.cpu.now (board_of c.args.bus.now) in
    let ends = c.in-Some.ends in
    reached_pages m c.args.address c.args.count ends.0 ends.1 c.ranges.address.fits c.requires.some c.requires.few c.in-Some.ensures.first c.in-Some.ensures.last

pub returns-then-number-clause-there : goal.returns-then-number-clause-there
returns-then-number-clause-there c =
    let m : Machine = machine_with c.args.cpu.now (board_of c.args.bus.now) in
    let last : suc (c.args.count - 1) ≡ c.args.count = omega (arith, c.requires.some) in
    inside_pages m ((c.args.address + (c.args.count - 1)) % 2 ^ 32) c.in-Some.ends.1 (length c.args.bus.now.pages) (sized c.args.bus.now c.whole.ensures c.requires.settled) (c.in-Some.ensures.last (c.args.count - 1) last)

pub returns-else-number-clause-reached : goal.returns-else-number-clause-reached
returns-else-number-clause-reached c =
    let m : Machine = machine_with c.args.cpu.now (board_of c.args.bus.now) in
    let ends = c.in-Some.ends in
    turned m c.args.address c.args.count ends.0 ends.1
    (reached_pages m c.args.address c.args.count ends.0 ends.1 c.ranges.address.fits c.requires.some c.requires.few c.in-Some.ensures.first c.in-Some.ensures.last)

pub returns-else-number-clause-there : goal.returns-else-number-clause-there
returns-else-number-clause-there c =
    let m : Machine = machine_with c.args.cpu.now (board_of c.args.bus.now) in
    inside_pages m ((c.args.address + 0) % 2 ^ 32) c.in-Some.ends.0 (length c.args.bus.now.pages) (sized c.args.bus.now c.whole.ensures c.requires.settled) c.in-Some.ensures.first
