use Rattle.cell_tests.specs.Booting.{untouched}
use Rattle.cell_tests.proofs.Booted.{two_popped}
use Rattle.cell_tests.proofs.boot.two_stakes.Goals as goal

pub returns-clause-one : goal.returns-clause-one
returns-clause-one g c =
    (two_popped c.args._memory.now c.args.stakes.items c.pop.new.self.items c.pop-2.new.self.items c.in-Some-pop.one c.in-Some.two untouched untouched
    (c.each_guest_has_its_stake.ensures.last c.args._memory.now) c.requires c.in-Some.ensures.items c.in-Some-pop.ensures.items).0

pub returns-clause-two : goal.returns-clause-two
returns-clause-two g c =
    (two_popped c.args._memory.now c.args.stakes.items c.pop.new.self.items c.pop-2.new.self.items c.in-Some-pop.one c.in-Some.two untouched untouched
    (c.each_guest_has_its_stake.ensures.last c.args._memory.now) c.requires c.in-Some.ensures.items c.in-Some-pop.ensures.items).1
