use Rattle.std.proofs.Common.{rules, ◌≡◌, length}
use Rattle.host_tests.proofs.TwoGuests.{first_of_two, second_of_two}
use Rattle.host_tests.proofs.pairs.two_of.Goals as goal

pub returns-clause-first : goal.returns-clause-first
returns-clause-first g c =
    let count : length c.args.handles.items ≡ 2 = search rules in
    first_of_two c.args.host.now.guests.cells.items c.args.handles.items c.pop.new.self.items c.pop-2.new.self.items c.in-Some-pop.one c.in-Some.two c.requires count c.in-Some.ensures.items
    c.in-Some-pop.ensures.items

pub returns-clause-second : goal.returns-clause-second
returns-clause-second g c =
    let count : length c.args.handles.items ≡ 2 = search rules in
    second_of_two c.args.host.now.guests.cells.items c.args.handles.items c.pop.new.self.items c.in-Some.two c.requires count c.in-Some.ensures.items
