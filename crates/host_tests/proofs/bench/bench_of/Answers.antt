use Rattle.std.proofs.Common.{rules, ◌≡◌, length}
use Rattle.host_tests.proofs.Crewing.{first_of_two, second_of_two}
use Rattle.host_tests.proofs.bench.bench_of.Goals as goal

pub invariant_of-result-clause-of_one : goal.invariant_of-result-clause-of_one
invariant_of-result-clause-of_one g c =
    let count : length c.args.handles.items ≡ 2 = search rules in
    first_of_two c.args.host.guests.cells.items c.args.handles.items c.pop.new.self.items c.pop-2.new.self.items c.in-Some-pop.one c.in-Some.two c.requires count c.in-Some.ensures.items
    c.in-Some-pop.ensures.items

pub invariant_of-result-clause-of_two : goal.invariant_of-result-clause-of_two
invariant_of-result-clause-of_two g c =
    let count : length c.args.handles.items ≡ 2 = search rules in
    second_of_two c.args.host.guests.cells.items c.args.handles.items c.pop.new.self.items c.in-Some.two c.requires count c.in-Some.ensures.items
