use Rattle.host_tests.proofs.Crewing.{first_policy, second_policy, third_policy, fourth_policy, handles_of_four}
use Rattle.host_tests.proofs.race.end.Goals as goal

pub left_of-first-requires-clause-policy : goal.left_of-first-requires-clause-policy
left_of-first-requires-clause-policy g c =
    let four = c.four_of-one.result in
    first_policy c.args.team.host.guests.cells.items c.args.team.policies.items four.0 four.1 four.2 four.3 c.args.team.of_policy c.four_of-one.ensures

pub left_of-second-requires-clause-policy : goal.left_of-second-requires-clause-policy
left_of-second-requires-clause-policy g c =
    let four = c.four_of-one.result in
    second_policy c.args.team.host.guests.cells.items c.args.team.policies.items four.0 four.1 four.2 four.3 c.args.team.of_policy c.four_of-one.ensures

pub left_of-third-requires-clause-policy : goal.left_of-third-requires-clause-policy
left_of-third-requires-clause-policy g c =
    let four = c.four_of-one.result in
    third_policy c.args.team.host.guests.cells.items c.args.team.policies.items four.0 four.1 four.2 four.3 c.args.team.of_policy c.four_of-one.ensures

pub left_of-fourth-requires-clause-policy : goal.left_of-fourth-requires-clause-policy
left_of-fourth-requires-clause-policy g c =
    let four = c.four_of-one.result in
    fourth_policy c.args.team.host.guests.cells.items c.args.team.policies.items four.0 four.1 four.2 four.3 c.args.team.of_policy c.four_of-one.ensures

pub finish-requires : goal.finish-requires
finish-requires g c = record {
  handles = handles_of_four c.args.team.host.guests.cells.items c.in-Ok.handles.items c.left_of-first.result.0 c.left_of-second.result.0 c.left_of-third.result.0 c.left_of-fourth.result.0 c.args.team.four
      c.in-Ok.ensures.items c.left_of-first.ensures c.left_of-second.ensures c.left_of-third.ensures c.left_of-fourth.ensures;
}
