use Rattle.std.proofs.Common.{rules, ◌≡◌, length}
use Rattle.host_tests.proofs.Crewing.{first_handed, second_handed, third_handed, fourth_handed, policies_of_four}
use Rattle.host_tests.proofs.race.team_of.Goals as goal

pub parted-first-requires : goal.parted-first-requires
parted-first-requires g c =
    let four = c.four_of-first.result in
    first_handed c.args.booted.host.guests.cells.items c.args.booted.handles.items four.0 four.1 four.2 four.3 c.requires c.four_of-first.ensures

pub parted-second-requires : goal.parted-second-requires
parted-second-requires g c =
    let four = c.four_of-first.result in
    second_handed c.args.booted.host.guests.cells.items c.args.booted.handles.items four.0 four.1 four.2 four.3 c.requires c.four_of-first.ensures

pub parted-third-requires : goal.parted-third-requires
parted-third-requires g c =
    let four = c.four_of-first.result in
    third_handed c.args.booted.host.guests.cells.items c.args.booted.handles.items four.0 four.1 four.2 four.3 c.requires c.four_of-first.ensures

pub parted-fourth-requires : goal.parted-fourth-requires
parted-fourth-requires g c =
    let four = c.four_of-first.result in
    fourth_handed c.args.booted.host.guests.cells.items c.args.booted.handles.items four.0 four.1 four.2 four.3 c.requires c.four_of-first.ensures

pub invariant_of-result-clause-of_policy : goal.invariant_of-result-clause-of_policy
invariant_of-result-clause-of_policy g c =
    let count : length c.args.booted.host.guests.cells.items ≡ 4 = search rules in
    policies_of_four c.args.booted.host.guests.cells.items c.in-Ok.policies.items c.parted-first.result.1 c.parted-second.result.1 c.parted-third.result.1 c.parted-fourth.result.1 count c.in-Ok.ensures.items
    c.parted-first.ensures.policy c.parted-second.ensures.policy c.parted-third.ensures.policy c.parted-fourth.ensures.policy
