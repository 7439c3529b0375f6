use Rattle.std.proofs.Common.{rules}
use Rattle.host_tests.proofs.TwoGuests.{policies_of_two}
use Rattle.host_tests.proofs.pairs.pair_of.Goals as goal

pub invariant_of-result : goal.invariant_of-result
invariant_of-result g c = record {
  two_guests = c.two_of-one.ensures.guests;
  of_first = c.seats_of-first.ensures.runner;
  of_second = c.seats_of-second.ensures.runner;
  of_first_debugger = c.seats_of-first.ensures.debugger;
  of_second_debugger = c.seats_of-second.ensures.debugger;
  of_policy = policies_of_two c.args.booted.host.guests.cells.items c.in-Ok.policies.items c.seats_of-first.result.2 c.seats_of-second.result.2
      c.two_of-one.ensures.guests (search rules) c.seats_of-first.ensures.policy c.seats_of-second.ensures.policy;
}
