use Rattle.std.proofs.Common.{rules, ◌≡◌, length}
use Rattle.host_policy.specs.Turns.{ArePolicySeats}
use Rattle.host_policy_tests.proofs.Seats.{turned_back}
use Rattle.host_policy_tests.proofs.bench.Bench.turn.Goals as goal

pub invariant_of-self-2-clause-its_seats : goal.invariant_of-self-2-clause-its_seats
invariant_of-self-2-clause-its_seats g c =
    let before : ArePolicySeats c.args.self.now.guests.cells.items c.deref_mut.result.now = search rules in
    let count : length c.deref_mut.result.now ≡ c.args.self.now.seats.len = search rules in
    turned_back _ c.args.self.now.guests.cells.items c.deref.result.now c.deref_mut.result.now c.turn.new.seats _ c.args.self.now.seats.len c.turn.result c.deref.ensures.value
    c.turn.ensures.seats c.turn.ensures.unchanged before count
