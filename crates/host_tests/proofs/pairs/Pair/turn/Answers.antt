use Rattle.std.proofs.Common.{rules, ◌≡◌, length}
use Rattle.host_policy.specs.Turns.{ArePolicySeats}
use Rattle.host_tests.proofs.Crewing.{turned_back}
use Rattle.host_tests.proofs.pairs.Pair.turn.Goals as goal

pub invariant_of-self-clause-of_policy : goal.invariant_of-self-clause-of_policy
invariant_of-self-clause-of_policy g c =
    let before : ArePolicySeats c.args.self.now.host.guests.cells.items c.deref_mut.result.now = search rules in
    let count : length c.deref_mut.result.now ≡ c.args.self.now.policies.len = search rules in
    turned_back _ c.args.self.now.host.guests.cells.items c.deref_mut.result.now c.policy_turn.new.seats _ c.args.self.now.policies.len c.policy_turn.result c.policy_turn.ensures.seats
    c.policy_turn.ensures.unchanged before count
