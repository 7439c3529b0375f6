use Rattle.std.proofs.Common.{rules, ◌≡◌, length, drop}
use Rattle.host_policy.specs.Turns.{ArePolicySeats}
use Rattle.host_tests.proofs.Crewing.{turned_back}
use Rattle.host_tests.proofs.waiting_tests.turns.Goals as goal

pub loop-preserved : goal.loop-preserved
loop-preserved g c =
    let before : ArePolicySeats c.args.host.now.guests.cells.items c.deref_mut.result.now = search rules in
    let count : length c.deref_mut.result.now ≡ c.loop.seats.len = search rules in
    turned_back _ c.args.host.now.guests.cells.items c.deref_mut.result.now c.policy_turn-made.new.seats (drop (length c.policy_turn-made.new.seats) c.loop.seats.items) c.loop.seats.len c.policy_turn-made.result c.policy_turn-made.ensures.seats
    c.policy_turn-made.ensures.unchanged before count
