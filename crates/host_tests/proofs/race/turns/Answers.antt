use Rattle.std.proofs.Common.{rules, ◌≡◌, length, drop}
use Rattle.host_policy.specs.Turns.{ArePolicySeats}
use Rattle.host_tests.proofs.Crewing.{turned_back}
use Rattle.host_tests.proofs.race.turns.Goals as goal

pub loop-turn-preserved : goal.loop-turn-preserved
loop-turn-preserved g c =
    let before : ArePolicySeats c.args.host.now.guests.cells.items c.deref_mut.result.now = search rules in
    let count : length c.deref_mut.result.now ≡ c.loop-turn.seats.len = search rules in
    turned_back _ c.args.host.now.guests.cells.items c.deref_mut.result.now c.policy_turn.new.seats (drop (length c.policy_turn.new.seats) c.loop-turn.seats.items) c.loop-turn.seats.len c.policy_turn.result c.policy_turn.ensures.seats
    c.policy_turn.ensures.unchanged before count
