use Rattle.host_run.proofs.Seats.{turned}
use Rattle.host_run.proofs.sharing.turn_if_due.Goals as goal

pub returns-in-Ok : goal.returns-in-Ok
returns-in-Ok g c =
    record { seats = turned g.S.SwapStore.true_to_digests c.args.host.now.guests.cells.items c.args.seats.now c.policy_turn-turn.new.seats c.in-Ok.ensures.seats }
