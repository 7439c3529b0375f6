use Rattle.world.proofs.All.{fault_logs, guests_move}
use Rattle.world.proofs.world.World.apply_fault.Goals as goal

pub returns-then-g-count-clause-logs : goal.returns-then-g-count-clause-logs
returns-then-g-count-clause-logs g c = fault_logs c.fault.ensures.moves

pub returns-then-g-count-clause-guests : goal.returns-then-g-count-clause-guests
returns-then-g-count-clause-guests g c = guests_move c.fault.ensures.moves
