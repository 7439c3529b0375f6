use Rattle.cell.proofs.Lent.{moved_written}
use Rattle.cell.proofs.lending.evict_over.Goals as goal

pub returns-clause-written : goal.returns-clause-written
returns-clause-written g c = moved_written c.args.stake.now c.evict.new.stake c.args.guest.now c.evict.new.pages c.evict.ensures.rest c.evict.ensures.kept
