use Rattle.cell.proofs.Lent.{moved_intact, moved_written}
use Rattle.cell.proofs.lending.scan_over.Goals as goal

pub returns-clause-intact : goal.returns-clause-intact
returns-clause-intact g c = moved_intact c.args.guest.now c.scan.new.pages c.scan.ensures.rest c.scan.ensures.count c.scan.ensures.faithful

pub returns-clause-written : goal.returns-clause-written
returns-clause-written g c = moved_written c.args.stake.now c.scan.new.stake c.args.guest.now c.scan.new.pages c.scan.ensures.rest c.scan.ensures.kept
