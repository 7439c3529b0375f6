use Rattle.logfile.proofs.Kept.{items_kept, all_kept}
use Rattle.logfile.proofs.laws.written_entries_have_the_same_items.Goals as goal

pub returns-clause-each : goal.returns-clause-each
returns-clause-each c = items_kept

pub returns-clause-all : goal.returns-clause-all
returns-clause-all c = all_kept
