use Rattle.machine_memory.proofs.Stakes.{level_at}
use Rattle.machine_memory.proofs.laws.each_guest_has_its_stake.Goals as goal

pub returns-clause-place : goal.returns-clause-place
returns-clause-place g c m stakes all at stake pages are this that = level_at m stakes all at stake pages are this that
