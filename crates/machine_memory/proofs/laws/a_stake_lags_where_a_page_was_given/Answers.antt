use Rattle.machine_memory.proofs.Stakes.{level_lags}
use Rattle.machine_memory.proofs.laws.a_stake_lags_where_a_page_was_given.Goals as goal

pub returns : goal.returns
returns g c = level_lags
