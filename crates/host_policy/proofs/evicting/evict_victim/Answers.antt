use Rattle.host_policy.proofs.Found.{one_victim}
use Rattle.host_policy.proofs.evicting.evict_victim.Goals as goal

pub returns-in-Err-NoSwap : goal.returns-in-Err-NoSwap
returns-in-Err-NoSwap g c = one_victim c.args.cells.now _ c.in-Some.ensures.victim

pub returns-in-Err-SwapWrite : goal.returns-in-Err-SwapWrite
returns-in-Err-SwapWrite g c = one_victim c.args.cells.now _ c.in-Some.ensures.victim
