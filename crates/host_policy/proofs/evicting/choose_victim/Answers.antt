use Rattle.std.proofs.Common.{length}
use Rattle.host_policy.specs.Numbers.{AreStatsOf}
use Rattle.host_policy.proofs.Found.{still_found, chosen}
use Rattle.host_policy.proofs.evicting.choose_victim.Goals as goal

pub returns-clause-victim : goal.returns-clause-victim
returns-clause-victim g c =
    let by = c.choose.ensures.sampled in
    let its = c.choose.ensures.victim in
    let found : AreStatsOf c.args.cells.now c.choose.new.stats = still_found c.args.cells.now by.0 c.read_stats.new.stats c.choose.new.stats c.read_stats.ensures by.1 in
    chosen c.args.cells.now c.choose.new.stats its.0 (length c.read_stats.new.stats) c.choose.result found its.1 its.2 c.choose.ensures.there c.read_stats.ensures.count

pub returns-clause-nobody : goal.returns-clause-nobody
returns-clause-nobody g c =
    let by = c.choose.ensures.sampled in
    λ none. record {
      stats = c.choose.new.stats;
      found = still_found c.args.cells.now by.0 c.read_stats.new.stats c.choose.new.stats c.read_stats.ensures by.1;
      nobody = c.choose.ensures.nobody none;
    }
