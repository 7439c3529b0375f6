use Rattle.taxpolicy.proofs.Reclaiming.{without_page_set}
use Rattle.taxpolicy.proofs.allotment.take_page.Goals as goal

pub returns : goal.returns
returns c = without_page_set c.args.stats.now c.args.g _ _ _
