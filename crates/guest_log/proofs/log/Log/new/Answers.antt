use Rattle.guest_log.proofs.Keeping.{keeps_nothing}
use Rattle.guest_log.proofs.log.Log.new.Goals as goal

pub invariant_of-result : goal.invariant_of-result
invariant_of-result c = rw c.new.ensures.items (keeps_nothing c.runner.result c.args.limit)
