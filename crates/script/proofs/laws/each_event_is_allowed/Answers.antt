use Rattle.script.proofs.Kept.{each_is_allowed}
use Rattle.script.proofs.laws.each_event_is_allowed.Goals as goal

pub returns : goal.returns
returns c = each_is_allowed
