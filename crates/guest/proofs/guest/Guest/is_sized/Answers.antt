use Rattle.std.proofs.Common.{subst}
use Rattle.guest.specs.Guests.{IsSized}
use Rattle.guest.proofs.Placing.{sized}
use Rattle.guest.proofs.guest.Guest.is_sized.Goals as goal

pub returns : goal.returns
returns c = subst IsSized c.self.view_is (sized c.self.inside.bus c.whole.ensures c.self.invariant)
