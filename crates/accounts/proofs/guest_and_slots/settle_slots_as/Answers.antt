use Rattle.std.proofs.Common.{ap}
use Rattle.accounts.proofs.Becoming.{slots_settles}
use Rattle.accounts.proofs.guest_and_slots.settle_slots_as.Goals as goal

pub settle-requires-clause-right : goal.settle-requires-clause-right
settle-requires-clause-right g c =
    slots_settles c.args.books.now.key _ _ _ _ _ _ _ _ c.requires.moved (ap (λ v. v.parts) c.lend.ensures.to) c.requires.new
