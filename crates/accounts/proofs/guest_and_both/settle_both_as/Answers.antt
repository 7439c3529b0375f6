use Rattle.std.proofs.Common.{ap, ◌∙◌, ◌++◌}
use Rattle.accounts.proofs.Becoming.{both_settles}
use Rattle.accounts.proofs.guest_and_both.settle_both_as.Goals as goal

pub settle-requires-clause-right : goal.settle-requires-clause-right
settle-requires-clause-right g c =
    both_settles c.args.books.now.key _ _ _ _ _ _ _ _ _ _ c.requires.moved
    (ap (λ v. v.parts) c.lend-2.ensures.to ∙ ap (λ v. c.args.slots.now.parts ++ v.parts) c.lend.ensures.to) c.requires.new
