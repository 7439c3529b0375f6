use Rattle.std.proofs.Common.{[], ◌∷◌}
use Rattle.accounts.proofs.tests.copied.Goals as goal

pub supply_copy-requires-clause-covered : goal.supply_copy-requires-clause-covered
supply_copy-requires-clause-covered g c = c.meet_table.ensures.covered _ (c.args.no ∷ []) c.requires.guest
