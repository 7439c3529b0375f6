use Rattle.std.specs.Prelude.{[], ◌∷◌, ◌++◌, map}
use Rattle.accounts.specs.declared.account.Account.TheVariants.{Table, Frame, Slots}
use Rattle.accounts.specs.OwnerShares.{guest_account}
use Rattle.accounts.proofs.dealing.settle_first.Given as goal

abbrev pub ghosts-settle_first_as : goal.ghosts-settle_first_as
ghosts-settle_first_as g a = record { parts = Slots a.slots.now ∷ Table a.table.now.entries ∷ (map (λ x. guest_account (g.P.Pages.pages x) []) a.guests.now ++ map Frame a.pool.now.free) }
