use Rattle.std.specs.Prelude.{[], ◌∷◌}
use Rattle.std.specs.Option.{option_to_list}
use Rattle.accounts.specs.declared.account.Account.TheVariants.{Table}
use Rattle.accounts.specs.OwnerShares.{guest_account}
use Rattle.accounts.proofs.guest_and_table.settle_table.Given as goal

abbrev pub ghosts-settle_table_as : goal.ghosts-settle_table_as
ghosts-settle_table_as g a = record { parts = Table a.shares.now.entries ∷ guest_account (g.P.Pages.pages a.pages.now) (option_to_list a.hand.now) ∷ [] }
