use Rattle.std.specs.Prelude.{[], ◌∷◌}
use Rattle.std.specs.Option.{option_to_list}
use Rattle.accounts.specs.declared.account.Account.TheVariants.{Table, Slots}
use Rattle.accounts.specs.OwnerShares.{guest_account}
use Rattle.accounts.proofs.guest_and_both.settle_both.Given as goal

abbrev pub ghosts-settle_both_as : goal.ghosts-settle_both_as
ghosts-settle_both_as g a = record { parts = Slots a.book.now ∷ Table a.shares.now.entries ∷ guest_account (g.P.Pages.pages a.pages.now) (option_to_list a.hand.now) ∷ [] }
