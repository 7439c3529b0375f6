use Rattle.std.specs.Prelude.{[], ◌∷◌}
use Rattle.std.specs.Option.{option_to_list}
use Rattle.accounts.specs.OwnerShares.{guest_account}
use Rattle.accounts.proofs.guest.settle.Given as goal

abbrev pub ghosts-settle_as : goal.ghosts-settle_as
ghosts-settle_as g a = record { parts = guest_account (g.P.Pages.pages a.pages.now) (option_to_list a.hand.now) ∷ [] }
