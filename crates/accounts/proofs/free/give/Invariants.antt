use Rattle.std.specs.Prelude.{[], ◌∷◌}
use Rattle.accounts.specs.declared.account.Account.TheVariants.{Frame}
use Rattle.accounts.specs.OwnerShares.{guest_account}
use Rattle.accounts.proofs.free.give.Given as goal

abbrev pub ghosts-give_as : goal.ghosts-give_as
ghosts-give_as g a = record { parts = Frame a.no.now ∷ guest_account (g.P.Pages.pages a.pages.now) [] ∷ [] }
