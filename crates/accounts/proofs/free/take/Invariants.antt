use Rattle.std.specs.Prelude.{[], ◌∷◌}
use Rattle.accounts.specs.OwnerShares.{guest_account}
use Rattle.accounts.proofs.free.take.Given as goal

abbrev pub ghosts-take_as : goal.ghosts-take_as
ghosts-take_as g a = record { parts = guest_account (g.P.Pages.pages a.pages.now) (a.no.now ∷ []) ∷ [] }
