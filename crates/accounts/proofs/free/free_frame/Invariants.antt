use Rattle.std.specs.Prelude.{◌∷◌, map}
use Rattle.accounts.specs.declared.account.Account.TheVariants.{Frame}
use Rattle.accounts.proofs.free.free_frame.Given as goal

abbrev pub ghosts-free_frame_as : goal.ghosts-free_frame_as
ghosts-free_frame_as a = record { parts = Frame a.no.now ∷ map Frame a.left.now.free }
