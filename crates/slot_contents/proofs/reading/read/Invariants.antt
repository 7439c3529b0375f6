use Rattle.std.specs.Prelude.{[], ◌∷◌}
use Rattle.slot_contents.specs.declared.content.Content.TheVariants.{Store, Free}
use Rattle.slot_contents.specs.Shares.{its_free}
use Rattle.slot_contents.specs.Held.{listed}
use Rattle.slot_contents.proofs.reading.read.Given as goal

abbrev pub ghosts-read_as : goal.ghosts-read_as
ghosts-read_as g a = record { parts = Store (listed a.contents.now.key (g.S.SwapStore.held a.store.now)) ∷ Free (its_free a.swap.now) ∷ [] }
