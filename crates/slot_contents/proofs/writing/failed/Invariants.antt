use Rattle.std.specs.Prelude.{[], ◌∷◌}
use Rattle.slot_contents.specs.declared.content.Content.TheVariants.{Store, Free}
use Rattle.slot_contents.specs.Held.{listed}
use Rattle.slot_contents.proofs.writing.failed.Given as goal

abbrev pub ghosts-failed_as : goal.ghosts-failed_as
ghosts-failed_as g a = record { parts = Store (listed a.contents.now.key (g.S.SwapStore.held a.store.now)) ∷ Free a.book.now.free ∷ [] }
