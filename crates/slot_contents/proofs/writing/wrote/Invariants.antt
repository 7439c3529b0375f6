use Rattle.std.specs.Prelude.{[], ◌∷◌}
use Rattle.slot_contents.specs.declared.content.Content.TheVariants.{Store, Free, Owner}
use Rattle.slot_contents.specs.Shares.{its_written}
use Rattle.slot_contents.specs.Held.{listed}
use Rattle.slot_contents.proofs.writing.wrote.Given as goal

abbrev pub ghosts-wrote_as : goal.ghosts-wrote_as
ghosts-wrote_as g a = record { parts = Owner (record { slot = a.slot; bytes = g.B.Bytes.bytes } ∷ its_written a.owner.now) ∷ Store (listed a.contents.now.key (g.S.SwapStore.held a.store.now)) ∷ Free a.book.now.free ∷ [] }
