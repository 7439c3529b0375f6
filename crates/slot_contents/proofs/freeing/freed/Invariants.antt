use Rattle.std.specs.Prelude.{[], ◌∷◌}
use Rattle.slot_contents.specs.declared.content.Content.TheVariants.{Store, Free, Owner}
use Rattle.slot_contents.specs.Contents.{without}
use Rattle.slot_contents.specs.Shares.{its_written}
use Rattle.slot_contents.specs.Held.{listed}
use Rattle.slot_contents.proofs.freeing.freed.Given as goal

abbrev pub ghosts-freed_as : goal.ghosts-freed_as
ghosts-freed_as g a = record { parts = Owner (without a.slot (its_written a.owner.now)) ∷ Store (listed a.contents.now.key (g.S.SwapStore.held a.store.now)) ∷ Free a.book.now.free ∷ [] }
