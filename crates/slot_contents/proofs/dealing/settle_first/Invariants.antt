use Rattle.slot_contents.specs.Shares.{all_shares}
use Rattle.slot_contents.proofs.dealing.settle_first.Given as goal

abbrev pub ghosts-settle_first_as : goal.ghosts-settle_first_as
ghosts-settle_first_as g a = record { parts = (all_shares a.contents.now (g.S.SwapStore.held a.store.now) a.book.now.free g.O.Owners.slots).parts }
