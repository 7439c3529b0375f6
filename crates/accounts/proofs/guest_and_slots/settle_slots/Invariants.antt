use Rattle.std.specs.Prelude.{[], ◌∷◌}
use Rattle.std.specs.Option.{option_to_list}
use Rattle.accounts.specs.declared.account.Account.TheVariants.{Slots}
use Rattle.accounts.specs.OwnerShares.{guest_account}
use Rattle.accounts.proofs.guest_and_slots.settle_slots.Given as goal

abbrev pub ghosts-settle_slots_as : goal.ghosts-settle_slots_as
ghosts-settle_slots_as g a = record { parts = Slots a.book.now ∷ guest_account (g.P.Pages.pages a.pages.now) (option_to_list a.hand.now) ∷ [] }
