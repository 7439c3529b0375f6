use Rattle.std.proofs.Common.{ap, ◌∙◌, List, ◌∷◌}
use Rattle.ledger.specs.Shares.{ShareIs}
use Rattle.slot_contents.specs.declared.content.Content.{Content}
use Rattle.slot_contents.specs.declared.content.Content.TheVariants.{Store, Free}
use Rattle.slot_contents.specs.Held.{listed}
use Rattle.machine_memory.proofs.Dealing.{parts_of_owners}
use Rattle.machine_memory.proofs.boot.deal_contents_as.Goals as goal

pub returns-clause-parts : goal.returns-clause-parts
returns-clause-parts g c =
    let held = g.S.SwapStore.held c.args.store.now in
    c.in_ok-contents.ensures.shares
    ∙ ap (λ (l : List Content). record { ledger = c.in_ok-contents.contents.id; parts = Store (listed c.in_ok-contents.contents.key held) ∷ Free c.args.book.now.free ∷ l })
    (parts_of_owners held g.P.Pages.pages c.args.guests.now g.O.Owners.slots c.requires.owners)
