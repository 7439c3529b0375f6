use Rattle.std.proofs.Common.{ℕ, List, Option, refl, subst}
use Rattle.machine.specs.Boot.{boot_machine}
use Rattle.page_moves.specs.Faith.{Kept}
use Rattle.guest.specs.Guests.{GuestIs, guest_of, view_of, LogsOnly, Intact}
use Rattle.guest.specs.Views.{pages_seen}
use Rattle.guest.proofs.Keeping.{roomy_intact, roomy_kept}
use Rattle.guest.proofs.guest.Guest.item_room.Goals as goal

pub returns-clause-intact : goal.returns-clause-intact
returns-clause-intact c =
    let g = c.self.inside in
    let boot = boot_machine g.profile g.image.value g.pages in
    let now = guest_of g.cpu g.bus boot g.owned_log in
    let after = guest_of g.cpu g.bus boot c.make_item_room.new.self in
    let told = c.make_item_room.ensures in
    let only : LogsOnly now after = record { cpu = refl; bus = refl; boot = refl; head = told.head.0; seats = told.head.1 } in
    subst (λ (g : GuestIs). Intact g → Intact after) c.self.view_is (roomy_intact now after only told.taken.items)

pub returns-clause-kept : goal.returns-clause-kept
returns-clause-kept c =
    let g = c.self.inside in
    let boot = boot_machine g.profile g.image.value g.pages in
    let now = guest_of g.cpu g.bus boot g.owned_log in
    let after = guest_of g.cpu g.bus boot c.make_item_room.new.self in
    let told = c.make_item_room.ensures in
    let only : LogsOnly now after = record { cpu = refl; bus = refl; boot = refl; head = told.head.0; seats = told.head.1 } in
    subst (λ (g : GuestIs). (held : ℕ → Option (List ℕ)) → Kept held (pages_seen (view_of g)) g.bus.pages → Kept held (pages_seen (view_of after)) after.bus.pages) c.self.view_is
    (roomy_kept now after only told.taken.items)
