use Rattle.std.proofs.Common.{◌≡◌, ℕ, true, List, Option, sym, subst}
use Rattle.items.specs.declared.item.Item.{Item}
use Rattle.items.specs.declared.item.What.TheVariants.{In}
use Rattle.machine.specs.Step.{Machine}
use Rattle.machine.specs.Boot.{boot_machine}
use Rattle.machine.specs.Items.{accepts, after}
use Rattle.page_moves.specs.Faith.{Kept}
use Rattle.guest_bus.specs.Buses.{GuestBusIs}
use Rattle.guest.specs.Guests.{GuestIs, guest_of, view_of, standing, Intact}
use Rattle.guest.specs.Views.{pages_seen, Shows}
use Rattle.guest.proofs.Feeding.{accepted_too, fed_shows}
use Rattle.guest.proofs.Logging.{run_more, accepted_more}
use Rattle.guest.proofs.guest.Guest.take_in.Goals as goal

pub returns-clause-moves : goal.returns-clause-moves
returns-clause-moves c =
    let g = c.self.inside in
    let boot = boot_machine g.profile g.image.value g.pages in
    let fed = guest_of g.cpu c.take_in.new.self boot c.add.new.self in
    let item : Item = record { seat = c.number.result; what = In c.args.byte } in
    subst (λ (g : GuestIs). view_of fed ≡ after (In c.args.byte) (view_of g)) c.self.view_is
    (run_more g.owned_log.log.items c.add.new.self.log.items item boot c.add.ensures.adds.items)

pub returns-clause-intact : goal.returns-clause-intact
returns-clause-intact c =
    let g = c.self.inside in
    let boot = boot_machine g.profile g.image.value g.pages in
    let now = guest_of g.cpu g.bus boot g.owned_log in
    let fed = guest_of g.cpu c.take_in.new.self boot c.add.new.self in
    let item : Item = record { seat = c.number.result; what = In c.args.byte } in
    let moves = run_more g.owned_log.log.items c.add.new.self.log.items item boot c.add.ensures.adds.items in
    let room = subst (λ (g : GuestIs). accepts (In c.args.byte) (standing g) ≡ true) (sym c.self.view_is) c.requires.accepted in
    subst (λ (g : GuestIs). Intact g → Intact fed) c.self.view_is
    (λ (intact : Intact now). record {
      shows = subst (λ (m : Machine). Shows m g.cpu c.take_in.new.self) (sym moves)
          (subst (λ (b : GuestBusIs). Shows (after (In c.args.byte) (view_of now)) g.cpu b) (sym c.take_in.ensures) (fed_shows c.args.byte (view_of now) g.cpu g.bus intact.shows));
      accepted = accepted_more g.owned_log.log.items c.add.new.self.log.items item boot c.add.ensures.adds.items
          (accepted_too c.args.byte (view_of now) g.cpu g.bus intact.shows room) intact.accepted;
    })

pub returns-clause-kept : goal.returns-clause-kept
returns-clause-kept c =
    let g = c.self.inside in
    let boot = boot_machine g.profile g.image.value g.pages in
    let now = guest_of g.cpu g.bus boot g.owned_log in
    let fed = guest_of g.cpu c.take_in.new.self boot c.add.new.self in
    let item : Item = record { seat = c.number.result; what = In c.args.byte } in
    let moves = run_more g.owned_log.log.items c.add.new.self.log.items item boot c.add.ensures.adds.items in
    subst (λ (g : GuestIs). (held : ℕ → Option (List ℕ)) → Kept held (pages_seen (view_of g)) g.bus.pages → Kept held (pages_seen (view_of fed)) fed.bus.pages) c.self.view_is
    (λ held k.
    subst (λ (m : Machine). Kept held (pages_seen m) c.take_in.new.self.pages) (sym moves)
    (subst (λ (b : GuestBusIs). Kept held (pages_seen (after (In c.args.byte) (view_of now))) b.pages) (sym c.take_in.ensures) k))
