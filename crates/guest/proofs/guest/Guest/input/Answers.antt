use Rattle.std.proofs.Common.{◌≡◌, ℕ, List, [], ◌∷◌, ◌++◌, Option, sym, ap, subst, ◌∙◌}
use Rattle.items.specs.declared.item.Item.{Item}
use Rattle.machine.specs.Step.{Machine}
use Rattle.machine.specs.Boot.{boot_machine}
use Rattle.machine.specs.Items.{after}
use Rattle.page_moves.specs.Faith.{Kept}
use Rattle.guest.specs.Guests.{GuestIs, guest_of, view_of, Intact}
use Rattle.guest.specs.Views.{pages_seen, Shows}
use Rattle.guest.proofs.Logging.{run_more, accepted_more}
use Rattle.guest.proofs.guest.Guest.input.Goals as goal

pub returns-in-Ok-clause-moves : goal.returns-in-Ok-clause-moves
returns-in-Ok-clause-moves c =
    let g = c.self.inside in
    let boot = boot_machine g.profile g.image.value g.pages in
    let after_item = guest_of c.input_pages.new.cpu c.input_pages.new.bus boot c.add.new.self in
    let items = c.add.ensures.adds.items ∙ ap (λ (xs : List Item). xs ++ c.args.item ∷ []) c.make_item_room.ensures.taken.items in
    subst (λ (g : GuestIs). view_of after_item ≡ after c.args.item.what (view_of g)) c.self.view_is
    (run_more g.owned_log.log.items c.add.new.self.log.items c.args.item boot items)

pub returns-in-Ok-clause-intact : goal.returns-in-Ok-clause-intact
returns-in-Ok-clause-intact c =
    let g = c.self.inside in
    let boot = boot_machine g.profile g.image.value g.pages in
    let now = guest_of g.cpu g.bus boot g.owned_log in
    let after_item = guest_of c.input_pages.new.cpu c.input_pages.new.bus boot c.add.new.self in
    let items = c.add.ensures.adds.items ∙ ap (λ (xs : List Item). xs ++ c.args.item ∷ []) c.make_item_room.ensures.taken.items in
    let moves = run_more g.owned_log.log.items c.add.new.self.log.items c.args.item boot items in
    subst (λ (g : GuestIs). Intact g → Intact after_item) c.self.view_is
    (λ (intact : Intact now). record {
      shows = subst (λ (m : Machine). Shows m c.input_pages.new.cpu c.input_pages.new.bus) (sym moves) (c.in-Ok.ensures.shows (view_of now) intact.shows);
      accepted = accepted_more g.owned_log.log.items c.add.new.self.log.items c.args.item boot items (c.in-Ok.ensures.accepted (view_of now) intact.shows) intact.accepted;
    })

pub returns-in-Ok-clause-kept : goal.returns-in-Ok-clause-kept
returns-in-Ok-clause-kept c =
    let g = c.self.inside in
    let boot = boot_machine g.profile g.image.value g.pages in
    let now = guest_of g.cpu g.bus boot g.owned_log in
    let after_item = guest_of c.input_pages.new.cpu c.input_pages.new.bus boot c.add.new.self in
    let items = c.add.ensures.adds.items ∙ ap (λ (xs : List Item). xs ++ c.args.item ∷ []) c.make_item_room.ensures.taken.items in
    let moves = run_more g.owned_log.log.items c.add.new.self.log.items c.args.item boot items in
    subst (λ (g : GuestIs). Intact g → (held : ℕ → Option (List ℕ)) → Kept held (pages_seen (view_of g)) g.bus.pages → Kept held (pages_seen (view_of after_item)) after_item.bus.pages) c.self.view_is
    (λ (intact : Intact now) held k.
    subst (λ (m : Machine). Kept held (pages_seen m) c.input_pages.new.bus.pages) (sym moves) (c.in-Ok.ensures.kept (view_of now) intact.shows held k))
