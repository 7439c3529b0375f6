use Rattle.std.proofs.Common.{◌≡◌, ℕ, List, Option, Some, None, refl, sym, subst, ◌∙◌}
use Rattle.items.specs.Entries.{step_by}
use Rattle.machine.specs.Accesses.{accesses, first_lack}
use Rattle.machine.specs.Step.{Machine, step}
use Rattle.machine.specs.Boot.{boot_machine}
use Rattle.page_moves.specs.Faith.{Kept}
use Rattle.guest_bus.specs.Lacking.{lacks_in}
use Rattle.guest.specs.Guests.{GuestIs, guest_of, view_of, Intact}
use Rattle.guest.specs.Views.{pages_seen, Shows}
use Rattle.guest.proofs.Logging.{run_more, accepted_more, view_zeros}
use Rattle.guest.proofs.Stepping.{need_alike}
use Rattle.guest.proofs.guest.Guest.step.Goals as goal

pub returns-in-Done-clause-need : goal.returns-in-Done-clause-need
returns-in-Done-clause-need c =
    let g = c.self.inside in
    let told = c.in-Done.ensures in
    let now = guest_of g.cpu g.bus (boot_machine g.profile g.image.value g.pages) g.owned_log in
    subst (λ (g : GuestIs). Intact g → None ≡ first_lack (lacks_in g.bus.pages) (accesses (view_of g))) c.self.view_is
    (λ (intact : Intact now). told.need ∙ sym (need_alike (view_of now) g.cpu g.bus told.whole c.self.invariant intact.shows))

pub returns-in-Need-clause-need : goal.returns-in-Need-clause-need
returns-in-Need-clause-need c =
    let g = c.self.inside in
    let told = c.in-Need.ensures in
    let now = guest_of g.cpu g.bus (boot_machine g.profile g.image.value g.pages) g.owned_log in
    subst (λ (g : GuestIs). Intact g → Some (c.in-Need.page, c.in-Need.why) ≡ first_lack (lacks_in g.bus.pages) (accesses (view_of g))) c.self.view_is
    (λ (intact : Intact now). told.need ∙ sym (need_alike (view_of now) g.cpu g.bus told.whole c.self.invariant intact.shows))

pub returns-in-Done-clause-moves : goal.returns-in-Done-clause-moves
returns-in-Done-clause-moves c = λ made.
    let g = c.self.inside in
    let after = guest_of c.step_pages.new.cpu c.step_pages.new.bus (boot_machine g.profile g.image.value g.pages) c.step.new.self in
    subst (λ (g : GuestIs). view_of after ≡ step (view_of g)) c.self.view_is
    (run_more g.owned_log.log.items c.step.new.self.log.items (step_by c.args.seat.now.number) (boot_machine g.profile g.image.value g.pages) c.step.ensures.adds.items)

pub returns-in-Done-clause-intact : goal.returns-in-Done-clause-intact
returns-in-Done-clause-intact c =
    let g = c.self.inside in
    let boot = boot_machine g.profile g.image.value g.pages in
    let now = guest_of g.cpu g.bus boot g.owned_log in
    let after = guest_of c.step_pages.new.cpu c.step_pages.new.bus boot c.step.new.self in
    let i = step_by c.args.seat.now.number in
    let items = c.step.new.self.log.items in
    let moves = run_more g.owned_log.log.items items i boot c.step.ensures.adds.items in
    subst (λ (g : GuestIs). Intact g → Intact after) c.self.view_is
    (λ (intact : Intact now). record {
      shows = subst (λ (m : Machine). Shows m c.step_pages.new.cpu c.step_pages.new.bus) (sym moves)
          (c.in-Done.ensures.shows refl (view_of now) (view_zeros g.owned_log.log.items g.profile g.image.value g.pages) intact.shows);
      accepted = accepted_more g.owned_log.log.items items i boot c.step.ensures.adds.items refl intact.accepted;
    })

pub returns-in-Done-clause-kept : goal.returns-in-Done-clause-kept
returns-in-Done-clause-kept c =
    let g = c.self.inside in
    let boot = boot_machine g.profile g.image.value g.pages in
    let now = guest_of g.cpu g.bus boot g.owned_log in
    let after = guest_of c.step_pages.new.cpu c.step_pages.new.bus boot c.step.new.self in
    let moves = run_more g.owned_log.log.items c.step.new.self.log.items (step_by c.args.seat.now.number) boot c.step.ensures.adds.items in
    subst (λ (g : GuestIs). Intact g → (held : ℕ → Option (List ℕ)) → Kept held (pages_seen (view_of g)) g.bus.pages → Kept held (pages_seen (view_of after)) after.bus.pages) c.self.view_is
    (λ (intact : Intact now) held k.
    subst (λ (m : Machine). Kept held (pages_seen m) c.step_pages.new.bus.pages) (sym moves)
    (c.in-Done.ensures.kept refl (view_of now) (view_zeros g.owned_log.log.items g.profile g.image.value g.pages) intact.shows held k))
