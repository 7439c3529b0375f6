use Rattle.std.proofs.Common.{◌≡◌, sym, subst, ◌∙◌}
use Rattle.machine.specs.Accesses.{accesses, first_lack}
use Rattle.machine.specs.Boot.{boot_machine}
use Rattle.guest_bus.specs.Lacking.{lacks_in}
use Rattle.guest.specs.Guests.{GuestIs, guest_of, view_of, Intact}
use Rattle.guest.proofs.Stepping.{need_alike}
use Rattle.guest.proofs.guest.Guest.need.Goals as goal

pub returns-clause-need : goal.returns-clause-need
returns-clause-need c =
    let g = c.self.inside in
    let now = guest_of g.cpu g.bus (boot_machine g.profile g.image.value g.pages) g.owned_log in
    subst (λ (g : GuestIs). Intact g → c.need_pages.result ≡ first_lack (lacks_in g.bus.pages) (accesses (view_of g))) c.self.view_is
    (λ (intact : Intact now). c.need_pages.ensures.need ∙ sym (need_alike (view_of now) g.cpu g.bus c.need_pages.ensures.whole c.self.invariant intact.shows))
