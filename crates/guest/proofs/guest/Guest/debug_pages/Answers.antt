use Rattle.std.proofs.Common.{ℕ, ◌≡◌, ◌↔◌, ◌⊎◌, IfSome, subst}
use Rattle.machine.specs.Replies.{SomePlaceIn}
use Rattle.guest.specs.Guests.{GuestIs, standing}
use Rattle.guest.proofs.guest.Guest.debug_pages.Goals as goal

pub returns-clause-reached : goal.returns-clause-reached
returns-clause-reached c =
    subst (λ (g : GuestIs). IfSome c.pages_reached.result (λ pages. (page : ℕ) → SomePlaceIn (standing g) c.args.address c.args.count page ↔ ((page ≡ pages.0) ⊎ (page ≡ pages.1))))
    c.self.view_is c.pages_reached.ensures.reached
