use Rattle.std.proofs.Common.{ℕ, ◌≡◌, subst, sym}
use Rattle.guest_pages.specs.Holdings.{tickets_held}
use Rattle.guest.specs.Guests.{GuestIs}
use Rattle.guest.proofs.tests.swapped.Goals as goal

pub leave-requires-clause-tickets : goal.leave-requires-clause-tickets
leave-requires-clause-tickets g c =
    subst (λ (h : GuestIs). (k : ℕ) → tickets_held k h.bus.pages ≡ 0) (sym c.seat-seat.ensures.guest) c.booted-guest.ensures.tickets
