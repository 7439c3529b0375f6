use Rattle.std.proofs.Common.{◌≡◌, Err, ap, subst}
use Rattle.guest_pages.specs.declared.page.PageKind.TheVariants as kind
use Rattle.guest_pages.specs.Pages.{kind_at}
use Rattle.guest.specs.Guests.{GuestIs}
use Rattle.cell.proofs.Supplied.{away_is_there}
use Rattle.cell.proofs.reading.read_in.Goals as goal

pub supply_in-requires-clause-there : goal.supply_in-requires-clause-there
supply_in-requires-clause-there g c =
    away_is_there c.loop-supplied.locked.guest.value.bus.pages c.in-Some.page
    (subst (λ (h : GuestIs). kind_at h.bus.pages c.in-Some.page ≡ kind.Swapped) c.deref-in-loop-supplied.ensures (c.in-Err.ensures.away c.in-Some.page (ap Err c.in-Some.ensures.some)))
