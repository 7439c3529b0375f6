-- Whether a page that came is the one of the guest's run.
use Rattle.std.specs.Prelude.{ℕ, Bool, true, false, ◌||◌, nat_eq}
use lib.Pointwise.{pointwise}
use Rattle.guest_pages.specs.declared.page.PageKind.{PageKind}
use Rattle.guest_pages.specs.declared.page.PageKind.TheVariants.{Zero, Given, Private, Shared, Swapped}
use Rattle.guest_pages.specs.Pages.{kind_at, page_at, shown}
use Rattle.guest.specs.Guests.{GuestIs, view_of}
use Rattle.guest.specs.Views.{pages_seen}

-- a page of this kind is in a slot
abbrev pub is_away : PageKind → Bool
is_away Zero = false
is_away Given = false
is_away Private = false
is_away Shared = false
is_away Swapped = true

-- a page of the guest is in its slot still, or shows the bytes that the guest's run has there
abbrev pub comes_right : GuestIs → ℕ → Bool
comes_right g page = is_away (kind_at g.bus.pages page) || pointwise nat_eq (shown (page_at g.bus.pages page)) (pages_seen (view_of g) page)
