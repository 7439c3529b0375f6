-- A guest whose pages have moved, and one that was stepped.
use Rattle.std.proofs.Common.{ℕ, ◌≡◌, ◌<◌, List, length, sym, ap, subst, ◌∙◌, arith, Option}
use Rattle.std.proofs.lemmas.List.Sums.{get_or-le-sum_by}
use Rattle.frames.specs.Counts.{count_of}
use Rattle.frames.specs.FreeList.{FreeList}
use Rattle.frames.proofs.Counting.{one_same}
use Rattle.items.specs.declared.item.Item.{Item}
use Rattle.machine.specs.Processor.{Processor}
use Rattle.machine.specs.Step.{Machine}
use Rattle.guest_pages.specs.declared.page.Page.{Page}
use Rattle.guest_pages.specs.declared.page.Page.TheVariants as page
use Rattle.guest_pages.specs.Pages.{page_at}
use Rattle.guest_pages.specs.Holdings.{slot_in, slots_held}
use Rattle.page_moves.specs.Faith.{IsHeld, Kept}
use Rattle.guest_bus.specs.Buses.{GuestBusIs}
use Rattle.guest.specs.Guests.{GuestIs, view_of, without_pages, LogsOnly}
use Rattle.guest.specs.Views.{pages_seen}
use Rattle.guest.proofs.Keeping.{same_view, still_intact, was_so, roomy_intact, roomy_kept}
use Rattle.tenant.specs.Lent.{UsedStay}
use Rattle.tenant.specs.Tenants.{TenantIs, pages_in, beside_pages, IsKept}

-- the pages of a guest are kept as before after they have moved
pub moved_kept : (held held' : ℕ → Option (List ℕ)) (t t' : TenantIs) → beside_pages t' ≡ beside_pages t → length (pages_in t') ≡ length (pages_in t)
    → ((view : ℕ → List ℕ) → Kept held view (pages_in t) → Kept held' view (pages_in t')) → IsKept held t → IsKept held' t'
moved_kept held held' t t' beside count moves k =
    let rest : without_pages t'.guest ≡ without_pages t.guest = ap (λ (u : TenantIs). u.guest) beside in
    let view : view_of t'.guest ≡ view_of t.guest = same_view t.guest t'.guest rest in
    let now = moves (pages_seen (view_of t.guest)) k.pages in
    record {
      intact = still_intact t.guest t'.guest rest count k.intact now.faithful;
      pages = subst (λ (m : Machine). Kept held' (pages_seen m) (pages_in t')) (sym view) now;
    }

-- a guest of which only the room in its log has changed
pub still_kept : (held : ℕ → Option (List ℕ)) (t t' : TenantIs) → LogsOnly t.guest t'.guest → t'.guest.log.items ≡ t.guest.log.items → IsKept held t → IsKept held t'
still_kept held t t' only items k = record {
  intact = roomy_intact t.guest t'.guest only items k.intact;
  pages = roomy_kept t.guest t'.guest only items held k.pages;
}

-- what is so of such a guest and of its seat 0 was so before
pub seat_was_so : (So : ℕ → Processor → GuestBusIs → Machine → List Item → Type 0) (g g' : GuestIs) (seat : ℕ) → LogsOnly g g' → g'.log.items ≡ g.log.items → seat ≡ 0
    → So seat g'.cpu g'.bus g'.boot g'.log.items → So 0 g.cpu g.bus g.boot g.log.items
seat_was_so So g g' seat only items first so =
    was_so g g' only items (So 0) (subst (λ (n : ℕ). So n g'.cpu g'.bus g'.boot g'.log.items) first so)

-- what was last written to each slot that isn't free stays, so what was to those of a guest does
pub used_held : (book : FreeList) (held held' : ℕ → Option (List ℕ)) (b : List ℕ) (q : Page) → UsedStay book held held' → ((slot : ℕ) → 0 < slot_in slot q → count_of slot book.free ≡ 0)
    → IsHeld held b q → IsHeld held' b q
used_held book held held' b page.Zero used apart lies = tt
used_held book held held' b page.Given used apart lies = tt
used_held book held held' b (page.Private frame) used apart lies = tt
used_held book held held' b (page.Shared share ticket) used apart lies = tt
used_held book held held' b (page.Swapped slot digest) used apart lies = λ last is. lies last (sym (used slot (apart slot (omega (arith, one_same slot)))) ∙ is)

pub used_kept : (book : FreeList) (held held' : ℕ → Option (List ℕ)) (t : TenantIs) → UsedStay book held held'
    → ((slot : ℕ) → 0 < slots_held slot (pages_in t) → count_of slot book.free ≡ 0) → IsKept held t → IsKept held' t
used_kept book held held' t used apart k = record {
  intact = k.intact;
  pages = record {
    faithful = k.pages.faithful;
    lies = λ p there. used_held book held held' (pages_seen (view_of t.guest) p) (page_at (pages_in t) p) used
        (λ slot some. apart slot (omega (arith, some, get_or-le-sum_by (slot_in slot) (pages_in t) p page.Zero there))) (k.pages.lies p there);
  };
}
