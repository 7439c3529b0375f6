-- What pages hold, one page after another.
use Rattle.std.proofs.Common.{ℕ, ◌≡◌, ◌+◌, ◌<◌, ◌≤◌, List, [], ◌∷◌, length, get_or, set, replicate, ap, arith, length-set}
use Rattle.std.proofs.lemmas.List.Sums.{sum_by-cons, sum_by-set, get_or-le-sum_by}
use Rattle.std.proofs.lemmas.List.Folds.{sum_by-replicate}
use Rattle.guest_pages.specs.declared.page.Page.{Page}
use Rattle.guest_pages.specs.declared.page.Page.TheVariants.{Zero, Given, Private, Shared, Swapped}
use Rattle.guest_pages.specs.Pages.{page_at}
use Rattle.guest_pages.specs.Holdings.{frame_in, ticket_in, slot_in, frames_held, tickets_held, slots_held, one_private, one_shared, one_swapped, private_pages, shared_pages, swapped_pages}

-- ---- one page is replaced

pub frames_set : (k : ℕ) (pages : List Page) (p : ℕ) (page : Page) → p < length pages → frames_held k (set pages p page) + frame_in k (page_at pages p) ≡ frames_held k pages + frame_in k page
frames_set k pages p page h = sum_by-set (frame_in k) pages p page Zero h

pub tickets_held_set : (k : ℕ) (pages : List Page) (p : ℕ) (page : Page) → p < length pages → tickets_held k (set pages p page) + ticket_in k (page_at pages p) ≡ tickets_held k pages + ticket_in k page
tickets_held_set k pages p page h = sum_by-set (ticket_in k) pages p page Zero h

pub slots_set : (k : ℕ) (pages : List Page) (p : ℕ) (page : Page) → p < length pages → slots_held k (set pages p page) + slot_in k (page_at pages p) ≡ slots_held k pages + slot_in k page
slots_set k pages p page h = sum_by-set (slot_in k) pages p page Zero h

pub private_set : (pages : List Page) (p : ℕ) (page : Page) → p < length pages → private_pages (set pages p page) + one_private (page_at pages p) ≡ private_pages pages + one_private page
private_set pages p page h = sum_by-set one_private pages p page Zero h

pub shared_set : (pages : List Page) (p : ℕ) (page : Page) → p < length pages → shared_pages (set pages p page) + one_shared (page_at pages p) ≡ shared_pages pages + one_shared page
shared_set pages p page h = sum_by-set one_shared pages p page Zero h

pub swapped_set : (pages : List Page) (p : ℕ) (page : Page) → p < length pages → swapped_pages (set pages p page) + one_swapped (page_at pages p) ≡ swapped_pages pages + one_swapped page
swapped_set pages p page h = sum_by-set one_swapped pages p page Zero h

-- ---- counts

-- a page is in one place
one_place : (page : Page) → one_private page + one_shared page + one_swapped page ≤ 1
one_place Zero = omega arith
one_place Given = omega arith
one_place (Private frame) = omega arith
one_place (Shared share ticket) = omega arith
one_place (Swapped slot digest) = omega arith

pub counts_fit : (pages : List Page) → private_pages pages + shared_pages pages + swapped_pages pages ≤ length pages
counts_fit [] = omega arith
counts_fit (page ∷ pages) =
    omega (arith, one_place page, counts_fit pages, sum_by-cons one_private page pages, sum_by-cons one_shared page pages, sum_by-cons one_swapped page pages)

-- a page that is there is counted
pub private_counted : (pages : List Page) (p : ℕ) → p < length pages → one_private (page_at pages p) ≤ private_pages pages
private_counted pages p h = get_or-le-sum_by one_private pages p Zero h

pub shared_counted : (pages : List Page) (p : ℕ) → p < length pages → one_shared (page_at pages p) ≤ shared_pages pages
shared_counted pages p h = get_or-le-sum_by one_shared pages p Zero h

pub swapped_counted : (pages : List Page) (p : ℕ) → p < length pages → one_swapped (page_at pages p) ≤ swapped_pages pages
swapped_counted pages p h = get_or-le-sum_by one_swapped pages p Zero h

-- the counts after a page is replaced are no more than the pages
pub counts_fit_set : (pages : List Page) (p : ℕ) (page : Page) → private_pages (set pages p page) + shared_pages (set pages p page) + swapped_pages (set pages p page) ≤ length pages
counts_fit_set pages p page = omega (arith, counts_fit (set pages p page), length-set pages p page)

-- ---- pages that were never touched

pub none_private : (n : ℕ) → private_pages (replicate n Zero) ≡ 0
none_private n = omega (arith, sum_by-replicate one_private n Zero)

pub none_shared : (n : ℕ) → shared_pages (replicate n Zero) ≡ 0
none_shared n = omega (arith, sum_by-replicate one_shared n Zero)

pub none_swapped : (n : ℕ) → swapped_pages (replicate n Zero) ≡ 0
none_swapped n = omega (arith, sum_by-replicate one_swapped n Zero)

-- ---- a page is replaced, and counted

-- without the old page, and with the new one, the count is still below the number of pages
pub private_fits : (pages : List Page) (p rest n : ℕ) (old page : Page) → old ≡ get_or pages p old → p < length pages → length pages < n → rest + one_private old ≡ private_pages pages → rest + one_private page < n
private_fits pages p rest n old page is h few left = omega (arith, sum_by-set one_private pages p page old h, ap one_private is, counts_fit_set pages p page)

pub shared_fits : (pages : List Page) (p rest n : ℕ) (old page : Page) → old ≡ get_or pages p old → p < length pages → length pages < n → rest + one_shared old ≡ shared_pages pages → rest + one_shared page < n
shared_fits pages p rest n old page is h few left = omega (arith, sum_by-set one_shared pages p page old h, ap one_shared is, counts_fit_set pages p page)

pub swapped_fits : (pages : List Page) (p rest n : ℕ) (old page : Page) → old ≡ get_or pages p old → p < length pages → length pages < n → rest + one_swapped old ≡ swapped_pages pages → rest + one_swapped page < n
swapped_fits pages p rest n old page is h few left = omega (arith, sum_by-set one_swapped pages p page old h, ap one_swapped is, counts_fit_set pages p page)
