-- What the outline of pages tells: where each page is and what it holds, but for the bytes of its own frame.
use Rattle.std.proofs.Common.{ℕ, ◌≡◌, List, [], ◌∷◌, set, length, refl, ap, ◌∙◌, arith}
use Rattle.std.specs.List.{sum_by}
use Rattle.std.proofs.lemmas.List.{length-map}
use Rattle.std.proofs.lemmas.List.Sums.{sum_by-cons}
use Rattle.std.proofs.Math.Seq.{map-set_same}
use Rattle.std.proofs.Math.ListN.{get_or-map as get_or-map_default}
use Rattle.guest_pages.specs.declared.page.Page.{Page}
use Rattle.guest_pages.specs.declared.page.Page.TheVariants.{Zero, Given, Private, Shared, Swapped}
use Rattle.guest_pages.specs.Pages.{page_at, kind_of, kinds_of, kind_at, ticket_of, slot_of, digest_of}
use Rattle.guest_pages.specs.Holdings.{frame_in, ticket_in, slot_in, frames_held, tickets_held, slots_held, one_private, one_shared, one_swapped, private_pages, shared_pages, swapped_pages}
use Rattle.guest_pages.specs.Outline.{outlined, outline}

pub outline_at : (pages : List Page) (p : ℕ) → page_at (outline pages) p ≡ outlined (page_at pages p)
outline_at pages p = get_or-map_default outlined pages p Zero

pub outline_length : (pages : List Page) → length (outline pages) ≡ length pages
outline_length pages = length-map pages outlined

pub outline_same : (pages : List Page) (p : ℕ) (page : Page) → outlined page ≡ outlined (page_at pages p) → outline (set pages p page) ≡ outline pages
outline_same pages p page same = map-set_same outlined pages p page Zero same

-- ---- one page

pub kind_outlined : (page : Page) → kind_of (outlined page) ≡ kind_of page
kind_outlined Zero = refl
kind_outlined Given = refl
kind_outlined (Private frame) = refl
kind_outlined (Shared share ticket) = refl
kind_outlined (Swapped slot digest) = refl

ticket_outlined : (page : Page) → ticket_of (outlined page) ≡ ticket_of page
ticket_outlined Zero = refl
ticket_outlined Given = refl
ticket_outlined (Private frame) = refl
ticket_outlined (Shared share ticket) = refl
ticket_outlined (Swapped slot digest) = refl

slot_outlined : (page : Page) → slot_of (outlined page) ≡ slot_of page
slot_outlined Zero = refl
slot_outlined Given = refl
slot_outlined (Private frame) = refl
slot_outlined (Shared share ticket) = refl
slot_outlined (Swapped slot digest) = refl

digest_outlined : (page : Page) → digest_of (outlined page) ≡ digest_of page
digest_outlined Zero = refl
digest_outlined Given = refl
digest_outlined (Private frame) = refl
digest_outlined (Shared share ticket) = refl
digest_outlined (Swapped slot digest) = refl

-- ---- the page of a number

pub outline_kind : (pages : List Page) (p : ℕ) → kind_at (outline pages) p ≡ kind_at pages p
outline_kind pages p = ap kind_of (outline_at pages p) ∙ kind_outlined (page_at pages p)

pub outline_ticket : (pages : List Page) (p : ℕ) → ticket_of (page_at (outline pages) p) ≡ ticket_of (page_at pages p)
outline_ticket pages p = ap ticket_of (outline_at pages p) ∙ ticket_outlined (page_at pages p)

pub outline_slot : (pages : List Page) (p : ℕ) → slot_of (page_at (outline pages) p) ≡ slot_of (page_at pages p)
outline_slot pages p = ap slot_of (outline_at pages p) ∙ slot_outlined (page_at pages p)

pub outline_digest : (pages : List Page) (p : ℕ) → digest_of (page_at (outline pages) p) ≡ digest_of (page_at pages p)
outline_digest pages p = ap digest_of (outline_at pages p) ∙ digest_outlined (page_at pages p)

pub outline_kinds : (pages : List Page) → kinds_of (outline pages) ≡ kinds_of pages
outline_kinds [] = refl
outline_kinds (page ∷ pages) =
    ap (λ kind. kind ∷ kinds_of (outline pages)) (kind_outlined page) ∙ ap (λ kinds. kind_of page ∷ kinds) (outline_kinds pages)

-- ---- sums over all pages

sum_outlined : (f : Page → ℕ) → ((page : Page) → f (outlined page) ≡ f page) → (pages : List Page) → sum_by f (outline pages) ≡ sum_by f pages
sum_outlined f same [] = refl
sum_outlined f same (page ∷ pages) =
    omega (arith, same page, sum_outlined f same pages, sum_by-cons f (outlined page) (outline pages), sum_by-cons f page pages)

frame_outlined : (k : ℕ) (page : Page) → frame_in k (outlined page) ≡ frame_in k page
frame_outlined k Zero = refl
frame_outlined k Given = refl
frame_outlined k (Private frame) = refl
frame_outlined k (Shared share ticket) = refl
frame_outlined k (Swapped slot digest) = refl

ticket_in_outlined : (k : ℕ) (page : Page) → ticket_in k (outlined page) ≡ ticket_in k page
ticket_in_outlined k Zero = refl
ticket_in_outlined k Given = refl
ticket_in_outlined k (Private frame) = refl
ticket_in_outlined k (Shared share ticket) = refl
ticket_in_outlined k (Swapped slot digest) = refl

slot_in_outlined : (k : ℕ) (page : Page) → slot_in k (outlined page) ≡ slot_in k page
slot_in_outlined k Zero = refl
slot_in_outlined k Given = refl
slot_in_outlined k (Private frame) = refl
slot_in_outlined k (Shared share ticket) = refl
slot_in_outlined k (Swapped slot digest) = refl

private_outlined : (page : Page) → one_private (outlined page) ≡ one_private page
private_outlined Zero = refl
private_outlined Given = refl
private_outlined (Private frame) = refl
private_outlined (Shared share ticket) = refl
private_outlined (Swapped slot digest) = refl

shared_outlined : (page : Page) → one_shared (outlined page) ≡ one_shared page
shared_outlined Zero = refl
shared_outlined Given = refl
shared_outlined (Private frame) = refl
shared_outlined (Shared share ticket) = refl
shared_outlined (Swapped slot digest) = refl

swapped_outlined : (page : Page) → one_swapped (outlined page) ≡ one_swapped page
swapped_outlined Zero = refl
swapped_outlined Given = refl
swapped_outlined (Private frame) = refl
swapped_outlined (Shared share ticket) = refl
swapped_outlined (Swapped slot digest) = refl

pub outline_frames : (k : ℕ) (pages : List Page) → frames_held k (outline pages) ≡ frames_held k pages
outline_frames k pages = sum_outlined (frame_in k) (frame_outlined k) pages

pub outline_tickets : (k : ℕ) (pages : List Page) → tickets_held k (outline pages) ≡ tickets_held k pages
outline_tickets k pages = sum_outlined (ticket_in k) (ticket_in_outlined k) pages

pub outline_slots : (k : ℕ) (pages : List Page) → slots_held k (outline pages) ≡ slots_held k pages
outline_slots k pages = sum_outlined (slot_in k) (slot_in_outlined k) pages

pub outline_private : (pages : List Page) → private_pages (outline pages) ≡ private_pages pages
outline_private pages = sum_outlined one_private private_outlined pages

pub outline_shared : (pages : List Page) → shared_pages (outline pages) ≡ shared_pages pages
outline_shared pages = sum_outlined one_shared shared_outlined pages

pub outline_swapped : (pages : List Page) → swapped_pages (outline pages) ≡ swapped_pages pages
outline_swapped pages = sum_outlined one_swapped swapped_outlined pages
