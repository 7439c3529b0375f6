-- A page that was never touched goes to a slot.
use Rattle.std.proofs.Common.{ℕ, ◌≡◌, ◌<◌, inl, List, [], ◌∷◌, length, set, refl, arith}
use Rattle.frames.specs.FreeList.{FreeList}
use Rattle.frames.proofs.Counting.{count_one}
use Rattle.sharetab.specs.Entries.{EntriesAre}
use Rattle.guest_pages.specs.declared.page.Page.{Page}
use Rattle.guest_pages.specs.declared.page.Page.TheVariants as page
use Rattle.guest_pages.specs.declared.page.PageKind.TheVariants.{Zero}
use Rattle.guest_pages.specs.Pages.{page_at, kind_at}
use Rattle.page_moves.specs.Moves.{MovesFrames, MovesSlots, MovesTickets, Reads}
use Rattle.page_moves.proofs.Exchanging.{holds_nothing, frames_by_page, slots_by_page, tickets_by_page, same_bytes, reads_stay}

pub put_frames : (ps ps' : List Page) (pool : FreeList) (es : EntriesAre) (p slot : ℕ) (digest : List ℕ) → p < length ps → kind_at ps p ≡ Zero
    → ps' ≡ set ps p (page.Swapped slot digest) → MovesFrames ps pool es ps' pool es []
put_frames ps ps' pool es p slot digest there kind is =
    let h = holds_nothing (page_at ps p) (inl kind) in
    frames_by_page ps pool es ps' pool es [] p (page.Swapped slot digest) there is (λ k. omega (arith, h.frame k)) (omega (arith, h.private))

pub put_slots : (ps ps' : List Page) (book : FreeList) (p slot : ℕ) (digest : List ℕ) → p < length ps → kind_at ps p ≡ Zero
    → ps' ≡ set ps p (page.Swapped slot digest) → MovesSlots ps book ps' book (slot ∷ [])
put_slots ps ps' book p slot digest there kind is =
    let h = holds_nothing (page_at ps p) (inl kind) in
    slots_by_page ps book ps' book (slot ∷ []) p (page.Swapped slot digest) there is (λ k. omega (arith, h.slot k, count_one k slot)) (omega (arith, h.swapped))

pub put_tickets : (ps ps' : List Page) (es : EntriesAre) (p slot : ℕ) (digest : List ℕ) → p < length ps → kind_at ps p ≡ Zero
    → ps' ≡ set ps p (page.Swapped slot digest) → MovesTickets ps es ps' es
put_tickets ps ps' es p slot digest there kind is =
    let h = holds_nothing (page_at ps p) (inl kind) in
    tickets_by_page ps es ps' es p (page.Swapped slot digest) there is (λ k. omega (arith, h.ticket k)) (same_bytes es) refl

pub put_reads : (ps ps' : List Page) (es : EntriesAre) (p slot : ℕ) (digest : List ℕ) → p < length ps
    → ps' ≡ set ps p (page.Swapped slot digest) → Reads es ps → Reads es ps'
put_reads ps ps' es p slot digest there is reads = reads_stay es ps ps' p (page.Swapped slot digest) there is (λ e. absurd (cc)) reads
