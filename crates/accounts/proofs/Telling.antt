-- What exact books say of a guest, with what lies under other locks.
use Rattle.std.proofs.Common.{◌≡◌, ℕ, ◌<◌, List, [], ◌∷◌, ◌++◌, length, refl, ap, ◌∙◌, subst, arith, inl, inr, length-append}
use Rattle.std.proofs.lemmas.Bool.{cases_lt}
use Rattle.std.specs.List.{flat_map}
use Rattle.frames.specs.Counts.{count_of}
use Rattle.frames.specs.FreeList.{FreeList}
use Rattle.sharetab.specs.Entries.{EntriesAre, count_at}
use Rattle.guest_pages.specs.declared.page.Page.{Page}
use Rattle.guest_pages.specs.declared.page.Page.TheVariants as page
use Rattle.guest_pages.specs.declared.page.PageKind.TheVariants.{Shared, Swapped}
use Rattle.guest_pages.specs.declared.page.Returned.TheVariants as returned
use Rattle.guest_pages.specs.Outline.{outline}
use Rattle.guest_pages.specs.Pages.{page_at, kind_of, kind_at, ticket_of, slot_of, handed_back}
use Rattle.guest_pages.specs.Holdings.{slots_held}
use Rattle.page_moves.specs.Moves.{Reads, Covered, OwnOnce}
use Rattle.page_moves.proofs.Booking.{covered, own_once, reads_each, swapped_out, slot_inside, slot_apart, free_slot_inside}
use Rattle.page_moves.proofs.Exchanging.{ticket_held}
use Rattle.ledger.specs.Shares.{LedgerId, ShareIs, AreOf}
use Rattle.accounts.specs.declared.account.Account.{Account}
use Rattle.accounts.specs.declared.account.Account.TheVariants.{Table, Slots}
use Rattle.accounts.specs.declared.account.Extent.{Extent}
use Rattle.accounts.specs.Exact.{guest_in, frame_in, free_list, Exact}
use Rattle.accounts.specs.OwnerShares.{share_of, on_its_way, guest_account, guest_share, ExactWith}
use Rattle.accounts.proofs.OnItsWay.{way_frames, way_slots, way_tickets, at_longer, past_is_zero, reads_shorter}
use Rattle.accounts.proofs.Outlines.{of_account}
use Rattle.accounts.proofs.Becoming.{first_is, exact_table, exact_slots, exact_both}

-- ---- of a guest in exact books

module _ (k : Extent) (ps : List Page) (ns : List ℕ) (es : EntriesAre) (pool book : FreeList) (b : ExactWith k ps ns es pool book) where
  pub with_covered : Covered es ps
  with_covered n = omega (arith, way_tickets ps ns n, covered k.frames k.slots ((ps ++ on_its_way ns) ∷ b.0) es pool book 0 b.1 (omega arith) n)

  pub with_own_once : OwnOnce es ps
  with_own_once n = omega (arith, way_frames ps ns n, own_once k.frames k.slots ((ps ++ on_its_way ns) ∷ b.0) es pool book 0 b.1 (omega arith) n)

  pub with_reads : Reads es ps
  with_reads = reads_shorter es ps (on_its_way ns) (reads_each k.frames k.slots ((ps ++ on_its_way ns) ∷ b.0) es pool book 0 b.1 (omega arith))

  swapped_there : (p : ℕ) → kind_at ps p ≡ Swapped → p < length ps
  swapped_there p is =
      elim (cases_lt p (length ps)) [
        | inl inside ↦ inside
        | inr past ↦ let e = ap kind_of (past_is_zero ps p past) in absurd (cc)
      ]

  there_longer : (p : ℕ) → p < length ps → p < length (ps ++ on_its_way ns)
  there_longer p inside = omega (arith, inside, length-append ps (on_its_way ns))

  kind_longer : (p : ℕ) → p < length ps → kind_at ps p ≡ Swapped → kind_at (ps ++ on_its_way ns) p ≡ Swapped
  kind_longer p inside is = ap kind_of (at_longer ps (on_its_way ns) p inside) ∙ is

  pub with_used : (p : ℕ) → kind_at ps p ≡ Swapped → 0 < book.out
  with_used p is =
      let inside = swapped_there p is in
      swapped_out k.frames k.slots ((ps ++ on_its_way ns) ∷ b.0) es pool book 0 p b.1 (omega arith) (there_longer p inside) (kind_longer p inside is)

  pub with_inside : (p : ℕ) → kind_at ps p ≡ Swapped → slot_of (page_at ps p) < k.slots
  with_inside p is =
      let inside = swapped_there p is in
      subst (λ (q : Page). slot_of q < k.slots) (at_longer ps (on_its_way ns) p inside)
      (slot_inside k.frames k.slots ((ps ++ on_its_way ns) ∷ b.0) es pool book 0 p b.1 (omega arith) (there_longer p inside) (kind_longer p inside is))

  pub with_apart : (slot : ℕ) → 0 < count_of slot book.free → slots_held slot ps ≡ 0
  with_apart slot free = omega (arith, way_slots ps ns slot, slot_apart k.frames k.slots ((ps ++ on_its_way ns) ∷ b.0) es pool book 0 slot b.1 (omega arith) free)

-- ---- what a page hands back

ticket_page : (q : Page) (t : ℕ) → handed_back q ≡ returned.Ticket t → (kind_of q ≡ Shared) × (ticket_of q ≡ t)
ticket_page page.Zero t e = absurd (cc)
ticket_page page.Given t e = absurd (cc)
ticket_page (page.Private frame) t e = absurd (cc)
ticket_page (page.Shared share ticket) t e = (refl, cc)
ticket_page (page.Swapped slot digest) t e = absurd (cc)

pub ticket_out : (es : EntriesAre) (ps : List Page) → Covered es ps → (p t : ℕ) → handed_back (page_at ps p) ≡ returned.Ticket t → 0 < count_at es t
ticket_out es ps covers p t e =
    let is = ticket_page (page_at ps p) t e in
    subst (λ (n : ℕ). 0 < count_at es n) is.1 (omega (arith, ticket_held ps p is.0, covers (ticket_of (page_at ps p))))

pub slot_kind : (q : Page) (s : ℕ) → handed_back q ≡ returned.Slot s → kind_of q ≡ Swapped
slot_kind page.Zero s e = absurd (cc)
slot_kind page.Given s e = absurd (cc)
slot_kind (page.Private frame) s e = absurd (cc)
slot_kind (page.Shared share ticket) s e = absurd (cc)
slot_kind (page.Swapped slot digest) s e = refl

-- ---- a guest's share

pub guest_tells : (k : Extent) (l : LedgerId) (g : ShareIs Account) (ps : List Page) (ns : List ℕ) → g ≡ guest_share l ps ns → AreOf (Exact k) g.parts
    → (es : EntriesAre) × (pool : FreeList) × (book : FreeList) × ExactWith k ps ns es pool book
guest_tells k l g ps ns is h =
    let e : Exact k (guest_account ps ns ∷ h.0) = subst (λ (v : ShareIs Account). Exact k (v.parts ++ h.0)) is h.1 in
    (e.entries, free_list (flat_map frame_in h.0) e.out, e.book, (flat_map guest_in h.0, of_account ps ns k.frames k.slots (flat_map guest_in h.0) e.entries (free_list (flat_map frame_in h.0) e.out) e.book e.exact))

pub table_tells : (k : Extent) (l : LedgerId) (g t : ShareIs Account) (es : EntriesAre) (parts : List Account) → t ≡ share_of l (Table es) → parts ≡ t.parts ++ g.parts → AreOf (Exact k) parts
    → (ps : List Page) (ns : List ℕ) → g ≡ guest_share l ps ns → (pool : FreeList) × (book : FreeList) × ExactWith k ps ns es pool book
table_tells k l g t es parts ts from h ps ns is =
    let eq : parts ≡ Table es ∷ guest_account ps ns ∷ [] = from ∙ ap (λ (v : ShareIs Account). v.parts ++ g.parts) ts ∙ ap (λ (v : ShareIs Account). Table es ∷ v.parts) is in
    let e : Exact k (Table es ∷ guest_account ps ns ∷ h.0) = subst (λ (x : List Account). Exact k (x ++ h.0)) eq h.1 in (
      free_list (flat_map frame_in h.0) e.out,
      e.book,
      (
        flat_map guest_in h.0,
        of_account ps ns k.frames k.slots (flat_map guest_in h.0) es (free_list (flat_map frame_in h.0) e.out) e.book (exact_table k (outline ps ++ on_its_way ns) es h.0 e),
      ),
    )

pub slots_tells : (k : Extent) (l : LedgerId) (g s : ShareIs Account) (book : FreeList) (parts : List Account) → s ≡ share_of l (Slots book) → parts ≡ s.parts ++ g.parts → AreOf (Exact k) parts
    → (ps : List Page) (ns : List ℕ) → g ≡ guest_share l ps ns → (es : EntriesAre) × (pool : FreeList) × ExactWith k ps ns es pool book
slots_tells k l g s book parts ss from h ps ns is =
    let eq : parts ≡ Slots book ∷ guest_account ps ns ∷ [] = from ∙ ap (λ (v : ShareIs Account). v.parts ++ g.parts) ss ∙ ap (λ (v : ShareIs Account). Slots book ∷ v.parts) is in
    let e : Exact k (Slots book ∷ guest_account ps ns ∷ h.0) = subst (λ (x : List Account). Exact k (x ++ h.0)) eq h.1 in (
      e.entries,
      free_list (flat_map frame_in h.0) e.out,
      (
        flat_map guest_in h.0,
        of_account ps ns k.frames k.slots (flat_map guest_in h.0) e.entries (free_list (flat_map frame_in h.0) e.out) book (exact_slots k (outline ps ++ on_its_way ns) book h.0 e),
      ),
    )

pub both_tells : (k : Extent) (l : LedgerId) (g t s : ShareIs Account) (es : EntriesAre) (book : FreeList) (parts : List Account) → t ≡ share_of l (Table es) → s ≡ share_of l (Slots book)
    → parts ≡ s.parts ++ (t.parts ++ g.parts) → AreOf (Exact k) parts
    → (ps : List Page) (ns : List ℕ) → g ≡ guest_share l ps ns → (pool : FreeList) × ExactWith k ps ns es pool book
both_tells k l g t s es book parts ts ss from h ps ns is =
    let eq : parts ≡ Slots book ∷ Table es ∷ guest_account ps ns ∷ [] =
    from ∙ ap (λ (v : ShareIs Account). v.parts ++ (t.parts ++ g.parts)) ss ∙ ap (λ (v : ShareIs Account). Slots book ∷ (v.parts ++ g.parts)) ts
    ∙ ap (λ (v : ShareIs Account). Slots book ∷ Table es ∷ v.parts) is in
    let e : Exact k (Slots book ∷ Table es ∷ guest_account ps ns ∷ h.0) = subst (λ (x : List Account). Exact k (x ++ h.0)) eq h.1 in (
      free_list (flat_map frame_in h.0) e.out,
      (
        flat_map guest_in h.0,
        of_account ps ns k.frames k.slots (flat_map guest_in h.0) es (free_list (flat_map frame_in h.0) e.out) book (exact_both k (outline ps ++ on_its_way ns) es book h.0 e),
      ),
    )

-- a slot that is free is one of the store, whatever else is there
pub slots_inside : (k : Extent) (l : LedgerId) (s : ShareIs Account) (book : FreeList) (more parts : List Account) → s ≡ share_of l (Slots book) → parts ≡ s.parts ++ more → AreOf (Exact k) parts
    → (slot : ℕ) → 0 < count_of slot book.free → slot < k.slots
slots_inside k l s book more parts ss from h slot free =
    let eq : parts ≡ Slots book ∷ more = from ∙ ap (λ (v : ShareIs Account). v.parts ++ more) ss in
    let e : Exact k (Slots book ∷ (more ++ h.0)) = subst (λ (x : List Account). Exact k (x ++ h.0)) eq h.1 in
    free_slot_inside k.frames k.slots (flat_map guest_in (more ++ h.0)) e.entries (free_list (flat_map frame_in (more ++ h.0)) e.out) e.book slot e.exact
    (subst (λ (b : FreeList). 0 < count_of slot b.free) (first_is book e.book _ e.one_book) free)
