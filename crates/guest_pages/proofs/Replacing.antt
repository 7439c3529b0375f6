-- A page is replaced by another one.
use Rattle.std.proofs.Common.{ℕ, zero, suc, ◌≡◌, ◌*◌, ◌<◌, ◌⊎◌, inl, inr, List, [], ◌∷◌, ◌++◌, arith, length, set, take, drop, replicate, refl, sym, ap, subst, ◌∙◌}
use Rattle.std.specs.List.{All}
use Rattle.std.proofs.lemmas.Bool.{cases_lt}
use Rattle.std.proofs.lemmas.List.{get_or_past, get_or-set_same, get_or-set_other, map-set}
use Rattle.std.proofs.Math.Seq.{drop-append_seam, take-append_seam}
use Rattle.std.proofs.lemmas.List.Elements.{All-set, All-replicate}
use Rattle.word32.specs.Words.{patched}
use Rattle.word32.specs.Zeros.{zeros}
use Rattle.guest_pages.specs.declared.page.Page.{Page}
use Rattle.guest_pages.specs.declared.page.Page.TheVariants.{Zero, Given, Private, Shared, Swapped}
use Rattle.guest_pages.specs.declared.page.PageKind.TheVariants as kind
use Rattle.guest_pages.specs.Pages.{page_at, kind_of, kinds_of, shown, memory_of, AreWhole, HasOwnTicket}
use Rattle.guest_pages.specs.Outline.{outlined, outline}
use Rattle.guest_pages.proofs.Bytes.{zeros_length}
use Rattle.guest_pages.proofs.Memory.{HasPageLength, before, after, length_before, length_of_page, around, around_new}
use Rattle.guest_pages.proofs.Parts.{patched_whole}

pub whole_set : (pages : List Page) (p : ℕ) (page : Page) → AreWhole pages → length (shown page) ≡ 4096 → AreWhole (set pages p page)
whole_set pages p page whole h = All-set HasPageLength pages p page h whole

pub tickets_set : (pages : List Page) (p : ℕ) (page : Page) → All HasOwnTicket pages → HasOwnTicket page → All HasOwnTicket (set pages p page)
tickets_set pages p page own h = All-set HasOwnTicket pages p page h own

-- past the end stands a page that was never touched, which has none
pub own_ticket : (pages : List Page) (p : ℕ) → All HasOwnTicket pages → HasOwnTicket (page_at pages p)
own_ticket pages p own = elim (cases_lt p (length pages)) [
  | inl h ↦ own p Zero h
  | inr h ↦ let past : page_at pages p ≡ Zero = get_or_past pages p Zero h in subst HasOwnTicket (sym past) tt
]

pub zero_pages_are_whole : (n : ℕ) → AreWhole (replicate n Zero)
zero_pages_are_whole n = All-replicate HasPageLength n Zero (zeros_length 4096)

pub zero_pages_have_no_ticket : (n : ℕ) → All HasOwnTicket (replicate n Zero)
zero_pages_have_no_ticket n = All-replicate HasOwnTicket n Zero tt

pub memory_same : (pages : List Page) (p : ℕ) (page : Page) → p < length pages → shown page ≡ shown (page_at pages p) → memory_of (set pages p page) ≡ memory_of pages
memory_same pages p page h same =
    around_new pages p page h ∙ ap (λ bytes. before pages p ++ (bytes ++ after pages p)) same ∙ sym (around pages p h)

pub memory_patched : (pages : List Page) (p : ℕ) (page : Page) → AreWhole pages → p < length pages → memory_of (set pages p page) ≡ patched (memory_of pages) (p * 4096) (shown page) 4096
memory_patched pages p page whole h =
    around_new pages p page h
    ∙ sym (patched_whole (before pages p) (shown (page_at pages p)) (after pages p) (shown page))
    ∙ ap (λ n. patched (before pages p ++ (shown (page_at pages p) ++ after pages p)) (length (before pages p)) (shown page) n) (length_of_page pages p whole h)
    ∙ ap (λ k. patched (before pages p ++ (shown (page_at pages p) ++ after pages p)) k (shown page) 4096) (length_before pages p whole h)
    ∙ ap (λ bytes. patched bytes (p * 4096) (shown page) 4096) (sym (around pages p h))

pub shows_zeros : (page : Page) → (kind_of page ≡ kind.Zero) ⊎ (kind_of page ≡ kind.Given) → shown page ≡ zeros 4096
shows_zeros Zero k = refl
shows_zeros Given k = refl
shows_zeros (Private frame) (inl e) = absurd (cc)
shows_zeros (Private frame) (inr e) = absurd (cc)
shows_zeros (Shared share ticket) (inl e) = absurd (cc)
shows_zeros (Shared share ticket) (inr e) = absurd (cc)
shows_zeros (Swapped slot digest) k = refl

-- the bytes of a page, cut out of the memory
pub page_of_memory : (pages : List Page) (p : ℕ) → AreWhole pages → p < length pages → take 4096 (drop (p * 4096) (memory_of pages)) ≡ shown (page_at pages p)
page_of_memory pages p whole h =
    let n = length_of_page pages p whole h in
    ap (λ bytes. take 4096 (drop (p * 4096) bytes)) (around pages p h)
    ∙ ap (λ k. take 4096 (drop k (before pages p ++ (shown (page_at pages p) ++ after pages p)))) (sym (length_before pages p whole h))
    ∙ ap (take 4096) (drop-append_seam (before pages p) (shown (page_at pages p) ++ after pages p))
    ∙ ap (λ k. take k (shown (page_at pages p) ++ after pages p)) (sym n)
    ∙ take-append_seam (shown (page_at pages p)) (after pages p)

-- ---- one page and the others

pub new_page : (pages : List Page) (p : ℕ) (page : Page) → p < length pages → page_at (set pages p page) p ≡ page
new_page pages p page h = get_or-set_same pages p page Zero h

pub other_page : (pages : List Page) (p q : ℕ) (page : Page) → (q ≡ p → ⊥) → page_at (set pages p page) q ≡ page_at pages q
other_page pages p q page apart = get_or-set_other pages p q page Zero apart

pub kinds_set : (pages : List Page) (p : ℕ) (page : Page) → kinds_of (set pages p page) ≡ set (kinds_of pages) p (kind_of page)
kinds_set pages p page = map-set kind_of pages p page

pub outline_set : (pages : List Page) (p : ℕ) (page : Page) → outline (set pages p page) ≡ set (outline pages) p (outlined page)
outline_set pages p page = map-set outlined pages p page

-- ---- a page that is replaced twice

pub set_twice : (pages : List Page) (p : ℕ) (page other : Page) → set (set pages p page) p other ≡ set pages p other
set_twice [] p page other = refl
set_twice (x ∷ xs) zero page other = refl
set_twice (x ∷ xs) (suc p) page other = ap (λ (more : List Page). x ∷ more) (set_twice xs p page other)

-- the page itself is put back
pub set_back : (pages : List Page) (p : ℕ) (page : Page) → p < length pages → page_at pages p ≡ page → set pages p page ≡ pages
set_back [] p page h e = absurd (omega (arith, h))
set_back (x ∷ xs) zero page h e = ap (λ (y : Page). y ∷ xs) (sym e)
set_back (x ∷ xs) (suc p) page h e = ap (λ (more : List Page). x ∷ more) (set_back xs p page (omega (arith, h)) e)
