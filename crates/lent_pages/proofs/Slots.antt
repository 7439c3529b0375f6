-- The slot that a page went to.
use Rattle.std.proofs.Common.{◌≡◌, ℕ, zero, suc, ◌<◌, List, [], ◌∷◌, length, set, refl, ap, ◌∙◌, arith}
use Rattle.guest_pages.specs.declared.page.Page.{Page}
use Rattle.guest_pages.specs.declared.page.Page.TheVariants.{Swapped}
use Rattle.guest_pages.specs.Pages.{page_at, slot_of}

at_set : (ps : List Page) (p : ℕ) (q : Page) → p < length ps → page_at (set ps p q) p ≡ q
at_set [] p q there = absurd (omega (arith, there))
at_set (x ∷ ps) zero q there = refl
at_set (x ∷ ps) (suc p) q there = at_set ps p q (omega (arith, there))

pub slot_gone_to : (ps ps' : List Page) (p slot : ℕ) (digest : List ℕ) → p < length ps → ps' ≡ set ps p (Swapped slot digest) → slot_of (page_at ps' p) ≡ slot
slot_gone_to ps ps' p slot digest there is = ap (λ (l : List Page). slot_of (page_at l p)) is ∙ ap slot_of (at_set ps p (Swapped slot digest) there)

pub slot_gone_inside : (ps ps' : List Page) (p slot slots : ℕ) (digest : List ℕ) → p < length ps → ps' ≡ set ps p (Swapped slot digest) → slot < slots → slot_of (page_at ps' p) < slots
slot_gone_inside ps ps' p slot slots digest there is inside = omega (arith, slot_gone_to ps ps' p slot digest there is, inside)
