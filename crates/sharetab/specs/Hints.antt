-- Hints: the digest that each page was last noted with.
use Rattle.std.specs.Prelude.{◌≡◌, ℕ, List, Some}
use Rattle.sharetab.specs.Maps.{at_digest, at_page}
use Rattle.sharetab.specs.declared.guest_page.GuestPage.{GuestPage}

-- pages, as the number of the guest and that of the page, each with its digest
abbrev pub HintsAre : Type 0
HintsAre = List ((ℕ × ℕ) × List ℕ)

-- no page but this one was last noted with the digest
abbrev pub NoOtherHas : HintsAre → List ℕ → GuestPage → Type 0
NoOtherHas hints digest page = (other : GuestPage) → at_page hints other ≡ Some digest → other ≡ page

-- no two pages were last noted with one digest
abbrev pub OnePageEach : HintsAre → Type 0
OnePageEach hints = (digest : List ℕ) (one other : GuestPage) → at_page hints one ≡ Some digest → at_page hints other ≡ Some digest → one ≡ other

-- a page is noted with a digest, and the hint of each other page stays
pub record Notes (old : HintsAre) (digest : List ℕ) (page : GuestPage) (new : HintsAre) : Type 0 where
  pub here : at_page new page ≡ Some digest
  pub others : (other : GuestPage) → (other ≡ page → ⊥) → at_page new other ≡ at_page old other

-- pages by digest are the hints turned round
pub record Inverts (hints : HintsAre) (pages : List (List ℕ × GuestPage)) : Type 0 where
  pub there : (page : GuestPage) (digest : List ℕ) → at_page hints page ≡ Some digest → at_digest pages digest ≡ Some page
  pub back : (page : GuestPage) (digest : List ℕ) → at_digest pages digest ≡ Some page → at_page hints page ≡ Some digest
