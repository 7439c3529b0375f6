-- Where the pages of images come, guest after guest.
use Rattle.std.specs.Prelude.{◌≡◌, ℕ, ◌<◌, List}
use Rattle.frames.specs.FreeList.{FreeList}
use Rattle.guest_pages.specs.declared.page.Page.{Page}
use Rattle.guest_pages.specs.declared.page.PageKind.TheVariants.{Private, Swapped}
use Rattle.guest_pages.specs.Pages.{page_at, kind_at, slot_of}
use Rattle.page_moves.specs.Books.{pages_of}
use Rattle.tenant.specs.Loading.{FramesFirst, SlotsRise}

-- Frames come first, guests and pages rising: where a page of a guest is in a slot, no frame is free, no page of it above that one is in a
-- frame, and none of a later guest. `all` are the lists of pages, one for each guest.
pub record FramesComeFirst (pool : FreeList) (all : List (List Page)) : Type 0 where
  pub each : (g : ℕ) → FramesFirst pool (pages_of all g)
  pub earlier : (g h p q : ℕ) → g < h → kind_at (pages_of all g) p ≡ Swapped → kind_at (pages_of all h) q ≡ Private → ⊥

-- Slots are taken in the order of their numbers, guests and pages rising: where a page of a guest is in a slot, those of the pages above it
-- are greater, and those of each later guest; and so is each slot that is free.
pub record SlotsComeInOrder (book : FreeList) (all : List (List Page)) : Type 0 where
  pub each : (g : ℕ) → SlotsRise book (pages_of all g)
  pub earlier : (g h p q : ℕ) → g < h → kind_at (pages_of all g) p ≡ Swapped → kind_at (pages_of all h) q ≡ Swapped →
      slot_of (page_at (pages_of all g) p) < slot_of (page_at (pages_of all h) q)
