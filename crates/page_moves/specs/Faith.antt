-- Pages that are as their owner has them.
use Rattle.std.specs.Prelude.{◌≡◌, ℕ, ◌<◌, List, Option, length}
use Rattle.sha2.specs.Sha256.{sha256}
use Rattle.swapstore.specs.Holding.{AreHeld}
use Rattle.guest_pages.specs.declared.page.Page.{Page}
use Rattle.guest_pages.specs.declared.page.Page.TheVariants.{Swapped}
use Rattle.guest_pages.specs.Pages.{page_at, shown}

-- a page shows these bytes, or has their SHA-256 where it is in a slot
abbrev pub IsFaithful : List ℕ → Page → Type 0
IsFaithful bytes (Swapped slot digest) = digest ≡ sha256 bytes
IsFaithful bytes page = shown page ≡ bytes

-- each page is as the owner has it, who has the bytes `view p` in page p
abbrev pub Faithful : (ℕ → List ℕ) → List Page → Type 0
Faithful view pages = (p : ℕ) → p < length pages → IsFaithful (view p) (page_at pages p)

-- to the slot of a page that is in one these bytes were last written, if it is known what was
abbrev pub IsHeld : (ℕ → Option (List ℕ)) → List ℕ → Page → Type 0
IsHeld held bytes (Swapped slot digest) = AreHeld (held slot) bytes
IsHeld held bytes _ = Unit {0}

-- each page is as the owner has it, and to the slot of each that is in one its bytes were last written
pub record Kept (held : ℕ → Option (List ℕ)) (view : ℕ → List ℕ) (pages : List Page) : Type 0 where
  pub faithful : Faithful view pages
  pub lies : (p : ℕ) → p < length pages → IsHeld held (view p) (page_at pages p)
