-- The swap store as it was found under its lock.
use Rattle.std.specs.Prelude.{◌≡◌, ◌↔◌, ℕ, List, Option}
use Rattle.swapstore.specs.Failures.{one_more}
use Rattle.guest_pages.specs.declared.page.Page.{Page}
use Rattle.guest_pages.specs.Pages.{slot_of, digest_of}
use Rattle.page_moves.specs.Supplies.{IsDamaged}

-- a store is to be trusted exactly as another was
pub record IsStill {Store : Type 0} (is_honest is_true : Store → Type 0) (first now : Store) : Type 0 where
  pub honest : is_honest now ↔ is_honest first
  pub true_to_digests : is_true now ↔ is_true first

-- a call of the store failed: it was counted
pub record HasFailed {Store : Type 0} (is_honest is_true : Store → Type 0) (failures : Store → ℕ) (first : Store) : Type 0 where
  pub found : Store
  pub left : Store
  pub before : IsStill is_honest is_true first found
  pub after : IsStill is_honest is_true first left
  pub counted : failures left ≡ one_more (failures found)

-- What was read from the slot of a page has another SHA-256 than the page. Where the store is honest, and it is known what was last
-- written to the slot, that was read.
pub record HasDamaged {Store : Type 0} (is_honest is_true : Store → Type 0) (gives : Store → ℕ → List ℕ → Type 0) (held : Store → ℕ → Option (List ℕ)) (first : Store) (page : Page) : Type 0 where
  pub found : Store
  pub before : IsStill is_honest is_true first found
  pub damaged : IsDamaged (gives found (slot_of page)) (is_honest found) (held found (slot_of page)) (digest_of page)
