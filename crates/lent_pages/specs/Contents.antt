-- What a guest wrote to the slots of its pages.
use Rattle.std.specs.Prelude.{◌≡◌, ℕ, ◌+◌, List, Option}
use Rattle.frames.specs.Counts.{count_of}
use Rattle.frames.specs.FreeList.{FreeList}
use Rattle.guest_pages.specs.declared.page.Page.{Page}
use Rattle.guest_pages.specs.declared.page.Returned.{Returned}
use Rattle.guest_pages.specs.Holdings.{slots_held}
use Rattle.page_moves.specs.Returns.{slot_of}
use Rattle.ledger.specs.Shares.{LedgerId, LedgerIs, ShareIs}
use Rattle.slot_contents.specs.declared.content.Content.{Content}
use Rattle.slot_contents.specs.Contents.{slots_of, written_to}
use Rattle.slot_contents.specs.Shares.{IsOwners, store_share, its_written}

-- what was written to a slot, by the share of its owner
abbrev pub its_slots : ShareIs Content → ℕ → Option (List ℕ)
its_slots share = written_to (its_written share)

-- a share has what was written to the slots that the pages are in, each once
pub record IsWritten (contents : LedgerId) (share : ShareIs Content) (pages : List Page) : Type 0 where
  pub owner : IsOwners contents share
  pub slots : (k : ℕ) → count_of k (slots_of (its_written share)) ≡ slots_held k pages

-- the same of the slots that the pages are in, and of one that a page handed back
pub record IsWrittenBack (contents : LedgerId) (share : ShareIs Content) (returned : Returned) (pages : List Page) : Type 0 where
  pub owner : IsOwners contents share
  pub slots : (k : ℕ) → count_of k (slots_of (its_written share)) ≡ slots_held k pages + slot_of k returned

-- the store's share says what the store holds, and which slots are free
abbrev pub IsHolding : {Store : Type 0} → (Store → ℕ → Option (List ℕ)) → LedgerIs ℕ → FreeList → Store → ShareIs Content → Type 0
IsHolding held contents book store share = share ≡ store_share contents (held store) book.free
