-- The shares of owners and of the store.
use Rattle.std.specs.Prelude.{◌≡◌, ℕ, List, [], ◌∷◌, Option, map, unwrap_or}
use Rattle.ledger.specs.Shares.{LedgerId, LedgerIs, ShareIs}
use Rattle.slot_contents.specs.declared.content.Written.{Written}
use Rattle.slot_contents.specs.declared.content.Content.{Content}
use Rattle.slot_contents.specs.declared.content.Content.TheVariants.{Store, Free, Owner}
use Rattle.slot_contents.specs.Held.{listed}

-- the share of an owner that wrote this
abbrev pub owner_share : LedgerId → List Written → ShareIs Content
owner_share ledger ws = record { ledger = ledger; parts = Owner ws ∷ [] }

-- the share of a store that holds this, with the free slots
abbrev pub store_share : LedgerIs ℕ → (ℕ → Option (List ℕ)) → List ℕ → ShareIs Content
store_share contents held free = record { ledger = contents.id; parts = Store (listed contents.key held) ∷ Free free ∷ [] }

-- what an owner wrote, by the first part of its share
abbrev pub written_first : List Content → List Written
written_first (Owner ws ∷ _) = ws
written_first _ = []

abbrev pub its_written : ShareIs Content → List Written
its_written share = written_first share.parts

-- which slots are free, by the part of a share after the store's
abbrev pub free_second : List Content → List ℕ
free_second (Store list ∷ Free slots ∷ _) = slots
free_second _ = []

abbrev pub its_free : ShareIs Content → List ℕ
its_free share = free_second share.parts

-- it is the share of one owner
abbrev pub IsOwners : LedgerId → ShareIs Content → Type 0
IsOwners ledger share = share ≡ owner_share ledger (its_written share)

-- it is the share of a store that holds this, and of the free slots
abbrev pub IsStores : LedgerIs ℕ → (ℕ → Option (List ℕ)) → ShareIs Content → Type 0
IsStores contents held share = share ≡ store_share contents held (its_free share)

-- what owners of these slots find there: what the store holds
abbrev pub found : (ℕ → Option (List ℕ)) → List ℕ → List Written
found held slots = map (λ slot. record { slot = slot; bytes = unwrap_or (held slot) [] }) slots

-- the share of a store, of its free slots and of all owners, who have these slots
abbrev pub all_shares : LedgerIs ℕ → (ℕ → Option (List ℕ)) → List ℕ → List (List ℕ) → ShareIs Content
all_shares contents held free owners = record {
  ledger = contents.id;
  parts = Store (listed contents.key held) ∷ Free free ∷ map (λ slots. Owner (found held slots)) owners;
}
