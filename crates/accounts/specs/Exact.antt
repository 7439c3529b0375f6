-- Accounts that are exact books together.
use Rattle.std.specs.Prelude.{◌≡◌, ℕ, ◌+◌, List, [], ◌∷◌, ◌++◌, None, map, replicate}
use Rattle.std.specs.List.{flat_map, sum_by, range_with_len}
use Rattle.frames.specs.FreeList.{FreeList}
use Rattle.sharetab.specs.Entries.{EntriesAre}
use Rattle.guest_pages.specs.declared.page.Page.{Page}
use Rattle.page_moves.specs.Books.{Books}
use Rattle.accounts.specs.declared.account.Account.{Account}
use Rattle.accounts.specs.declared.account.Account.TheVariants.{Guest, Table, Frame, Slots}
use Rattle.accounts.specs.declared.account.Extent.{Extent}

-- what an account of each kind has
abbrev pub guest_in : Account → List (List Page)
guest_in (Guest pages) = pages ∷ []
guest_in _ = []

abbrev pub table_in : Account → List EntriesAre
table_in (Table entries) = entries ∷ []
table_in _ = []

abbrev pub frame_in : Account → List ℕ
frame_in (Frame number) = number ∷ []
frame_in _ = []

abbrev pub slots_in : Account → List FreeList
slots_in (Slots book) = book ∷ []
slots_in _ = []

-- 1 for a guest, the table and the slot book, 0 for a free frame
abbrev pub one_owner : Account → ℕ
one_owner (Frame number) = 0
one_owner _ = 1

abbrev pub free_list : List ℕ → ℕ → FreeList
free_list free out = record { free = free; out = out }

-- There are so many guests, one table and one slot book, and the guests' pages, the entries, the free frames, of which some
-- number is out, and the slots are exact books.
pub record Exact (k : Extent) (accounts : List Account) : Type 0 where
  pub entries : EntriesAre
  pub out : ℕ
  pub book : FreeList
  pub owners : sum_by one_owner accounts ≡ k.guests + 2
  pub one_table : flat_map table_in accounts ≡ entries ∷ []
  pub one_book : flat_map slots_in accounts ≡ book ∷ []
  pub exact : Books k.frames k.slots (flat_map guest_in accounts) entries (free_list (flat_map frame_in accounts) out) book

-- the accounts when the ledger is made: all is free, and no guest has a page
abbrev pub opening : Extent → List Account
opening k = Slots (free_list (range_with_len 0 k.slots) 0) ∷ Table (replicate k.frames None) ∷ (replicate k.guests (Guest []) ++ map Frame (range_with_len 0 k.frames))
