-- Stakes as they are dealt: what is known of each guest's slots.
use Rattle.std.specs.Prelude.{◌≡◌, ℕ, List, [], ◌∷◌, Option, map}
use Rattle.std.specs.List.{flat_map}
use Rattle.guest_pages.specs.declared.page.Page.{Page}
use Rattle.guest_pages.specs.declared.page.Page.TheVariants.{Swapped}
use Rattle.slot_contents.specs.declared.content.Content.{Content}
use Rattle.slot_contents.specs.declared.content.Content.TheVariants.{Owner}
use Rattle.slot_contents.specs.Shares.{its_written, found}
use Rattle.page_moves.specs.Faith.{Kept}
use Rattle.lent_pages.specs.Contents.{its_slots}
use Rattle.machine_memory.specs.declared.stake.Stake.{Stake}

-- the slots that pages are in
abbrev pub slot_list : Page → List ℕ
slot_list (Swapped slot digest) = slot ∷ []
slot_list _ = []

abbrev pub slots_in : List Page → List ℕ
slots_in pages = flat_map slot_list pages

-- the part of a guest with these pages, in a store that holds this
abbrev pub guest_part : (ℕ → Option (List ℕ)) → List Page → Content
guest_part held pages = Owner (found held (slots_in pages))

-- each stake with its guest's pages
abbrev pub Each : (Stake → List Page → Type 0) → List Stake → List (List Page) → Type 0
Each is [] [] = Unit {0}
Each is (stake ∷ stakes) (pages ∷ all) = is stake pages × Each is stakes all
Each is _ _ = ⊥

-- a stake says that what the store holds was written to the slots that the pages are in
abbrev pub IsFound : (ℕ → Option (List ℕ)) → Stake → List Page → Type 0
IsFound held stake pages = its_written stake.contents ≡ found held (slots_in pages)

-- where pages are kept by what a store holds, they are kept by what a stake says that was written
abbrev pub IsKeptBy : (ℕ → Option (List ℕ)) → Stake → List Page → Type 0
IsKeptBy held stake pages = (view : ℕ → List ℕ) → Kept held view pages → Kept (its_slots stake.contents) view pages
