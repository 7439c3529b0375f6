-- Pages that are marked.
use Rattle.std.specs.Prelude.{ℕ, ◌≡◌, ◌<◌, ◌≤◌, Bool, true, false, List, length, All, slice_index_or}
use Rattle.std.specs.List.{Contains, count_by}

-- which pages are marked, by their numbers, and a list of them
pub record MarksAre : Type 0 where
  pub marked : List Bool
  pub list : List ℕ

-- a page is marked
abbrev pub is_marked : ℕ → List Bool → Bool
is_marked page marked = slice_index_or marked page false

-- how many pages are marked
abbrev pub marks : List Bool → ℕ
marks marked = count_by (λ m. m) marked

-- Each page that is marked is in the list, which has no more pages than are marked. So where a page is not marked, there is room for it in
-- a list with room for all.
pub record AreListed (marked : List Bool) (list : List ℕ) : Type 0 where
  pub listed : (page : ℕ) → is_marked page marked ≡ true → Contains list page
  pub within : All (λ page. page < length marked) list
  pub few : length list ≤ marks marked

-- as many pages, and each that was marked still is
pub record Grows (old new : List Bool) : Type 0 where
  pub size : length new ≡ length old
  pub kept : (page : ℕ) → is_marked page new ≡ false → is_marked page old ≡ false
