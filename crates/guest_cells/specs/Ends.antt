-- What guests behind locks leave when they end.
use Rattle.std.specs.Prelude.{◌≡◌, true, List, ◌++◌, map}
use Rattle.guest_pages.specs.declared.page.Page.{Page}
use Rattle.guest.specs.Guests.{Intact}
use Rattle.cell.specs.declared.cell.Front.{Front}
use Rattle.cell.specs.declared.cell.Cell.{Cell}
use Rattle.cell.specs.declared.ends.Ended.{Ended}
use Rattle.cell.specs.Inputs.{bytes_in}
use Rattle.cell.specs.Sitting.{IsTrusted, front_boot}
use Rattle.cell.specs.Ends.{AreSettled}
use Rattle.guest_cells.specs.Places.{AllZip3}
use Rattle.guest_cells.specs.declared.handles.Handles.{Handles}

-- What the guest behind a front left when it ended with these handles: it is of the front's boot, and its run while its truth holds; each
-- seat was legal for its log, and has seen it; and the bytes that were put for its console are the input of its log, and then the rest. Its
-- truth holds where the swap store was true to digests when the memory was made.
pub record HasEnded {Store : Type 0} (is_true : Store → Type 0) (front : Front Store) (handles : Handles) (ended : Ended) : Type 0 where
  pub boots : ended.guest.boot ≡ front_boot front
  pub head : ended.guest.head ≡ front.head.value
  pub limit : ended.guest.log.limit ≡ front.limit
  pub is_run : ended.keeper.holds ≡ true → Intact ended.guest
  pub lasts : IsTrusted is_true front → ended.keeper.holds ≡ true
  pub seats : AreSettled ended.guest.log.items ended.keeper.holds handles.seats ended.seats
  pub input : handles.feed.put ≡ bytes_in ended.guest.log.items ++ ended.rest.items

-- what all guests left, that of each at its place
abbrev pub HaveEnded : {Store : Type 0} → (Store → Type 0) → List (Cell Store) → List Handles → List Ended → Type 0
HaveEnded is_true cells all others =
    AllZip3 (λ (cell : Cell _) (handles : Handles) (ended : Ended). HasEnded is_true cell.front handles ended) cells all others

-- the pages of guests that have ended
abbrev pub pages_left : List Ended → List (List Page)
pages_left all = map (λ (e : Ended). e.guest.bus.pages) all
