-- Guests behind locks, and what is handed out of them.
use Rattle.std.specs.Prelude.{◌≡◌, List, All}
use Rattle.std.specs.List.{AllZip}
use Rattle.machine_memory.specs.Memories.{MemoryIs}
use Rattle.cell.specs.declared.cell.Front.{Front}
use Rattle.cell.specs.declared.cell.Cell.{Cell}
use Rattle.cell.specs.Level.{IsMemoryOf}
use Rattle.cell.specs.Ends.{AreOf}
use Rattle.guest_cells.specs.declared.handles.Handles.{Handles}

-- each guest is of this memory
abbrev pub AreOfMemory : {Store : Type 0} → MemoryIs Store → List (Cell Store) → Type 0
AreOfMemory memory cells = All (λ cell. IsMemoryOf cell.front.first.value memory) cells

-- the seats, and the right to put bytes for the console, are of the guest behind a front
pub record AreHandlesOf {Store : Type 0} (front : Front Store) (handles : Handles) : Type 0 where
  pub seats : AreOf front handles.seats
  pub feed : handles.feed.queue ≡ front.queue.id

-- the handles of all guests, those of each at its place
abbrev pub AreHandlesOfAll : {Store : Type 0} → List (Cell Store) → List Handles → Type 0
AreHandlesOfAll cells all = AllZip (λ (cell : Cell _) (handles : Handles). AreHandlesOf cell.front handles) cells all
