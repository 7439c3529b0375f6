-- Guests that are to come behind locks, and that have come there as they were asked for.
use Rattle.std.specs.Prelude.{◌≡◌, ℕ, List, []}
use Rattle.std.specs.List.{AllZip}
use Rattle.guest.specs.Guests.{GuestIs, Intact}
use Rattle.tenant.specs.Loading.{IsAtBoot}
use Rattle.cell.specs.declared.cell.Front.{Front}
use Rattle.cell.specs.declared.cell.Cell.{Cell}
use Rattle.cell.specs.Sitting.{RunIsWritten}
use Rattle.cell.specs.Ends.{AreOf, AreNew}
use Rattle.machine_memory.specs.declared.stake.Stake.{Stake}
use Rattle.booting.specs.declared.asked.NewGuest.{NewGuest}
use Rattle.guest_cells.specs.Places.{AllZip3}
use Rattle.guest_cells.specs.declared.handles.Handles.{Handles}

-- A guest is behind its lock as it was asked for, with a log of at most so many runs; what is handed out of it is its four seats, which have
-- seen and made nothing and know that its truth holds, and the right to put bytes for its console, of which none was put.
pub record IsAsAsked {Store : Type 0} (log_runs : ℕ) (asked : NewGuest) (front : Front Store) (handles : Handles) : Type 0 where
  pub profile : front.profile ≡ asked.profile
  pub image : front.image ≡ asked.image
  pub pages : front.pages ≡ asked.pages
  pub shares : front.shares ≡ asked.shares
  pub minimum : front.minimum ≡ asked.minimum
  pub limit : front.limit ≡ log_runs
  pub seats : AreOf front handles.seats
  pub fresh : AreNew handles.seats
  pub feed : handles.feed ≡ record { queue = front.queue.id; put = [] }

-- all guests are, each at its place
abbrev pub AreAsAsked : {Store : Type 0} → ℕ → List NewGuest → List (Cell Store) → List Handles → Type 0
AreAsAsked log_runs asked cells all =
    AllZip3 (λ (it : NewGuest) (cell : Cell _) (handles : Handles). IsAsAsked log_runs it cell.front handles) asked cells all

-- A guest is at the boot of what was asked for, and is its run.
pub record IsReady (log_runs : ℕ) (asked : NewGuest) (guest : GuestIs) : Type 0 where
  pub at_boot : IsAtBoot asked.profile asked.image.value asked.pages log_runs guest
  pub intact : Intact guest

-- all guests are, each at its place
abbrev pub AreReady : ℕ → List NewGuest → List GuestIs → Type 0
AreReady log_runs asked guests = AllZip (IsReady log_runs) asked guests

-- to the slots that each guest's pages are in the bytes of its run were written, as its stake says
abbrev pub RunsAreWritten : List Stake → List GuestIs → Type 0
RunsAreWritten stakes guests = AllZip RunIsWritten stakes guests
