-- What stands at the places of guests.
use Rattle.std.proofs.Common.{◌≡◌, ℕ, List, length, Some}
use Rattle.std.specs.List.{slice_get}
use Rattle.cell.specs.declared.cell.Cell.{Cell}
use Rattle.cell.specs.declared.ends.Ended.{Ended}
use Rattle.booting.specs.declared.asked.NewGuest.{NewGuest}
use Rattle.guest_cells.specs.declared.handles.Handles.{Handles}
use Rattle.guest_cells.specs.Handles.{AreHandlesOf, AreHandlesOfAll}
use Rattle.guest_cells.specs.Ends.{HasEnded, HaveEnded}
use Rattle.guest_cells.specs.Asked.{IsAsAsked, AreAsAsked}
use Rattle.guest_cells.proofs.Places.{zip_count, zip_at, zip_by_place, zip3_count, zip3_at}

pub handles_count : {Store : Type 0} (cells : List (Cell Store)) (all : List Handles) → AreHandlesOfAll cells all → length cells ≡ length all
handles_count cells all are = zip_count (λ (c : Cell _) (h : Handles). AreHandlesOf c.front h) cells all are

pub handles_at : {Store : Type 0} (cells : List (Cell Store)) (all : List Handles) (g : ℕ) (cell : Cell Store) (handles : Handles) → AreHandlesOfAll cells all → slice_get cells g ≡ Some cell
    → slice_get all g ≡ Some handles → AreHandlesOf cell.front handles
handles_at cells all g cell handles are this that = zip_at (λ (c : Cell _) (h : Handles). AreHandlesOf c.front h) cells all g cell handles are this that

pub handles_by_place : {Store : Type 0} (cells : List (Cell Store)) (all : List Handles) → length cells ≡ length all
    → ((g : ℕ) (cell : Cell Store) (handles : Handles) → slice_get cells g ≡ Some cell → slice_get all g ≡ Some handles → AreHandlesOf cell.front handles) → AreHandlesOfAll cells all
handles_by_place cells all same each = zip_by_place (λ (c : Cell _) (h : Handles). AreHandlesOf c.front h) cells all same each

pub asked_count : {Store : Type 0} (log_runs : ℕ) (asked : List NewGuest) (cells : List (Cell Store)) (all : List Handles) → AreAsAsked log_runs asked cells all → (length asked ≡ length cells) × (length cells ≡ length all)
asked_count log_runs asked cells all are = zip3_count (λ (it : NewGuest) (c : Cell _) (h : Handles). IsAsAsked log_runs it c.front h) asked cells all are

pub asked_at : {Store : Type 0} (log_runs : ℕ) (asked : List NewGuest) (cells : List (Cell Store)) (all : List Handles) (g : ℕ) (it : NewGuest) (cell : Cell Store) (handles : Handles) → AreAsAsked log_runs asked cells all
    → slice_get asked g ≡ Some it → slice_get cells g ≡ Some cell → slice_get all g ≡ Some handles → IsAsAsked log_runs it cell.front handles
asked_at log_runs asked cells all g it cell handles are this that other =
    zip3_at (λ (it : NewGuest) (c : Cell _) (h : Handles). IsAsAsked log_runs it c.front h) asked cells all g it cell handles are this that other

pub ended_count : {Store : Type 0} (is_true : Store → Type 0) (cells : List (Cell Store)) (all : List Handles) (ended : List Ended) → HaveEnded is_true cells all ended → (length cells ≡ length all) × (length all ≡ length ended)
ended_count is_true cells all ended have = zip3_count (λ (c : Cell _) (h : Handles) (e : Ended). HasEnded is_true c.front h e) cells all ended have

pub ended_at : {Store : Type 0} (is_true : Store → Type 0) (cells : List (Cell Store)) (all : List Handles) (ended : List Ended) (g : ℕ) (cell : Cell Store) (handles : Handles) (one : Ended) → HaveEnded is_true cells all ended
    → slice_get cells g ≡ Some cell → slice_get all g ≡ Some handles → slice_get ended g ≡ Some one → HasEnded is_true cell.front handles one
ended_at is_true cells all ended g cell handles one have this that other =
    zip3_at (λ (c : Cell _) (h : Handles) (e : Ended). HasEnded is_true c.front h e) cells all ended g cell handles one have this that other
