-- What stands at the place of the one guest.
use Rattle.std.proofs.Common.{◌≡◌, List, [], ◌∷◌, ◌++◌, Some, length, length-append, ap, ◌∙◌, sym, arith}
use Rattle.std.specs.List.{slice_get}
use Rattle.cell.specs.declared.cell.Cell.{Cell}
use Rattle.guest_cells.specs.declared.handles.Handles.{Handles}
use Rattle.guest_cells.specs.Handles.{AreHandlesOf, AreHandlesOfAll}
use Rattle.guest_cells.proofs.ByPlace.{handles_count, handles_at}
use Rattle.host.specs.Places.{AtGuest}

-- the one of a list that was taken off it
taken : {A : Type 0} (all rest : List A) (x : A) → all ≡ rest ++ x ∷ [] → length all ≡ 1 → slice_get all 0 ≡ Some x
taken all [] x is one = ap (λ (l : List _). slice_get l 0) is
taken all (y ∷ rest) x is one = absurd (omega (arith, one, ap length is, length-append rest (x ∷ [])))

-- what was handed out of one guest is that guest's
pub only_one : {S : Type 0} (cells : List (Cell S)) (all rest : List Handles) (h : Handles) → AreHandlesOfAll cells all → length cells ≡ 1 → all ≡ rest ++ h ∷ []
    → AtGuest cells 0 (λ front. AreHandlesOf front h)
only_one cells all rest h are one is =
    let count : length all ≡ 1 = sym (handles_count cells all are) ∙ one in
    record { each = λ cell this. handles_at cells all 0 cell h are this (taken all rest h is count) }
