-- What is told of a guest's front where a call has done it, or where it has not.
use Rattle.std.proofs.Common.{◌≡◌, ℕ, List, Result, Ok, Err, IfOk, IfErr, OnOk, IsErrOf, Some, ap}
use Rattle.std.specs.List.{slice_get}
use Rattle.cell.specs.declared.cell.Front.{Front}
use Rattle.cell.specs.declared.cell.Cell.{Cell}
use Rattle.host.specs.Places.{AtGuest}
use Rattle.host.proofs.Fronts.{at_guest}

pub ok_at : {S T E : Type 0} (cells : List (Cell S)) (guest : ℕ) (cell : Cell S) (P : Front S → T → Type 0) (r : Result T E) → slice_get cells guest ≡ Some cell → IfOk r (P cell.front) → IfOk r (λ x. AtGuest cells guest (λ front. P front x))
ok_at cells guest cell P (Ok x) place so = at_guest cell place so
ok_at cells guest cell P (Err e) place so = so

pub err_at : {S T E : Type 0} (cells : List (Cell S)) (guest : ℕ) (cell : Cell S) (P : Front S → E → Type 0) (r : Result T E) → slice_get cells guest ≡ Some cell → IfErr r (P cell.front) → IfErr r (λ e. AtGuest cells guest (λ front. P front e))
err_at cells guest cell P (Ok x) place so = so
err_at cells guest cell P (Err e) place so = at_guest cell place so

pub done_at : {S T E : Type 0} (cells : List (Cell S)) (guest : ℕ) (cell : Cell S) (P : Front S → Type 0) (r : Result T E) → slice_get cells guest ≡ Some cell → OnOk r (P cell.front) → OnOk r (AtGuest cells guest P)
done_at cells guest cell P (Ok x) place so = at_guest cell place so
done_at cells guest cell P (Err e) place so = so

-- the same error, of a call that would have answered something else
pub err_again : {T U E : Type 0} (x e : E) → IsErrOf {T = T} (Err x) e → IsErrOf {T = U} (Err x) e
err_again x e is = let same : x ≡ e = cc in ap (λ (y : _). Err y) same
