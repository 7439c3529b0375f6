-- The first element of a list that passes a test, and whether one does.
use Rattle.std.proofs.Common.{◌≡◌, ℕ, ◌+◌, ◌<◌, Bool, true, false, ◌||◌, List, [], ◌∷◌, Some, None, slice_get, position, refl, ap, ◌∙◌, zero, suc, arith}
use Rattle.std.specs.List.{list_any, position_from}
use Rattle.std.proofs.lemmas.Option.{none-some, same_Some}
use Rattle.std.proofs.lemmas.Iterator.Adapters.{position_from-zero}

second_true : (a b : Bool) → b ≡ true → (a || b) ≡ true
second_true true b h = refl
second_true false b h = h

pub any_none : {X : Type 0} (q : X → Bool) (xs : List X) → ((k : ℕ) (x : X) → slice_get xs k ≡ Some x → q x ≡ false) → list_any q xs ≡ false
any_none q [] none = refl
any_none q (x ∷ xs) none = rw (none 0 x refl) (any_none q xs (λ k y at. none (suc k) y at))

pub any_at : {X : Type 0} (q : X → Bool) (xs : List X) (k : ℕ) (x : X) → slice_get xs k ≡ Some x → q x ≡ true → list_any q xs ≡ true
any_at q [] k x at holds = absurd (none-some x at)
any_at q (y ∷ ys) zero x at holds = rw (ap q (same_Some y x at) ∙ holds) refl
any_at q (y ∷ ys) (suc k) x at holds = second_true (q y) (list_any q ys) (any_at q ys k x at holds)

from_first : {X : Type 0} (p : X → Bool) (xs : List X) (n g : ℕ) (x : X) → slice_get xs g ≡ Some x → p x ≡ true → ((k : ℕ) (y : X) → k < g → slice_get xs k ≡ Some y → p y ≡ false) → position_from p n xs ≡ Some (n + g)
from_first p [] n g x at holds before = absurd (none-some x at)
from_first p (y ∷ ys) n zero x at holds before = rw (ap p (same_Some y x at) ∙ holds) (ap (λ k. Some k) (omega arith))
from_first p (y ∷ ys) n (suc g) x at holds before =
    rw (before 0 y (omega arith) refl) (from_first p ys (n + 1) g x at holds (λ k z less z_at. before (suc k) z (omega arith) z_at) ∙ ap (λ k. Some k) (omega arith))

from_none : {X : Type 0} (p : X → Bool) (xs : List X) (n : ℕ) → ((k : ℕ) (x : X) → slice_get xs k ≡ Some x → p x ≡ false) → position_from p n xs ≡ None
from_none p [] n none = refl
from_none p (x ∷ xs) n none = rw (none 0 x refl) (from_none p xs (n + 1) (λ k y at. none (suc k) y at))

pub position_first : {X : Type 0} (p : X → Bool) (xs : List X) (g : ℕ) (x : X) → slice_get xs g ≡ Some x → p x ≡ true → ((k : ℕ) (y : X) → k < g → slice_get xs k ≡ Some y → p y ≡ false) → position p xs ≡ Some g
position_first p xs g x at holds before = position_from-zero p xs ∙ from_first p xs 0 g x at holds before ∙ ap (λ k. Some k) (omega arith)

pub position_none : {X : Type 0} (p : X → Bool) (xs : List X) → ((k : ℕ) (x : X) → slice_get xs k ≡ Some x → p x ≡ false) → position p xs ≡ None
position_none p xs none = position_from-zero p xs ∙ from_none p xs 0 none
