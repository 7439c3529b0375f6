-- Searches of the entries.
use Rattle.std.proofs.Common.{◌≡◌, ℕ, Bool, true, false, List, [], ◌∷◌, All, find, Some, None, cond, suc, refl, ap, ◌∙◌, arith, ◌<◌, position, slice_get, slice_index_or}
use Rattle.std.proofs.lemmas.List.Folds.{find_at}
use Rattle.std.proofs.lemmas.List.Sums.{position_or_len_is}
use Rattle.std.proofs.lemmas.List.Quantifiers.{position-Some}

pub find_none : {X : Type 0} (p : X → Bool) → (xs : List X) → All (λ x. p x ≡ false) xs → find p xs ≡ None
find_none p [] none = refl
find_none p (x ∷ xs) none =
    let first : p x ≡ false = none 0 x (omega arith) in
    ap (λ b. cond b (Some x) (find p xs)) first ∙ find_none p xs (λ k d within. none (suc k) d (omega arith))

pub passes_at_position : {X : Type 0} (p : X → Bool) (xs : List X) (i : ℕ) (d : X) → position p xs ≡ Some i → p (slice_index_or xs i d) ≡ true
passes_at_position p xs i d found = (position-Some p xs i d found).1

pub fails_before_position : {X : Type 0} (p : X → Bool) (xs : List X) (i k : ℕ) (d : X) → position p xs ≡ Some i → k < i → p (slice_index_or xs k d) ≡ false
fails_before_position p xs i k d found before = (position-Some p xs i d found).2 k before

pub find_at_position : {X : Type 0} (p : X → Bool) (xs : List X) (i : ℕ) (d : X) → position p xs ≡ Some i → find p xs ≡ slice_get xs i
find_at_position p xs i d found =
    let facts = position-Some p xs i d found in
    find_at p xs ∙ ap (slice_get xs) (position_or_len_is p xs i d (omega arith) facts.2 (λ _. facts.1))
