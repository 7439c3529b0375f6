-- Bytes of input, one after another.
use Rattle.std.proofs.Common.{◌≡◌, refl, sym, ap, ◌∙◌, arith, ℕ, zero, suc, ◌+◌, ◌<◌, if◌then◌else◌, ◌==◌, List, [], ◌∷◌, ◌++◌, length, map, take, get_or, append_assoc, add-one}
use Rattle.std.proofs.lemmas.List.{append-nil}
use Rattle.world.specs.All.{Item, input_of, inputs_for, item_for}
use Rattle.world.proofs.Worlds.{chosen_join, none_chosen}

-- one byte more
inputs_more : (i : ℕ) (bytes : List ℕ) → i < length bytes → map input_of (take (suc i) bytes) ≡ map input_of (take i bytes) ++ input_of (get_or bytes i 0) ∷ []
inputs_more i [] inside = absurd (omega (arith, inside))
inputs_more zero (b ∷ bytes) inside = refl
inputs_more (suc i) (b ∷ bytes) inside = ap (λ (l : List Item). input_of b ∷ l) (inputs_more i bytes (omega (arith, inside)))

-- the log with some bytes, and then one more
pub taken_more : (h g i : ℕ) (bytes : List ℕ) (old now after : List Item) → i < length bytes → now ≡ old ++ inputs_for h g (take i bytes) → after ≡ now ++ item_for h g (input_of (get_or bytes i 0))
    → after ≡ old ++ inputs_for h g (take (i + 1) bytes)
taken_more h g i bytes old now after inside so_far more =
    more ∙ ap (λ (l : List Item). l ++ item_for h g (input_of (get_or bytes i 0))) so_far
    ∙ append_assoc old (inputs_for h g (take i bytes)) (item_for h g (input_of (get_or bytes i 0)))
    ∙ ap (λ (l : List Item). old ++ l)
    (sym (chosen_join (h == g) (map input_of (take i bytes)) (input_of (get_or bytes i 0) ∷ []))
    ∙ ap (λ (l : List Item). if h == g then l else []) (sym (inputs_more i bytes inside))
    ∙ ap (λ (n : ℕ). inputs_for h g (take n bytes)) (sym (add-one i)))

pub taken_none : (h g : ℕ) (bytes : List ℕ) (old : List Item) → old ≡ old ++ inputs_for h g (take 0 bytes)
taken_none h g bytes old = sym (append-nil old) ∙ ap (λ (l : List Item). old ++ l) (sym (none_chosen (h == g) []))
