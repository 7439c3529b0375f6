-- A loop over the places of a list, which writes each in turn.
use Rattle.std.proofs.Common.{◌≡◌, ◌≢◌, ℕ, ◌+◌, ◌<◌, ◌≤◌, List, length, get_or, set, subst, sym, arith, below_more}
use Rattle.std.proofs.lemmas.List.{get_or-set_same, get_or-set_other}

-- What holds of each place below one, and of what is written there, holds of each place up to it.
pub done_more : {A : Type 0} (P : ℕ → A → Type 0) (now : List A) (g : ℕ) (x : A) → g < length now → ((k : ℕ) (d : A) → k < g → P k (get_or now k d)) → P g x
    → (k : ℕ) (d : A) → k < g + 1 → P k (get_or (set now g x) k d)
done_more P now g x there done here k d below =
    below_more (λ (j : ℕ). P j (get_or (set now g x) j d)) g
    (λ j h. let ne : j ≢ g = omega arith in rw get_or-set_other (done j d h))
    (rw get_or-set_same here) k below

-- the places from the next one on are as they were
pub left_more : {A : Type 0} (old now : List A) (g : ℕ) (x : A) → ((k : ℕ) (d : A) → g ≤ k → get_or now k d ≡ get_or old k d)
    → (k : ℕ) (d : A) → g + 1 ≤ k → get_or (set now g x) k d ≡ get_or old k d
left_more old now g x left k d above =
    let ne : k ≢ g = omega arith in
    let from : g ≤ k = omega arith in
    rw get_or-set_other (left k d from)

-- the same where two lists are written in turn
pub done_both : {A B : Type 0} (P : ℕ → A → B → Type 0) (xs : List A) (ys : List B) (g : ℕ) (x : A) (y : B) → g < length xs → g < length ys
    → ((k : ℕ) (d : A) (e : B) → k < g → P k (get_or xs k d) (get_or ys k e)) → P g x y
    → (k : ℕ) (d : A) (e : B) → k < g + 1 → P k (get_or (set xs g x) k d) (get_or (set ys g y) k e)
done_both {A = A} {B = B} P xs ys g x y there there' done here k d e below =
    below_more (λ (j : ℕ). P j (get_or (set xs g x) j d) (get_or (set ys g y) j e)) g
    (λ j h. let ne : j ≢ g = omega arith in
    subst (λ (b : B). P j (get_or (set xs g x) j d) b) (sym (get_or-set_other ys g j y e ne))
    (subst (λ (a : A). P j a (get_or ys j e)) (sym (get_or-set_other xs g j x d ne)) (done j d e h)))
    (subst (λ (b : B). P g (get_or (set xs g x) g d) b) (sym (get_or-set_same ys g y e there'))
    (subst (λ (a : A). P g a y) (sym (get_or-set_same xs g x d there)) here))
    k below
