-- How the guests stand, one after another.
use Rattle.std.proofs.Common.{◌≡◌, ℕ, zero, suc, ◌+◌, ◌⊎◌, inl, inr, List, [], ◌∷◌, ◌++◌, length, Option, Some, None, refl, sym, subst, ◌∙◌, arith, length-append}
use Rattle.std.specs.List.{slice_get}
use Rattle.cell.specs.declared.cell.Cell.{Cell}
use Rattle.monitor_answers.specs.declared.answer.GuestLine.{GuestLine}
use Rattle.monitor_answers.specs.Lines.{IsLineOf, AreLines}

some_is : {X : Type 0} (x y : X) → Some x ≡ Some y → x ≡ y
some_is x y e = cc

none_is_some : {X : Type 0} (y : X) → None ≡ Some y → ⊥
none_is_some y e = cc

-- what stands at a place of a list to which one was added
pushed_at : {X : Type 0} (xs : List X) (x y : X) (g : ℕ) → slice_get (xs ++ x ∷ []) g ≡ Some y → (slice_get xs g ≡ Some y) ⊎ ((g ≡ length xs) × (x ≡ y))
pushed_at [] x y zero is = inr (refl, some_is x y is)
pushed_at [] x y (suc g) is = absurd (none_is_some y is)
pushed_at (a ∷ xs) x y zero is = inl is
pushed_at (a ∷ xs) x y (suc g) is = elim (pushed_at xs x y g is) [ inl old ↦ inl old | inr new ↦ inr (omega (arith, new.0), new.1) ]

-- so many lines are those of the first guests
pub record AreFirst {S : Type 0} (cells : List (Cell S)) (guest : ℕ) (lines : List GuestLine) : Type 0 where
  pub count : length lines ≡ guest
  pub each : (g : ℕ) (cell : Cell S) (line : GuestLine) → slice_get cells g ≡ Some cell → slice_get lines g ≡ Some line → IsLineOf g cell line

pub none_first : {S : Type 0} (cells : List (Cell S)) → AreFirst cells 0 []
none_first cells = record { count = refl; each = λ g cell line its that. absurd (no_line g line that) }
  where
    no_line : (g : ℕ) (line : GuestLine) → slice_get [] g ≡ Some line → ⊥
    no_line g line that = none_is_some line that

pub one_more : {S : Type 0} (cells : List (Cell S)) (guest : ℕ) (lines : List GuestLine) (line : GuestLine) → AreFirst cells guest lines
    → ((cell : Cell S) → slice_get cells guest ≡ Some cell → IsLineOf guest cell line) → AreFirst cells (guest + 1) (lines ++ line ∷ [])
one_more cells guest lines line first here = record {
  count = omega (arith, length-append lines (line ∷ []), first.count);
  each = λ g cell other its that. by_place g cell other its (pushed_at lines line other g that);
}
  where
    by_place : (g : ℕ) (cell : Cell _) (other : GuestLine) → slice_get cells g ≡ Some cell → (slice_get lines g ≡ Some other) ⊎ ((g ≡ length lines) × (line ≡ other)) → IsLineOf g cell other
    by_place g cell other its (inl old) = first.each g cell other its old
    by_place g cell other its (inr new) =
        let place : g ≡ guest = new.0 ∙ first.count in
        subst (λ (l : GuestLine). IsLineOf g cell l) new.1
        (subst (λ (n : ℕ). IsLineOf n cell line) (sym place) (here cell (subst (λ (n : ℕ). slice_get cells n ≡ Some cell) place its)))

pub all_first : {S : Type 0} (cells : List (Cell S)) (guest : ℕ) (lines : List GuestLine) → guest ≡ length cells → AreFirst cells guest lines → AreLines cells lines
all_first cells guest lines all first = record { count = first.count ∙ all; each = first.each }
