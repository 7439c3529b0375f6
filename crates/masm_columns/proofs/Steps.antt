-- One operand on.
use Rattle.std.proofs.Common.{◌≡◌, ℕ, suc, ◌+◌, ◌-◌, ◌<◌, ◌≤◌, nat_le, true, false, List, length, take, Some, None, refl, sym, arith, subst}
use Rattle.masm_columns.specs.Beginnings.{goes_on}
use Rattle.masm_columns.specs.Places.{behind}
use Rattle.masm_columns.specs.Columns.{operand_from, misfit_from}
use Rattle.masm_columns.specs.declared.place.Class.TheVariants.{Not}

before_end : (size comma : ℕ) → comma < size → nat_le size comma ≡ false
before_end size comma l = grind (arith, l)

at_end : (size comma : ℕ) → size ≤ comma → nat_le size comma ≡ true
at_end size comma l = grind (arith, l)

one_less : (n : ℕ) → 0 < n → n ≡ suc (n - 1)
one_less n l = omega arith

pub operand_last : (n : ℕ) (line : List ℕ) (place : ℕ) → n ≡ 0 → operand_from n line place ≡ place
unfolding operand_from
operand_last n line place e = rw e refl

end_at : (n : ℕ) (line : List ℕ) (place : ℕ) → length line ≤ behind line place (Not 44) → operand_from (suc n) line place ≡ place
unfolding operand_from
end_at n line place l = rw (at_end (length line) (behind line place (Not 44)) l) refl

pub operand_end : (n : ℕ) (line : List ℕ) (place : ℕ) → 0 < n → length line ≤ behind line place (Not 44) → operand_from n line place ≡ place
operand_end n line place m l = subst (λ k. operand_from k line place ≡ place) (sym (one_less n m)) (end_at (n - 1) line place l)

step_at : (n : ℕ) (line : List ℕ) (place : ℕ) → behind line place (Not 44) < length line → operand_from (suc n) line place ≡ operand_from n line (behind line place (Not 44) + 1)
unfolding operand_from
step_at n line place l = rw (before_end (length line) (behind line place (Not 44)) l) refl

pub operand_step : (n : ℕ) (line : List ℕ) (place : ℕ) → 0 < n → behind line place (Not 44) < length line → operand_from n line place ≡ operand_from (n - 1) line (behind line place (Not 44) + 1)
operand_step n line place m l = subst (λ k. operand_from k line place ≡ operand_from (n - 1) line (behind line place (Not 44) + 1)) (sym (one_less n m)) (step_at (n - 1) line place l)

pub ruleset operand_steps = (operand_last, operand_end, operand_step)

pub misfit_none : (n : ℕ) (line : List ℕ) (place : ℕ) → n ≡ 0 → misfit_from n line place ≡ None
unfolding misfit_from
misfit_none n line place e = rw e refl

here_at : (n : ℕ) (line : List ℕ) (place : ℕ) → goes_on (take (behind line place (Not 44)) line) ≡ false → misfit_from (suc n) line place ≡ Some place
unfolding misfit_from
here_at n line place g = rw g refl

pub misfit_here : (n : ℕ) (line : List ℕ) (place : ℕ) → 0 < n → goes_on (take (behind line place (Not 44)) line) ≡ false → misfit_from n line place ≡ Some place
misfit_here n line place m g = subst (λ k. misfit_from k line place ≡ Some place) (sym (one_less n m)) (here_at (n - 1) line place g)

none_at : (n : ℕ) (line : List ℕ) (place : ℕ) → goes_on (take (behind line place (Not 44)) line) ≡ true → length line ≤ behind line place (Not 44) → misfit_from (suc n) line place ≡ None
unfolding misfit_from
none_at n line place g l = rw (g, at_end (length line) (behind line place (Not 44)) l) refl

pub misfit_end : (n : ℕ) (line : List ℕ) (place : ℕ) → 0 < n → goes_on (take (behind line place (Not 44)) line) ≡ true → length line ≤ behind line place (Not 44) → misfit_from n line place ≡ None
misfit_end n line place m g l = subst (λ k. misfit_from k line place ≡ None) (sym (one_less n m)) (none_at (n - 1) line place g l)

on_at : (n : ℕ) (line : List ℕ) (place : ℕ) → goes_on (take (behind line place (Not 44)) line) ≡ true → behind line place (Not 44) < length line
    → misfit_from (suc n) line place ≡ misfit_from n line (behind line place (Not 44) + 1)
unfolding misfit_from
on_at n line place g l = rw (g, before_end (length line) (behind line place (Not 44)) l) refl

pub misfit_step : (n : ℕ) (line : List ℕ) (place : ℕ) → 0 < n → goes_on (take (behind line place (Not 44)) line) ≡ true → behind line place (Not 44) < length line
    → misfit_from n line place ≡ misfit_from (n - 1) line (behind line place (Not 44) + 1)
misfit_step n line place m g l = subst (λ k. misfit_from k line place ≡ misfit_from (n - 1) line (behind line place (Not 44) + 1)) (sym (one_less n m)) (on_at (n - 1) line place g l)

pub ruleset misfit_steps = (misfit_none, misfit_here, misfit_end, misfit_step)
