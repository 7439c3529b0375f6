-- A buffer that is copied by its two slices.
use Rattle.std.proofs.Common.{ℕ, ◌≡◌, ◌+◌, ◌-◌, ◌≤◌, ◌++◌, List, length, drop, arith, sym, ap, ◌∙◌}
use Rattle.std.proofs.lemmas.List.{length-append}
use Rattle.circular_buffer.specs.Buffer.{keep_last}

kept : {X : Type 0} (n : ℕ) (xs : List X) → length xs ≤ n → keep_last n xs ≡ xs
kept n xs within =
    let none : length xs - n ≡ 0 = omega (arith, within) in
    ap (λ k. drop k xs) none

pub copied_in_two : {X : Type 0} (n : ℕ) (xs ys zs : List X) → xs ++ ys ≡ zs → length zs ≤ n → keep_last n (keep_last n xs ++ ys) ≡ zs
copied_in_two n xs ys zs whole within =
    let sum : length xs + length ys ≡ length zs = sym (length-append xs ys) ∙ ap length whole in
    let front : keep_last n xs ≡ xs = kept n xs (omega (arith, sum, within)) in
    ap (λ zs. keep_last n (zs ++ ys)) front ∙ ap (keep_last n) whole ∙ kept n zs within
