-- A pass over lines, one line at a time.
use Rattle.std.proofs.Common.{◌≡◌, ℕ, ◌+◌, ◌<◌, List, [], get_or, drop, length, drop-cons, refl, ◌∙◌, sym, ap, add-one, subst, Result, Ok, Err}
use Rattle.masm.specs.Assembly.{over_lines, at_line, Located}
use Rattle.masm.specs.Answers.{Follows, Gives}
use Rattle.masm.specs.Faults.{located}
use Rattle.masm_lines.specs.Steps.{◌>>=◌}
use Rattle.masm.specs.declared.error.AsmError.{AsmError}
use Rattle.masm_lines.specs.declared.fault.AsmFault.{AsmFault}
use Rattle.masm.specs.declared.error.LineError.{LineError}
use Rattle.masm.specs.declared.error.LineError.TheVariants as of_line

-- a pass from a line on, by that line and the next
by_line : {S : Type 0} (step : S → List ℕ → Result S AsmFault) (n : ℕ) (s : S) (lines : List (List ℕ)) (i : ℕ) → i < length lines → over_lines step n s (drop i lines) ≡ (at_line n (step s (get_or lines i [])) >>= λ u. over_lines step (n + 1) u (drop (i + 1) lines))
by_line step n s lines i h = rw (drop-cons lines i [] h, add-one i)

pub line_taken : {S : Type 0} (step : S → List ℕ → Result S AsmFault) (n : ℕ) (s t : S) (lines : List (List ℕ)) (i : ℕ) → i < length lines → step s (get_or lines i []) ≡ Ok t → over_lines step n s (drop i lines) ≡ over_lines step (n + 1) t (drop (i + 1) lines)
line_taken step n s t lines i h taken = by_line step n s lines i h ∙ ap (λ r. at_line n r >>= λ u. over_lines step (n + 1) u (drop (i + 1) lines)) taken

pub line_refused : {S : Type 0} (step : S → List ℕ → Result S AsmFault) (n : ℕ) (s : S) (f : AsmFault) (lines : List (List ℕ)) (i : ℕ) → i < length lines → step s (get_or lines i []) ≡ Err f → over_lines step n s (drop i lines) ≡ Err (f, n)
line_refused step n s f lines i h fails = by_line step n s lines i h ∙ ap (λ r. at_line n r >>= λ u. over_lines step (n + 1) u (drop (i + 1) lines)) fails

-- in a pass without a fault each line is taken
pub both_taken : {S T : Type 0} (r : Result S AsmFault) (k : S → Located T) (n : ℕ) (final : T) → (at_line n r >>= k) ≡ Ok final → (t : S) × (r ≡ Ok t) × (k t ≡ Ok final)
both_taken (Ok t) k n final h = (t, refl, h)
both_taken (Err f) k n final h = absurd (cc)

pub each_taken : {S : Type 0} (step : S → List ℕ → Result S AsmFault) (n : ℕ) (s final : S) (lines : List (List ℕ)) (i : ℕ) → i < length lines → over_lines step n s (drop i lines) ≡ Ok final → (t : S) × (step s (get_or lines i []) ≡ Ok t) × (over_lines step (n + 1) t (drop (i + 1) lines) ≡ Ok final)
each_taken step n s final lines i h whole = both_taken (step s (get_or lines i [])) (λ u. over_lines step (n + 1) u (drop (i + 1) lines)) n final (sym (by_line step n s lines i h) ∙ whole)

-- an error of a line is the pass's first fault, with its number
pub error_at : {A B T : Type 0} (Is : B → A → Type 0) (IsNext : T → Type 0) (error : LineError) (result : AsmError) (n : ℕ) (step : Result T AsmFault) (found : Located A) → result ≡ located error n → Follows IsNext (Err error) step → ((f : AsmFault) → step ≡ Err f → found ≡ Err (f, n)) → Gives Is (Err result) found
error_at Is IsNext (of_line.Fault f) result n step found e follows first = subst (λ r. Gives Is (Err r) found) (sym e) (first f follows)
error_at Is IsNext (of_line.Memory a) result n step found e follows first = subst (λ r. Gives Is (Err r) found) (sym e) tt

pub next_of : {T : Type 0} (IsNext : T → Type 0) (step : Result T AsmFault) → Follows IsNext (Ok tt) step → (t : T) × (step ≡ Ok t) × IsNext t
next_of IsNext (Ok t) follows = (t, refl, follows)
next_of IsNext (Err f) follows = absurd follows

-- what a definition gives where the code has an answer
pub given : {A B : Type 0} (Is : B → A → Type 0) (b : B) (found : Located A) → Gives Is (Ok b) found → (a : A) × (found ≡ Ok a) × Is b a
given Is b (Ok a) h = (a, refl, h)
given Is b (Err f) h = absurd h

pub gives : {A B : Type 0} (Is : B → A → Type 0) (b : B) (a : A) (found : Located A) → found ≡ Ok a → Is b a → Gives Is (Ok b) found
gives Is b a found e h = rw e h
