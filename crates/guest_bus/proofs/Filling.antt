-- Bytes that are put into memory one after another.
use Rattle.std.proofs.Common.{ℕ, suc, ◌≡◌, ◌+◌, ◌-◌, ◌<◌, ◌≤◌, List, [], ◌∷◌, ◌++◌, length, get_or, set, take, drop, sym, ap, ◌∙◌, arith, append_assoc, length-append, length-take-le, add-one, drop-cons, append-nil, take-append-drop}
use Rattle.std.proofs.lemmas.List.{set-append_right}
use Rattle.std.proofs.Math.Seq.{take-suc}
use Rattle.word32.specs.Words.{patched}

-- none of the bytes yet
pub fill_none : (memory bytes : List ℕ) (at : ℕ) → memory ≡ patched memory at (take 0 bytes) 0
fill_none memory bytes at =
    let start : at ≡ at + 0 = omega arith in
    sym (take-append-drop at memory)
    ∙ ap (λ (front : List ℕ). front ++ drop at memory) (sym (append-nil (take at memory)))
    ∙ ap (λ (k : ℕ). (take at memory ++ []) ++ drop k memory) start

-- one byte more
pub fill_more : (memory bytes : List ℕ) (at k : ℕ) → at + k < length memory → k < length bytes
    → set (patched memory at (take k bytes) k) (at + k) (get_or bytes k 0) ≡ patched memory at (take (k + 1) bytes) (k + 1)
fill_more memory bytes at k inside below =
    let front = take at memory ++ take k bytes in
    let byte = get_or bytes k 0 in
    let rest = drop (suc (at + k)) memory in
    let long : length front ≡ at + k = omega (arith, length-append (take at memory) (take k bytes), length-take-le at memory (omega arith), length-take-le k bytes (omega arith)) in
    let none : at + k - (at + k) ≡ 0 = omega arith in
    let next : suc (at + k) ≡ at + suc k = omega arith in
    set-append_right front (drop (at + k) memory) (at + k) (at + k) byte long (omega arith)
    ∙ ap (λ (i : ℕ). front ++ set (drop (at + k) memory) i byte) none
    ∙ ap (λ (xs : List ℕ). front ++ set xs 0 byte) (drop-cons memory (at + k) 0 inside)
    ∙ sym (append_assoc front (byte ∷ []) rest)
    ∙ ap (λ (xs : List ℕ). xs ++ rest) (append_assoc (take at memory) (take k bytes) (byte ∷ []) ∙ ap (λ (xs : List ℕ). take at memory ++ xs) (sym (take-suc bytes k 0 below)))
    ∙ ap (λ (n : ℕ). (take at memory ++ take (suc k) bytes) ++ drop n memory) next
    ∙ ap (λ (n : ℕ). patched memory at (take n bytes) n) (sym (add-one k))
