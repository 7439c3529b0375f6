-- Bytes between other bytes: what is read and written there.
use Rattle.std.proofs.Common.{ℕ, ◌≡◌, ◌+◌, ◌-◌, ◌<◌, ◌≤◌, List, [], ◌++◌, length, get_or, set, drop, refl, ap, ◌∙◌, arith, append_assoc, append-nil, length-drop}
use Rattle.std.proofs.lemmas.List.{drop-append-le, take-append-le, drop_all, get_or_append_left, get_or-append-add, set-append_left, set-append_right}
use Rattle.std.proofs.Math.Seq.{drop-append-add, take-append-add}
use Rattle.byteorder.specs.Endian.{little_number}
use Rattle.byteorder.specs.Numbers.{little_from-append}
use Rattle.word32.specs.Words.{patched}

pub byte_between : (front part rest : List ℕ) (j : ℕ) → j < length part → get_or (front ++ (part ++ rest)) (length front + j) 0 ≡ get_or part j 0
byte_between front part rest j h = get_or-append-add front (part ++ rest) j 0 ∙ get_or_append_left part rest 0 j h

pub number_between : (n : ℕ) (front part rest : List ℕ) (j : ℕ) → j + n ≤ length part → little_number n (drop (length front + j) (front ++ (part ++ rest))) ≡ little_number n (drop j part)
number_between n front part rest j h =
    ap (little_number n) (drop-append-add front (part ++ rest) j ∙ drop-append-le j part rest (omega arith))
    ∙ little_from-append n (drop j part) rest (omega (arith, length-drop j part))

pub set_between : (front part rest : List ℕ) (j byte : ℕ) → j < length part → set (front ++ (part ++ rest)) (length front + j) byte ≡ front ++ (set part j byte ++ rest)
set_between front part rest j byte h =
    let here : length front + j - length front ≡ j = omega arith in
    set-append_right front (part ++ rest) (length front) (length front + j) byte refl (omega arith)
    ∙ ap (λ k. front ++ set (part ++ rest) k byte) here
    ∙ ap (λ bytes. front ++ bytes) (set-append_left part rest j byte h)

pub patched_between : (front part rest new : List ℕ) (j n : ℕ) → j + n ≤ length part → patched (front ++ (part ++ rest)) (length front + j) new n ≡ front ++ (patched part j new n ++ rest)
patched_between front part rest new j n h =
    let end : length front + j + n ≡ length front + (j + n) = omega arith in
    let before = take-append-add front (part ++ rest) j ∙ ap (λ bytes. front ++ bytes) (take-append-le j part rest (omega arith)) in
    let after = drop-append-add front (part ++ rest) (j + n) ∙ drop-append-le (j + n) part rest h in
    rw (before, end, after) (simp append_assoc refl)

-- a part that is replaced as a whole
pub patched_whole : (front part rest new : List ℕ) → patched (front ++ (part ++ rest)) (length front) new (length part) ≡ front ++ (new ++ rest)
patched_whole front part rest new =
    let here : length front ≡ length front + 0 = omega arith in
    let end : 0 + length part ≡ length part = omega arith in
    let after : drop (0 + length part) part ≡ [] = drop_all (0 + length part) part (omega arith) in
    ap (λ k. patched (front ++ (part ++ rest)) k new (length part)) here
    ∙ patched_between front part rest new 0 (length part) (omega arith)
    ∙ ap (λ bytes. front ++ (new ++ bytes ++ rest)) after
    ∙ ap (λ bytes. front ++ (bytes ++ rest)) (append-nil new)
