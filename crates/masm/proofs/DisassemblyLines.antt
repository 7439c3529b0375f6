-- The lines of the bytes of a segment.
use Rattle.std.proofs.Common.{◌≡◌, ℕ, false, List, [], ◌∷◌, ◌++◌, ◌+◌, ◌-◌, ◌^◌, ◌%◌, ◌<◌, ◌≤◌, refl, ap, sym, ◌∙◌, arith, length, get_or, drop, take, drop-cons, length-drop, add-one, append_assoc}
use Rattle.std.specs.Fmt.{digits, padded_integral, format_spec}
use Rattle.std.specs.Int.{from_le_bytes, w32}
use Rattle.std.proofs.Math.Seq.{take-length}
use Rattle.std.proofs.lemmas.Fmt as written
use Rattle.mips_instr.specs.Operands.{hex_byte}
use Rattle.masm.specs.Disassembly.{lines_at, byte_line, word_line}

-- what the formatter writes of a byte with two hexadecimal digits
pub two_digits : (n : ℕ) → n < 256 → padded_integral (format_spec 32 0 4 2 (2 ^ 64 - 1)) false [] (digits 16 false n) ≡ hex_byte n
two_digits n h = written.hex_byte false n h

-- addresses that are equal as words give the same lines
pub same_lines : (a b : ℕ) (xs : List ℕ) → a % 2 ^ 32 ≡ b % 2 ^ 32 → lines_at a xs ≡ lines_at b xs
same_lines a b [] e = refl
same_lines a b (x ∷ []) e = λ i. byte_line (e i) x ++ []
same_lines a b (x ∷ y ∷ []) e =
    let rest = same_lines (a + 1) (b + 1) (y ∷ []) (omega (arith, e)) in
    λ i. byte_line (e i) x ++ rest i
same_lines a b (x ∷ y ∷ z ∷ []) e =
    let rest = same_lines (a + 1) (b + 1) (y ∷ z ∷ []) (omega (arith, e)) in
    λ i. byte_line (e i) x ++ rest i
same_lines a b (x ∷ y ∷ z ∷ w ∷ more) e =
    let rest = same_lines (a + 4) (b + 4) more (omega (arith, e)) in
    λ i. word_line (e i) (from_le_bytes w32 (x ∷ y ∷ z ∷ w ∷ [])) ++ rest i

-- the first word's line, and those behind it
pub word_first : (a next x y z w : ℕ) (more : List ℕ) → a < 2 ^ 32 → next ≡ (a + 4) % 2 ^ 32 → lines_at a (x ∷ y ∷ z ∷ w ∷ more) ≡ word_line a (from_le_bytes w32 (x ∷ y ∷ z ∷ w ∷ [])) ++ lines_at next more
word_first a next x y z w more h n =
    let here : a % 2 ^ 32 ≡ a = omega (arith, h) in
    let rest = same_lines (a + 4) next more (omega (arith, n)) in
    λ i. word_line (here i) (from_le_bytes w32 (x ∷ y ∷ z ∷ w ∷ [])) ++ rest i

-- the first byte's line where no word is left, and those behind it
pub byte_first : (a next x : ℕ) (more : List ℕ) → a < 2 ^ 32 → next ≡ (a + 1) % 2 ^ 32 → length (x ∷ more) < 4 → lines_at a (x ∷ more) ≡ byte_line a x ++ lines_at next more
byte_first a next x [] h n few =
    let here : a % 2 ^ 32 ≡ a = omega (arith, h) in
    λ i. byte_line (here i) x ++ []
byte_first a next x (y ∷ []) h n few =
    let here : a % 2 ^ 32 ≡ a = omega (arith, h) in
    let rest = same_lines (a + 1) next (y ∷ []) (omega (arith, n)) in
    λ i. byte_line (here i) x ++ rest i
byte_first a next x (y ∷ z ∷ []) h n few =
    let here : a % 2 ^ 32 ≡ a = omega (arith, h) in
    let rest = same_lines (a + 1) next (y ∷ z ∷ []) (omega (arith, n)) in
    λ i. byte_line (here i) x ++ rest i
byte_first a next x (y ∷ z ∷ w ∷ more) h n few = absurd (omega (arith, few))

-- a text and the lines that are still to come, after one more line
one_more : (out new line rest left all : List ℕ) → new ≡ out ++ line → left ≡ line ++ rest → out ++ left ≡ all → new ++ rest ≡ all
one_more out new line rest left all n l e = ap (λ o. o ++ rest) n ∙ append_assoc out line rest ∙ ap (λ r. out ++ r) (sym l) ∙ e

-- the same of the byte at a place
pub byte_more : (a i : ℕ) (xs out new all : List ℕ) → a < 2 ^ 32 → i < length xs → length xs < 4 → new ≡ out ++ byte_line a (get_or xs i 0) → out ++ lines_at a (drop i xs) ≡ all → new ++ lines_at ((a + 1) % 2 ^ 32) (drop (i + 1) xs) ≡ all
byte_more a i xs out new all h at few n e =
    let here : drop i xs ≡ get_or xs i 0 ∷ drop (i + 1) xs = drop-cons xs i 0 at ∙ ap (λ k. get_or xs i 0 ∷ drop k xs) (sym (add-one i)) in
    let short : length (get_or xs i 0 ∷ drop (i + 1) xs) < 4 = omega (arith, length-drop (i + 1) xs) in
    one_more out new (byte_line a (get_or xs i 0)) (lines_at ((a + 1) % 2 ^ 32) (drop (i + 1) xs)) (lines_at a (drop i xs)) all n
    (ap (lines_at a) here ∙ byte_first a ((a + 1) % 2 ^ 32) (get_or xs i 0) (drop (i + 1) xs) h refl short) e

-- the same of the first word
pub word_more : (a word : ℕ) (xs out new all : List ℕ) → a < 2 ^ 32 → 4 ≤ length xs → word ≡ from_le_bytes w32 (get_or xs 0 0 ∷ get_or xs 1 0 ∷ get_or xs 2 0 ∷ get_or xs 3 0 ∷ []) → new ≡ out ++ word_line a word → out ++ lines_at a xs ≡ all → new ++ lines_at ((a + 4) % 2 ^ 32) (take (length xs - 4) (drop 4 xs)) ≡ all
word_more a word [] out new all h four w n e = absurd (omega (arith, four))
word_more a word (x ∷ []) out new all h four w n e = absurd (omega (arith, four))
word_more a word (x ∷ y ∷ []) out new all h four w n e = absurd (omega (arith, four))
word_more a word (x ∷ y ∷ z ∷ []) out new all h four w n e = absurd (omega (arith, four))
word_more a word (x ∷ y ∷ z ∷ v ∷ more) out new all h four w n e =
    let next = (a + 4) % 2 ^ 32 in
    let k : length (x ∷ y ∷ z ∷ v ∷ more) - 4 ≡ length more = omega arith in
    ap (λ r. new ++ lines_at next r) (ap (λ m. take m more) k ∙ take-length more)
    ∙ one_more out new (word_line a word) (lines_at next more) (lines_at a (x ∷ y ∷ z ∷ v ∷ more)) all n
    (word_first a next x y z v more h refl ∙ ap (λ m. word_line a m ++ lines_at next more) (sym w)) e
