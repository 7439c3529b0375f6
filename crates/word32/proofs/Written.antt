-- A word that was written, and the words beside it.
use Rattle.std.proofs.Common.{ℕ, ◌≡◌, ◌+◌, ◌-◌, ◌<◌, ◌≤◌, ◌^◌, ◌⊎◌, inl, inr, List, ◌++◌, length, take, drop, sym, ◌∙◌, ap, arith, append_assoc, length-append, length-take, length-drop}
use Rattle.std.proofs.lemmas.List.{drop-append-le, drop_at, drop-drop, take-append-drop}
use Rattle.std.proofs.Math.Seq.{drop-append-add}
use Rattle.byteorder.specs.Endian.{little_number, little_bytes}
use Rattle.byteorder.specs.Numbers.{little_from-append, little_number-reads_back, length-bytes_low_first}
use Rattle.word32.specs.Words.{word_in, with_word}

pub word_in_with_word : (bytes : List ℕ) (i word : ℕ) → i + 4 ≤ length bytes → word < 2 ^ 32 → word_in (with_word bytes i word) i ≡ word
word_in_with_word bytes i word h l =
    let new = little_bytes 4 word in
    let rest = drop (i + 4) bytes in
    let fits : length (take i bytes) ≡ i = simp length-take (omega arith) in
    ap (λ (b : List ℕ). little_number 4 (drop i b)) (append_assoc (take i bytes) new rest)
    ∙ ap (little_number 4) (drop_at (take i bytes) (new ++ rest) i fits)
    ∙ little_number-reads_back 4 word rest l

-- what stands before the word is read as before
before : (bytes rest : List ℕ) (i j : ℕ) → j + 4 ≤ i → i ≤ length bytes → word_in (take i bytes ++ rest) j ≡ little_number 4 (drop j (take i bytes))
before bytes rest i j h l =
    let fits : length (take i bytes) ≡ i = simp length-take (omega arith) in
    ap (little_number 4) (drop-append-le j (take i bytes) rest (omega arith))
    ∙ little_from-append 4 (drop j (take i bytes)) rest (omega (arith, length-drop j (take i bytes)))

pub word_in_with_other : (bytes : List ℕ) (i j word : ℕ) → i + 4 ≤ length bytes → j + 4 ≤ length bytes → (i + 4 ≤ j) ⊎ (j + 4 ≤ i) → word_in (with_word bytes i word) j ≡ word_in bytes j
word_in_with_other bytes i j word h k (inl past) =
    let front = take i bytes ++ little_bytes 4 word in
    let rest = drop (i + 4) bytes in
    let n = j - (i + 4) in
    let fits : length front ≡ i + 4 = simp (length-append, length-take, length-bytes_low_first) (omega arith) in
    let at : j ≡ length front + n = omega arith in
    let back : i + 4 + n ≡ j = omega arith in
    ap (λ (p : ℕ). word_in (front ++ rest) p) at
    ∙ ap (little_number 4) (drop-append-add front rest n)
    ∙ ap (little_number 4) (drop-drop n (i + 4) bytes)
    ∙ ap (word_in bytes) back
word_in_with_other bytes i j word h k (inr below) =
    let new = little_bytes 4 word in
    let rest = drop (i + 4) bytes in
    ap (λ (b : List ℕ). word_in b j) (append_assoc (take i bytes) new rest)
    ∙ before bytes (new ++ rest) i j below (omega arith)
    ∙ sym (before bytes (drop i bytes) i j below (omega arith))
    ∙ ap (λ (b : List ℕ). word_in b j) (take-append-drop i bytes)
