-- A write inside one page leaves the bytes of every other page.
use Rattle.std.proofs.Common.{ℕ, ◌≡◌, ◌+◌, ◌-◌, ◌*◌, ◌%◌, ◌<◌, ◌≤◌, ◌⊎◌, inl, inr, List, ◌++◌, length, set, take, drop, sym, ap, ◌∙◌, arith, append_assoc, length-append, length-take-le, length-drop, take-append-drop, drop-drop, drop-set-lt}
use Rattle.std.proofs.lemmas.Bool.{cases_lt}
use Rattle.std.proofs.lemmas.List.{drop-append-le, take-append-le, drop-set-add, take-set-le}
use Rattle.std.proofs.Math.Seq.{drop-append-add}
use Rattle.byteorder.specs.Endian.{little_bytes}
use Rattle.byteorder.specs.Numbers.{length-bytes_low_first}
use Rattle.word32.specs.Pages.{page_number, page_offset}
use Rattle.word32.specs.Words.{patched, with_half, with_word}

-- what is cut out of the front of joined bytes
cut_front : (front rest : List ℕ) (k c : ℕ) → k + c ≤ length front → take c (drop k (front ++ rest)) ≡ take c (drop k front)
cut_front front rest k c h =
    ap (take c) (drop-append-le k front rest (omega arith)) ∙ take-append-le c (drop k front) rest (omega (arith, length-drop k front))

-- bytes that are replaced after the place, or before it, are not seen
cut_before : (bytes new : List ℕ) (i n k c : ℕ) → k + c ≤ i → i ≤ length bytes → take c (drop k (patched bytes i new n)) ≡ take c (drop k bytes)
cut_before bytes new i n k c h l =
    let fits : k + c ≤ length (take i bytes) = omega (arith, length-take-le i bytes l) in
    ap (λ b. take c (drop k b)) (append_assoc (take i bytes) new (drop (i + n) bytes))
    ∙ cut_front (take i bytes) (new ++ drop (i + n) bytes) k c fits
    ∙ sym (cut_front (take i bytes) (drop i bytes) k c fits)
    ∙ ap (λ b. take c (drop k b)) (take-append-drop i bytes)

cut_after : (bytes new : List ℕ) (i n k c : ℕ) → length new ≡ n → i + n ≤ k → i ≤ length bytes → take c (drop k (patched bytes i new n)) ≡ take c (drop k bytes)
cut_after bytes new i n k c w h l =
    let front = take i bytes ++ new in
    let long : length front ≡ i + n = omega (arith, length-append (take i bytes) new, length-take-le i bytes l, w) in
    let at : k ≡ length front + (k - (i + n)) = omega (arith, long) in
    let back : i + n + (k - (i + n)) ≡ k = omega arith in
    let swap : k - (i + n) + (i + n) ≡ k = omega arith in
    ap (λ j. take c (drop j (front ++ drop (i + n) bytes))) at
    ∙ ap (take c) (drop-append-add front (drop (i + n) bytes) (k - (i + n)))
    ∙ ap (take c) (drop-drop (k - (i + n)) (i + n) bytes)
    ∙ ap (λ j. take c (drop j bytes)) back

-- another page lies before the page of an address or after it
apart : (p at n : ℕ) → page_offset at + n ≤ 4096 → (p ≡ page_number at → ⊥) → (p * 4096 + 4096 ≤ at) ⊎ (at + n ≤ p * 4096)
apart p at n fits other = elim (cases_lt p (page_number at)) [
  | inl l ↦ inl (omega arith)
  | inr g ↦ inr (let more : page_number at < p = omega (arith, other) in omega arith)
]

other_page : (bytes new : List ℕ) (at n p : ℕ) → length new ≡ n → at ≤ length bytes → page_offset at + n ≤ 4096 → (p ≡ page_number at → ⊥)
    → take 4096 (drop (p * 4096) (patched bytes at new n)) ≡ take 4096 (drop (p * 4096) bytes)
other_page bytes new at n p w l fits other = elim (apart p at n fits other) [
  | inl h ↦ cut_before bytes new at n (p * 4096) 4096 h l
  | inr h ↦ cut_after bytes new at n (p * 4096) 4096 w h l
]

pub half_leaves_others : (bytes : List ℕ) (at half p : ℕ) → at ≤ length bytes → at % 2 ≡ 0 → (p ≡ page_number at → ⊥) → take 4096 (drop (p * 4096) (with_half bytes at half)) ≡ take 4096 (drop (p * 4096) bytes)
half_leaves_others bytes at half p l aligned other = other_page bytes (little_bytes 2 half) at 2 p (length-bytes_low_first 0 2 half) l (omega arith) other

pub word_leaves_others : (bytes : List ℕ) (at word p : ℕ) → at ≤ length bytes → at % 4 ≡ 0 → (p ≡ page_number at → ⊥) → take 4096 (drop (p * 4096) (with_word bytes at word)) ≡ take 4096 (drop (p * 4096) bytes)
word_leaves_others bytes at word p l aligned other = other_page bytes (little_bytes 4 word) at 4 p (length-bytes_low_first 0 4 word) l (omega arith) other

pub byte_leaves_others : (bytes : List ℕ) (at byte p : ℕ) → (p ≡ page_number at → ⊥) → take 4096 (drop (p * 4096) (set bytes at byte)) ≡ take 4096 (drop (p * 4096) bytes)
byte_leaves_others bytes at byte p other = elim (apart p at 1 (omega arith) other) [
  | inl h ↦
      let here : at ≡ p * 4096 + (at - p * 4096) = omega arith in
      ap (λ k. take 4096 (drop (p * 4096) (set bytes k byte))) here
      ∙ ap (take 4096) (drop-set-add (p * 4096) bytes (at - p * 4096) byte)
      ∙ take-set-le 4096 (drop (p * 4096) bytes) (at - p * 4096) byte (omega arith)
  | inr h ↦ ap (take 4096) (drop-set-lt (p * 4096) bytes at byte (omega arith))
]
