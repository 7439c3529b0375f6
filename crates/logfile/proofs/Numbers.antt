-- Numbers and bytes at the front of other bytes.
use Rattle.std.proofs.Common.{◌≡◌, ℕ, zero, suc, ◌+◌, ◌<◌, ◌^◌, Bool, true, false, cond, nat_lt, List, [], ◌∷◌, ◌++◌, length, take, drop, get_or, Some, None, refl, sym, ap, ◌∙◌, subst, lit<, arith}
use Rattle.std.specs.Int.{from_le_bytes, w16, w32}
use Rattle.std.proofs.lemmas.Nat.{le_bytes_2, le_bytes_4}
use Rattle.std.proofs.lemmas.Bool.{ltb-false, le-ltb}
use Rattle.std.proofs.lemmas.List.{take-append-drop, length-take-le, get_or-drop, length-append}
use Rattle.std.proofs.Math.Seq.{take-append_seam, drop-append_seam}
use Rattle.logfile.specs.FileItems.{half, word}
use Rattle.logfile.specs.Reading.{Read, ◌>>=◌, byte_at, half_at, word_at, bytes_at}

abbrev pub IsBytes : List ℕ → Type 0
IsBytes bytes = (i : ℕ) → get_or bytes i 0 < 256

pub drop_fits : (n : ℕ) (bytes : List ℕ) → IsBytes bytes → IsBytes (drop n bytes)
drop_fits n bytes fits i = rw get_or-drop (fits (n + i))

-- the bytes are these, and then those
pub record Splits (bytes front rest : List ℕ) : Type 0 where
  pub split : bytes ≡ front ++ rest
  pub more : IsBytes rest

pub bind_some : {A B : Type 0} (r : Read A) (next : A × List ℕ → Read B) (y : B × List ℕ) → (r >>= next) ≡ Some y → (x : A × List ℕ) × (r ≡ Some x) × (next x ≡ Some y)
bind_some (Some x) next y h = (x, refl, h)
bind_some None next y h = cc

pub guard_some : {A : Type 0} (b : Bool) (x y : A × List ℕ) → cond b None (Some x) ≡ Some y → (b ≡ false) × (x ≡ y)
guard_some true x y h = cc
guard_some false x y h = (refl, cc)

guarded : {A : Type 0} (b : Bool) (x y : A × List ℕ) → b ≡ false → x ≡ y → cond b None (Some x) ≡ Some y
guarded true x y h p = cc
guarded false x y h p = cc

pair_is : {A : Type 0} (x y : A) (r s : List ℕ) → x ≡ y → r ≡ s → ◌≡◌ {A = A × List ℕ} (x, r) (y, s)
pair_is x y r s p q = cc

pub some_is : {A : Type 0} (x y : A × List ℕ) (e : ◌≡◌ {A = Read A} (Some x) (Some y)) → (x.0 ≡ y.0) × (x.1 ≡ y.1)
some_is {A = A} x y e =
    let same : x ≡ y = cc in
    (ap (λ (p : A × List ℕ). p.0) same, ap (λ (p : A × List ℕ). p.1) same)

pub word_again : (n : ℕ) (rest : List ℕ) → n < 2 ^ 32 → word_at (word n ++ rest) ≡ Some (n, rest)
word_again n rest h =
    guarded _ _ _ (le-ltb (length (word n ++ rest)) 4 (omega arith)) (pair_is _ _ _ _ (omega arith) refl)

pub half_again : (n : ℕ) (rest : List ℕ) → n < 2 ^ 16 → half_at (half n ++ rest) ≡ Some (n, rest)
half_again n rest h =
    guarded _ _ _ (le-ltb (length (half n ++ rest)) 2 (omega arith)) (pair_is _ _ _ _ (omega arith) refl)

pub bytes_again : (bytes rest : List ℕ) → bytes_at (length bytes) (bytes ++ rest) ≡ Some (bytes, rest)
bytes_again bytes rest =
    guarded _ _ _ (le-ltb (length (bytes ++ rest)) (length bytes) (omega (arith, length-append bytes rest))) (pair_is _ _ _ _ (take-append_seam bytes rest) (drop-append_seam bytes rest))

pub byte_taken : (bytes : List ℕ) (byte : ℕ) (rest : List ℕ) → IsBytes bytes → byte_at bytes ≡ Some (byte, rest) → Splits bytes (byte ∷ []) rest × (byte < 256)
byte_taken [] byte rest fits h = cc
byte_taken (b ∷ bs) byte rest fits h =
    let same = some_is (b, bs) (byte, rest) h in
    (record { split = cc; more = rw (← same.1) (λ i. fits (suc i)) }, rw (← same.0) (fits 0))

-- what is left when n bytes are taken
dropped : (n : ℕ) (bytes front rest : List ℕ) → IsBytes bytes → front ≡ take n bytes → drop n bytes ≡ rest → Splits bytes front rest
dropped n bytes front rest fits same behind = record {
  split = sym (take-append-drop n bytes) ∙ cc;
  more = rw (← behind) (drop_fits n bytes fits);
}

pub take_fits : (n : ℕ) (bytes : List ℕ) → IsBytes bytes → IsBytes (take n bytes)
take_fits zero bytes fits i = lit< tt
take_fits (suc n) [] fits i = lit< tt
take_fits (suc n) (b ∷ bs) fits zero = fits 0
take_fits (suc n) (b ∷ bs) fits (suc i) = take_fits n bs (λ k. fits (suc k)) i

pub word_taken : (bytes : List ℕ) (n : ℕ) (rest : List ℕ) → IsBytes bytes → word_at bytes ≡ Some (n, rest) → Splits bytes (word n) rest × (n < 2 ^ 32)
word_taken bytes n rest fits h =
    let parts = guard_some (nat_lt (length bytes) 4) (from_le_bytes w32 (take 4 bytes), drop 4 bytes) (n, rest) h in
    let value = ap (λ (p : ℕ × List ℕ). p.0) parts.1 in
    let behind = ap (λ (p : ℕ × List ℕ). p.1) parts.1 in
    let f = take_fits 4 bytes fits in
    let many = length-take-le 4 bytes (ltb-false (length bytes) 4 parts.0) in
    (dropped 4 bytes (word n) rest fits (le_bytes_4 (take 4 bytes) n many f (sym value)) behind, omega (arith, f 0, f 1, f 2, f 3))

pub half_taken : (bytes : List ℕ) (n : ℕ) (rest : List ℕ) → IsBytes bytes → half_at bytes ≡ Some (n, rest) → Splits bytes (half n) rest × (n < 2 ^ 16)
half_taken bytes n rest fits h =
    let parts = guard_some (nat_lt (length bytes) 2) (from_le_bytes w16 (take 2 bytes), drop 2 bytes) (n, rest) h in
    let value = ap (λ (p : ℕ × List ℕ). p.0) parts.1 in
    let behind = ap (λ (p : ℕ × List ℕ). p.1) parts.1 in
    let f = take_fits 2 bytes fits in
    let many = length-take-le 2 bytes (ltb-false (length bytes) 2 parts.0) in
    (dropped 2 bytes (half n) rest fits (le_bytes_2 (take 2 bytes) n many f (sym value)) behind, omega (arith, f 0, f 1))

pub bytes_taken : (count : ℕ) (bytes front rest : List ℕ) → IsBytes bytes → bytes_at count bytes ≡ Some (front, rest) → Splits bytes front rest × (length front ≡ count) × IsBytes front
bytes_taken count bytes front rest fits h =
    let parts = guard_some (nat_lt (length bytes) count) (take count bytes, drop count bytes) (front, rest) h in
    let same = ap (λ (p : List ℕ × List ℕ). p.0) parts.1 in
    let behind = ap (λ (p : List ℕ × List ℕ). p.1) parts.1 in
    let many = length-take-le count bytes (ltb-false (length bytes) count parts.0) in
    (dropped count bytes front rest fits (sym same) behind, ap length (sym same) ∙ many, subst IsBytes same (take_fits count bytes fits))
