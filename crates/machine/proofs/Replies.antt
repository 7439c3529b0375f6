-- The bytes that are read, one by one.
use Rattle.std.proofs.Common.{ℕ, zero, suc, ◌≡◌, ◌+◌, ◌%◌, ◌^◌, ◌<◌, ◌≤◌, ◌⊎◌, inl, inr, List, [], ◌∷◌, ◌++◌, length, get_or, take, Option, Some, None, refl, sym, ap, subst, ◌∙◌, arith, add-one, length-append}
use Rattle.std.proofs.Math.Seq.{take-suc, get_or-append_seam}
use Rattle.std.proofs.lemmas.List.{take_all, get_or_append_left}
use Rattle.std.proofs.lemmas.Bool.{cases_lt}
use Rattle.machine.specs.Step.{Machine}
use Rattle.machine.specs.Replies.{byte_at, with_next, bytes_at}

-- the address of byte k
abbrev pub moved : ℕ → ℕ → ℕ
moved address k = (address + k) % 2 ^ 32

within_or_next : (k n : ℕ) → k ≤ suc n → (k ≤ n) ⊎ (k ≡ suc n)
within_or_next k n h = go (cases_lt n k)
  where
    go : (n < k) ⊎ (k ≤ n) → (k ≤ n) ⊎ (k ≡ suc n)
    go (inl above) = inr (omega arith)
    go (inr within) = inl within

below_or_last : (k n : ℕ) → k < suc n → (k < n) ⊎ (k ≡ n)
below_or_last k n h = go (cases_lt k n)
  where
    go : (k < n) ⊎ (n ≤ k) → (k < n) ⊎ (k ≡ n)
    go (inl below) = inl below
    go (inr above) = inr (omega arith)

pub one_more : (m : Machine) (address k : ℕ) → bytes_at m address (k + 1) ≡ with_next (bytes_at m address k) (byte_at m (moved address k))
one_more m address k = rw add-one refl

-- where some bytes have no place, more of them have none
next_none : (m : Machine) (address k n : ℕ) → (k ≤ n → bytes_at m address n ≡ None) → bytes_at m address k ≡ None → (k ≤ n) ⊎ (k ≡ suc n) → bytes_at m address (suc n) ≡ None
next_none m address k n before e (inl within) = ap (λ (bytes : Option (List ℕ)). with_next bytes (byte_at m (moved address n))) (before within)
next_none m address k n before e (inr same) = subst (λ (j : ℕ). bytes_at m address j ≡ None) same e

pub none_more : (m : Machine) (address k n : ℕ) → k ≤ n → bytes_at m address k ≡ None → bytes_at m address n ≡ None
none_more m address k zero h e =
    let none : k ≡ 0 = omega arith in
    subst (λ (j : ℕ). bytes_at m address j ≡ None) none e
none_more m address k (suc n) h e = next_none m address k n (λ within. none_more m address k n within e) e (within_or_next k n h)

-- the bytes before the last, and the last
parts : (before : Option (List ℕ)) (last : Option ℕ) (bytes : List ℕ) → with_next before last ≡ Some bytes
    → (start : List ℕ) × (byte : ℕ) × (before ≡ Some start) × (last ≡ Some byte) × (bytes ≡ start ++ byte ∷ [])
parts None last bytes e = absurd (cc)
parts (Some start) None bytes e = absurd (cc)
parts (Some start) (Some byte) bytes e = (start, byte, refl, refl, cc)

no_bytes : (bytes : List ℕ) → Some [] ≡ Some bytes → length bytes ≡ 0
no_bytes [] e = refl
no_bytes (byte ∷ bytes) e = absurd (cc)

pub read_length : (m : Machine) (address count : ℕ) (bytes : List ℕ) → bytes_at m address count ≡ Some bytes → length bytes ≡ count
read_length m address zero bytes e = no_bytes bytes e
read_length m address (suc n) bytes e =
    let p = parts (bytes_at m address n) (byte_at m (moved address n)) bytes e in
    let before : length p.0 ≡ n = read_length m address n p.0 p.2 in
    ap length p.4 ∙ length-append p.0 (p.1 ∷ []) ∙ omega arith

last_byte : (start : List ℕ) (byte n : ℕ) → length start ≡ n → get_or (start ++ byte ∷ []) n 0 ≡ byte
last_byte start byte n e = subst (λ (j : ℕ). get_or (start ++ byte ∷ []) j 0 ≡ byte) e (get_or-append_seam start byte [] 0)

-- one of the bytes before, or the last
read_next : (m : Machine) (address n k : ℕ) (start bytes : List ℕ) (byte : ℕ) → length start ≡ n → byte_at m (moved address n) ≡ Some byte → bytes ≡ start ++ byte ∷ []
    → (k < n → byte_at m (moved address k) ≡ Some (get_or start k 0)) → (k < n) ⊎ (k ≡ n) → byte_at m (moved address k) ≡ Some (get_or bytes k 0)
read_next m address n k start bytes byte size last all before (inl below) =
    before below
    ∙ ap Some (sym (get_or_append_left start (byte ∷ []) 0 k (omega arith)))
    ∙ ap (λ (xs : List ℕ). Some (get_or xs k 0)) (sym all)
read_next m address n k start bytes byte size last all before (inr same) =
    ap (λ (j : ℕ). byte_at m (moved address j)) same
    ∙ last
    ∙ ap Some (sym (last_byte start byte k (size ∙ sym same)))
    ∙ ap (λ (xs : List ℕ). Some (get_or xs k 0)) (sym all)

-- each byte is the one at its address
pub read_byte : (m : Machine) (address count k : ℕ) (bytes : List ℕ) → bytes_at m address count ≡ Some bytes → k < count → byte_at m (moved address k) ≡ Some (get_or bytes k 0)
read_byte m address zero k bytes e h = absurd (omega arith)
read_byte m address (suc n) k bytes e h =
    let p = parts (bytes_at m address n) (byte_at m (moved address n)) bytes e in
    read_next m address n k p.0 bytes p.1 (read_length m address n p.0 p.2) p.3 p.4 (λ below. read_byte m address n k p.0 p.2 below) (below_or_last k n h)

-- bytes that are at their addresses are what is read
read_some : (m : Machine) (address : ℕ) (bytes : List ℕ) (count : ℕ) → count ≤ length bytes → ((k : ℕ) → k < count → byte_at m (moved address k) ≡ Some (get_or bytes k 0)) → bytes_at m address count ≡ Some (take count bytes)
read_some m address bytes zero h each = refl
read_some m address bytes (suc n) h each =
    let before = read_some m address bytes n (omega arith) (λ k below. each k (omega arith)) in
    rw (before, each n (omega arith)) (ap Some (sym (take-suc bytes n 0 (omega arith))))

pub read_whole : (m : Machine) (address : ℕ) (bytes : List ℕ) → ((k : ℕ) → k < length bytes → byte_at m (moved address k) ≡ Some (get_or bytes k 0)) → bytes_at m address (length bytes) ≡ Some bytes
read_whole m address bytes each = read_some m address bytes (length bytes) (omega arith) each ∙ ap Some (take_all (length bytes) bytes (omega arith))
