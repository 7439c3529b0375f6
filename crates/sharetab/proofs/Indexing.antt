-- The index of the entries by digest.
use Rattle.std.proofs.Common.{ℕ, ◌≡◌, ◌<◌, ◌⊎◌, inl, inr, List, length, set, replicate, Option, Some, None, refl, sym, ap, subst, ◌∙◌}
use Rattle.std.proofs.lemmas.Bool.{cases_eq}
use Rattle.std.proofs.lemmas.List.{get_or-set_same, get_or-set_other}
use Rattle.sha2.specs.Sha256.{sha256}
use Rattle.frames.specs.Frames.{SharedIs}
use Rattle.sharetab.specs.Maps.{at_digest}
use Rattle.sharetab.specs.Entries.{entry_at, HasBytes, IsOfDigest, HasDigest, OneEntryEach}
use Rattle.sharetab.specs.Shares.{Indexes}
use Rattle.sharetab.proofs.Keys.{some_same, none_is_not_some, digest_cases}
use Rattle.sharetab.proofs.Tables.{none_at, there}

pub indexes_none : (n : ℕ) (h : List (List ℕ × ℕ)) → ((d : List ℕ) → at_digest h d ≡ None) → Indexes (replicate n None) h
indexes_none n h none = record {
  there = λ k d of. absurd (subst (IsOfDigest d) (none_at n k) of);
  back = λ k d at. absurd (none_is_not_some (at_digest h d) k (none d) at);
}

pub one_entry_each : (es : List (Option SharedIs)) (h : List (List ℕ × ℕ)) → Indexes es h → OneEntryEach es
one_entry_each es h i d j k of_j of_k = some_same j k (sym (i.there j d of_j) ∙ i.there k d of_k)

-- ---- what a search by digest tells

some_of_digest : (o : Option SharedIs) (d : List ℕ) → IsOfDigest d o → (e : SharedIs) × (o ≡ Some e)
some_of_digest None d of = absurd of
some_of_digest (Some e) d of = (e, refl)

pub entry_of : (es : List (Option SharedIs)) (h : List (List ℕ × ℕ)) (d : List ℕ) (k : ℕ) → Indexes es h → at_digest h d ≡ Some k → (e : SharedIs) × (entry_at es k ≡ Some e)
entry_of es h d k i at = some_of_digest (entry_at es k) d (i.back k d at)

pub digest_of_bytes : (bytes : List ℕ) (o : Option SharedIs) → HasBytes bytes o → IsOfDigest (sha256 bytes) o
digest_of_bytes bytes None has = has
digest_of_bytes bytes (Some e) has = ap sha256 has

-- where the digest of bytes finds no entry, none has the bytes
pub none_has : (es : List (Option SharedIs)) (h : List (List ℕ × ℕ)) (bytes : List ℕ) → Indexes es h → at_digest h (sha256 bytes) ≡ None → (k : ℕ) → HasBytes bytes (entry_at es k) → ⊥
none_has es h bytes i none k has = none_is_not_some (at_digest h (sha256 bytes)) k none (i.there k (sha256 bytes) (digest_of_bytes bytes (entry_at es k) has))

-- nor where the entry that it finds has other bytes
pub no_other_has : (es : List (Option SharedIs)) (h : List (List ℕ × ℕ)) (bytes : List ℕ) (n : ℕ) → Indexes es h → at_digest h (sha256 bytes) ≡ Some n → (HasBytes bytes (entry_at es n) → ⊥) → (k : ℕ) → HasBytes bytes (entry_at es k) → ⊥
no_other_has es h bytes n i at other k has =
    let same : k ≡ n = some_same k n (sym (i.there k (sha256 bytes) (digest_of_bytes bytes (entry_at es k) has)) ∙ at) in
    other (subst (λ (m : ℕ). HasBytes bytes (entry_at es m)) same has)

-- ---- changes

-- what a changed place and the others tell of a digest
digest_in : (es : List (Option SharedIs)) (k : ℕ) (x : Option SharedIs) (d : List ℕ) (o : ℕ) → k < length es → IsOfDigest d (entry_at (set es k x) o) → ((o ≡ k) × IsOfDigest d x) ⊎ ((o ≡ k → ⊥) × IsOfDigest d (entry_at es o))
digest_in es k x d o inside of =
    elim (cases_eq o k) [
      | inl same ↦ inl (same, subst (IsOfDigest d) (ap (entry_at (set es k x)) same ∙ get_or-set_same es k x None inside) of)
      | inr apart ↦ inr (apart, subst (IsOfDigest d) (get_or-set_other es k o x None apart) of)
    ]

digest_here : (es : List (Option SharedIs)) (k : ℕ) (x : Option SharedIs) (d : List ℕ) (o : ℕ) → k < length es → o ≡ k → IsOfDigest d x → IsOfDigest d (entry_at (set es k x) o)
digest_here es k x d o inside same of = subst (IsOfDigest d) (sym (ap (entry_at (set es k x)) same ∙ get_or-set_same es k x None inside)) of

digest_other : (es : List (Option SharedIs)) (k : ℕ) (x : Option SharedIs) (d : List ℕ) (o : ℕ) → (o ≡ k → ⊥) → IsOfDigest d (entry_at es o) → IsOfDigest d (entry_at (set es k x) o)
digest_other es k x d o apart of = subst (IsOfDigest d) (sym (get_or-set_other es k o x None apart)) of

-- an entry is replaced by one of the same bytes
pub indexes_same : (es : List (Option SharedIs)) (k : ℕ) (x y : SharedIs) (h : List (List ℕ × ℕ)) → Indexes es h → entry_at es k ≡ Some x → y.bytes ≡ x.bytes → Indexes (set es k (Some y)) h
indexes_same es k x y h i at same = record { there = there_by; back = λ o d found. back_by o d found (cases_eq o k) }
  where
    inside : k < length es
    inside = there es k x at

    there_by : (o : ℕ) (d : List ℕ) → IsOfDigest d (entry_at (set es k (Some y)) o) → at_digest h d ≡ Some o
    there_by o d of =
        elim (digest_in es k (Some y) d o inside of) [
          | inl here ↦ i.there k d (subst (IsOfDigest d) (sym at) (ap sha256 (sym same) ∙ here.1)) ∙ ap Some (sym here.0)
          | inr other ↦ i.there o d other.1
        ]

    back_by : (o : ℕ) (d : List ℕ) → at_digest h d ≡ Some o → (o ≡ k) ⊎ (o ≡ k → ⊥) → IsOfDigest d (entry_at (set es k (Some y)) o)
    back_by o d found (inl here) =
        let of_x : IsOfDigest d (Some x) = subst (IsOfDigest d) (ap (entry_at es) here ∙ at) (i.back o d found) in
        digest_here es k (Some y) d o inside here (ap sha256 same ∙ of_x)
    back_by o d found (inr apart) = digest_other es k (Some y) d o apart (i.back o d found)

-- an entry of a digest that had none comes to a vacant place
pub indexes_put : (es : List (Option SharedIs)) (k : ℕ) (y : SharedIs) (h h' : List (List ℕ × ℕ)) → Indexes es h → k < length es → entry_at es k ≡ None → (HasDigest es (sha256 y.bytes) → ⊥)
    → at_digest h' (sha256 y.bytes) ≡ Some k → ((d : List ℕ) → (d ≡ sha256 y.bytes → ⊥) → at_digest h' d ≡ at_digest h d) → Indexes (set es k (Some y)) h'
indexes_put es k y h h' i inside vacant first here others = record { there = there_by; back = λ o d found. back_by o d found (digest_cases d (sha256 y.bytes)) }
  where
    there_by : (o : ℕ) (d : List ℕ) → IsOfDigest d (entry_at (set es k (Some y)) o) → at_digest h' d ≡ Some o
    there_by o d of =
        elim (digest_in es k (Some y) d o inside of) [
          | inl mine ↦ ap (at_digest h') (sym mine.1) ∙ here ∙ ap Some (sym mine.0)
          | inr other ↦ others d (λ same. first (o, subst (λ (e : List ℕ). IsOfDigest e (entry_at es o)) same other.1)) ∙ i.there o d other.1
        ]

    back_by : (o : ℕ) (d : List ℕ) → at_digest h' d ≡ Some o → (d ≡ sha256 y.bytes) ⊎ (d ≡ sha256 y.bytes → ⊥) → IsOfDigest d (entry_at (set es k (Some y)) o)
    back_by o d found (inl same) =
        let is : o ≡ k = some_same o k (sym found ∙ ap (at_digest h') same ∙ here) in
        digest_here es k (Some y) d o inside is (sym same)
    back_by o d found (inr apart) =
        let old : IsOfDigest d (entry_at es o) = i.back o d (sym (others d apart) ∙ found) in
        digest_other es k (Some y) d o (λ is. absurd (subst (IsOfDigest d) (ap (entry_at es) is ∙ vacant) old)) old

-- a digest that no entry has is taken out of the index again
pub indexes_restored : (es : List (Option SharedIs)) (d : List ℕ) (h h' : List (List ℕ × ℕ)) → Indexes es h → (HasDigest es d → ⊥)
    → at_digest h' d ≡ None → ((e : List ℕ) → (e ≡ d → ⊥) → at_digest h' e ≡ at_digest h e) → Indexes es h'
indexes_restored es d h h' i none here others = record {
  there = λ k e of. others e (λ same. none (k, subst (λ (x : List ℕ). IsOfDigest x (entry_at es k)) same of)) ∙ i.there k e of;
  back = λ k e found. i.back k e (sym (others e (λ same. none_is_not_some (at_digest h' e) k (ap (at_digest h') same ∙ here) found)) ∙ found);
}

-- an entry goes, and its digest with it
pub indexes_gone : (es : List (Option SharedIs)) (k : ℕ) (x : SharedIs) (h h' : List (List ℕ × ℕ)) → Indexes es h → entry_at es k ≡ Some x
    → at_digest h' (sha256 x.bytes) ≡ None → ((d : List ℕ) → (d ≡ sha256 x.bytes → ⊥) → at_digest h' d ≡ at_digest h d) → Indexes (set es k None) h'
indexes_gone es k x h h' i at here others = record { there = there_by; back = λ o d found. back_by o d found (digest_cases d (sha256 x.bytes)) }
  where
    inside : k < length es
    inside = there es k x at

    mine : at_digest h (sha256 x.bytes) ≡ Some k
    mine = let of_x : IsOfDigest (sha256 x.bytes) (Some x) = refl in i.there k (sha256 x.bytes) (subst (IsOfDigest (sha256 x.bytes)) (sym at) of_x)

    there_by : (o : ℕ) (d : List ℕ) → IsOfDigest d (entry_at (set es k None) o) → at_digest h' d ≡ Some o
    there_by o d of =
        elim (digest_in es k None d o inside of) [
          | inl here ↦ absurd here.1
          | inr other ↦ others d (λ same. other.0 (some_same o k (sym (i.there o d other.1) ∙ ap (at_digest h) same ∙ mine))) ∙ i.there o d other.1
        ]

    back_by : (o : ℕ) (d : List ℕ) → at_digest h' d ≡ Some o → (d ≡ sha256 x.bytes) ⊎ (d ≡ sha256 x.bytes → ⊥) → IsOfDigest d (entry_at (set es k None) o)
    back_by o d found (inl same) = absurd (none_is_not_some (at_digest h' d) o (ap (at_digest h') same ∙ here) found)
    back_by o d found (inr apart) =
        let old : IsOfDigest d (entry_at es o) = i.back o d (sym (others d apart) ∙ found) in
        digest_other es k None d o (λ is. apart (sym (subst (IsOfDigest d) (ap (entry_at es) is ∙ at) old))) old
