-- The entries whose bytes some bytes are.
use Rattle.std.proofs.Common.{◌≡◌, ◌≢◌, ℕ, List, [], ◌∷◌, ◌++◌, length, take, drop, All, None, refl, sym, ap, ◌∙◌, append_assoc, append-nil}
use Rattle.std.specs.List.{AllByRecursion}
use Rattle.std.proofs.lemmas.List.{take-append-drop}
use Rattle.std.proofs.lemmas.List.Elements.{recursion_from_All, All-drop}
use Rattle.items.specs.declared.entry.Entry.{Entry}
use Rattle.items.specs.declared.entry.Entry.TheVariants as entry
use Rattle.logfile.specs.FileItems.{entry_bytes, body_bytes, IsFileEntry}
use Rattle.logfile.specs.Files.{HasEntries}
use Rattle.logfile.specs.Reading.{entry_at}
use Rattle.logfile.proofs.Numbers.{some_is}
use Rattle.logfile.proofs.Again.{entry_again}

-- an entry has bytes
entry_bytes-some : (e : Entry) (rest : List ℕ) → entry_bytes e ++ rest ≢ []
unfolding entry_bytes
entry_bytes-some (entry.Steps seat count) rest h = cc
entry_bytes-some (entry.One item) rest h = cc

-- bytes begin with one entry at most
pub same_entry : (x y : Entry) (r s : List ℕ) → IsFileEntry x → IsFileEntry y → entry_bytes x ++ r ≡ entry_bytes y ++ s → (x ≡ y) × (r ≡ s)
same_entry x y r s p q h = some_is (x, r) (y, s) (sym (entry_again x r p) ∙ ap entry_at h ∙ entry_again y s q)

-- entries whose bytes are the beginning of a body are the first of its entries
pub record IsBeginning (xs ys : List Entry) (rest : List ℕ) : Type 0 where
  pub first : ys ≡ take (length ys) xs
  pub behind : rest ≡ body_bytes (drop (length ys) xs)

beginning_by : (xs ys : List Entry) (rest : List ℕ) → AllByRecursion IsFileEntry xs → AllByRecursion IsFileEntry ys → body_bytes xs ≡ body_bytes ys ++ rest → IsBeginning xs ys rest
beginning_by xs [] rest p q h = record { first = refl; behind = sym h }
beginning_by [] (y ∷ ys) rest p q h = absurd (entry_bytes-some y (body_bytes ys ++ rest) (sym (append_assoc (entry_bytes y) (body_bytes ys) rest) ∙ sym h))
beginning_by (x ∷ xs) (y ∷ ys) rest p q h =
    let same = same_entry x y (body_bytes xs) (body_bytes ys ++ rest) p.0 q.0 (h ∙ append_assoc (entry_bytes y) (body_bytes ys) rest) in
    let others = beginning_by xs ys rest p.1 q.1 same.1 in
    record { first = cc (same.0, others.first); behind = others.behind }

pub beginning : (xs ys : List Entry) (rest : List ℕ) → All IsFileEntry xs → All IsFileEntry ys → body_bytes xs ≡ body_bytes ys ++ rest → IsBeginning xs ys rest
beginning xs ys rest p q = beginning_by xs ys rest (recursion_from_All IsFileEntry xs p) (recursion_from_All IsFileEntry ys q)

-- behind these entries stand bytes that begin with none
no_more : (rest : List ℕ) (zs : List Entry) → All IsFileEntry zs → entry_at rest ≡ None → rest ≢ [] → rest ≡ body_bytes zs → ⊥
no_more rest [] p h some is = some is
no_more rest (z ∷ zs) p h some is =
    let read = entry_again z (body_bytes zs) (recursion_from_All IsFileEntry (z ∷ zs) p).0 in
    let both = sym h ∙ ap entry_at is ∙ read in
    cc

pub no_entries : (file : List ℕ) (xs : List Entry) (rest : List ℕ) → All IsFileEntry xs → drop 40 file ≡ body_bytes xs ++ rest → entry_at rest ≡ None → rest ≢ [] → (entries : List Entry) → HasEntries file entries → ⊥
no_entries file xs rest p told h some entries has =
    let is = beginning entries xs rest has.each p (sym has.bytes ∙ told) in
    no_more rest (drop (length xs) entries) (All-drop IsFileEntry (length xs) entries has.each) h some is.behind

none_left : (zs : List Entry) → [] ≡ body_bytes zs → zs ≡ []
none_left [] h = refl
none_left (z ∷ zs) h = absurd (entry_bytes-some z (body_bytes zs) (sym h))

-- bytes are the body of one list of entries at most
pub same_entries : (xs ys : List Entry) → All IsFileEntry xs → All IsFileEntry ys → body_bytes xs ≡ body_bytes ys → xs ≡ ys
same_entries xs ys p q h =
    let is = beginning xs ys [] p q (h ∙ sym (append-nil (body_bytes ys))) in
    let none = none_left (drop (length ys) xs) is.behind in
    sym (take-append-drop (length ys) xs) ∙ ap (λ (l : List Entry). take (length ys) xs ++ l) none ∙ append-nil (take (length ys) xs) ∙ sym is.first
