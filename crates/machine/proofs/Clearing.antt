-- The bytes of memory before, in and after a page that is cleared.
use Rattle.std.proofs.Common.{ℕ, ◌≡◌, ◌⊎◌, inl, inr, ◌+◌, ◌-◌, ◌*◌, ◌/◌, ◌<◌, ◌≤◌, List, ◌++◌, length, get_or, take, drop, min, ap, sym, ◌∙◌, arith, length-append, length-take, length-drop, get_or-take}
use Rattle.std.proofs.lemmas.List.{same_lists, get_or_append_left, get_or-append_right, length-replicate}
use Rattle.std.proofs.lemmas.Bool.{cases_lt}
use Rattle.std.proofs.Math.ListN.{get_or-eq_default}
use Rattle.word32.specs.Zeros.{zeros}
use Rattle.machine.specs.Board.{page_bytes, page_cleared}
use Rattle.machine.proofs.Pages.{Stored, length-page, page_place, same_page, patched_place, patched_after}

pub length-zeros : (n : ℕ) → length (zeros n) ≡ n
unfolding zeros
length-zeros n = length-replicate n 0

module _ (page : ℕ) (old : List ℕ) where
  abbrev new : List ℕ
  new = zeros (length (page_bytes page old))

  abbrev after : List ℕ
  after = page_cleared page old

  long : length new ≡ min 4096 (length old - page * 4096)
  long = length-zeros (length (page_bytes page old)) ∙ length-page page old

  pub cleared_size : length (page_cleared page old) ≡ length old
  cleared_size =
      simp (length-append, length-take, length-drop, length-zeros) (omega arith)

  inside_by : (k d : ℕ) → page * 4096 ≤ k → k < page * 4096 + 4096 → (k - page * 4096 < length new) ⊎ (length new ≤ k - page * 4096) → get_or after k d ≡ get_or new (k - page * 4096) d
  inside_by k d from below (inl h) =
      patched_place old new (page * 4096) 4096 k d
      ∙ get_or-append_right (take (page * 4096) old) (new ++ drop (page * 4096 + 4096) old) (page * 4096) k d (omega (arith, long, length-take (page * 4096) old)) from
      ∙ get_or_append_left new (drop (page * 4096 + 4096) old) d (k - page * 4096) h
  inside_by k d from below (inr h) =
      get_or-eq_default after d (omega (arith, long, cleared_size)) ∙ sym (get_or-eq_default new d h)

  before_by : (k d : ℕ) → k < page * 4096 → (k < length old) ⊎ (length old ≤ k) → get_or after k d ≡ get_or old k d
  before_by k d before (inl h) =
      patched_place old new (page * 4096) 4096 k d
      ∙ get_or_append_left (take (page * 4096) old) (new ++ drop (page * 4096 + 4096) old) d k (omega (arith, length-take (page * 4096) old))
      ∙ get_or-take (page * 4096) old k d before
  before_by k d before (inr h) = get_or-eq_default after d (omega (arith, cleared_size)) ∙ sym (get_or-eq_default old d h)

  after_by : (k d : ℕ) → page * 4096 + 4096 ≤ k → (k < length old) ⊎ (length old ≤ k) → get_or after k d ≡ get_or old k d
  after_by k d beyond (inl h) = patched_after old new (page * 4096) 4096 k d (omega (arith, long)) (omega arith) beyond
  after_by k d beyond (inr h) = get_or-eq_default after d (omega (arith, cleared_size)) ∙ sym (get_or-eq_default old d h)

  beside_by : (k d : ℕ) → (k < page * 4096) ⊎ (page * 4096 + 4096 ≤ k) → get_or after k d ≡ get_or old k d
  beside_by k d (inl before) = before_by k d before (cases_lt k (length old))
  beside_by k d (inr beyond) = after_by k d beyond (cases_lt k (length old))

  pub cleared_stored : Stored old (page_cleared page old) (zeros (length (page_bytes page old))) (page * 4096) 4096
  cleared_stored = record {
    size = cleared_size;
    inside = λ k d from below. inside_by k d from below (cases_lt (k - page * 4096) (length new));
    beside = λ k d h. beside_by k d h;
  }

  -- the page is zeros, as many as memory has of it
  pub cleared_page : page_bytes page (page_cleared page old) ≡ zeros (length (page_bytes page old))
  cleared_page =
      let same_length : length (page_bytes page after) ≡ length (page_bytes page old) =
      length-page page after ∙ ap (λ (n : ℕ). min 4096 (n - page * 4096)) cleared_size ∙ sym (length-page page old) in
      same_lists (page_bytes page after) new (same_length ∙ sym (length-zeros (length (page_bytes page old)))) (λ k d h.
      let within : k < 4096 = omega (arith, length-page page after) in
      let back : page * 4096 + k - page * 4096 ≡ k = omega arith in
      page_place page k d after within
      ∙ cleared_stored.inside (page * 4096 + k) d (omega arith) (omega arith)
      ∙ ap (λ (i : ℕ). get_or new i d) back)

  beside_page : (other k : ℕ) → (other ≡ page → ⊥) → k / 4096 ≡ other → (k < page * 4096) ⊎ (page * 4096 ≤ k) → (k < page * 4096) ⊎ (page * 4096 + 4096 ≤ k)
  beside_page other k apart is (inl before) = inl before
  beside_page other k apart is (inr from) = inr (beyond (cases_lt k (page * 4096 + 4096)))
    where
      beyond : (k < page * 4096 + 4096) ⊎ (page * 4096 + 4096 ≤ k) → page * 4096 + 4096 ≤ k
      beyond (inl below) =
          let same : k / 4096 ≡ page = omega arith in
          absurd (apart (sym is ∙ same))
      beyond (inr h) = h

  -- each other page stays
  pub other_page_cleared : (other : ℕ) → (other ≡ page → ⊥) → page_bytes other (page_cleared page old) ≡ page_bytes other old
  other_page_cleared other apart =
      same_page other old after cleared_size (λ k d is. cleared_stored.beside k d (beside_page other k apart is (cases_lt k (page * 4096))))
