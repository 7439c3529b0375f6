-- A page of an image, segment by segment.
use Rattle.std.proofs.Common.{ℕ, ◌≡◌, ◌⊎◌, inl, inr, ◌+◌, ◌-◌, ◌*◌, ◌/◌, ◌<◌, ◌≤◌, List, length, get_or, take, drop, max, min, refl, sym, ap, ◌∙◌, arith, length-take, length-drop, get_or-take, get_or-drop}
use Rattle.std.proofs.lemmas.List.{same_lists}
use Rattle.std.proofs.lemmas.Bool.{cases_lt}
use Rattle.word32.specs.Words.{patched}
use Rattle.elf32.specs.declared.image.Segment.{Segment}
use Rattle.elf32.specs.Images.{IsWithin}
use Rattle.machine.specs.Boot.{placed}
use Rattle.machine.specs.Board.{page_bytes}
use Rattle.machine.proofs.Pages.{Stored, length-page, page_place, same_page, patched_stored}

module _ (p at n : ℕ) (memory bytes : List ℕ) (long : length bytes ≡ n) (fits : at + n ≤ length memory) (inside : p * 4096 + 4096 ≤ length memory) where
  abbrev start : ℕ
  start = p * 4096

  abbrev first : ℕ
  first = max at start

  abbrev end : ℕ
  end = min (at + n) (start + 4096)

  abbrev part : List ℕ
  part = take (end - first) (drop (first - at) bytes)

  whole : length (page_bytes p memory) ≡ 4096
  whole = length-page p memory ∙ omega (arith, inside)

  after_memory : Stored memory (patched memory at bytes n) bytes at n
  after_memory = patched_stored memory bytes at n long fits

  whole_after : length (page_bytes p (patched memory at bytes n)) ≡ 4096
  whole_after = length-page p (patched memory at bytes n) ∙ omega (arith, inside, after_memory.size)

  -- a segment that has no byte in the page
  pub beside_page : end ≤ first → page_bytes p (patched memory at bytes n) ≡ page_bytes p memory
  beside_page h = same_page p memory (patched memory at bytes n) after_memory.size (λ k d is. after_memory.beside k d (by_place k is (cases_lt k at)))
    where
      by_place : (k : ℕ) → k / 4096 ≡ p → (k < at) ⊎ (at ≤ k) → (k < at) ⊎ (at + n ≤ k)
      by_place k is (inl before) = inl before
      by_place k is (inr from) = inr (omega (arith, h))

  module _ (h : first < end) where
    part_length : length part ≡ end - first
    part_length = length-take (end - first) (drop (first - at) bytes) ∙ omega (arith, h, long, length-drop (first - at) bytes)

    after_page : Stored (page_bytes p memory) (patched (page_bytes p memory) (first - start) part (end - first)) part (first - start) (end - first)
    after_page = patched_stored (page_bytes p memory) part (first - start) (end - first) part_length (omega (arith, h, whole))

    byte_inside : (k d : ℕ) → k < 4096 → first ≤ start + k → start + k < end
        → get_or (patched (page_bytes p memory) (first - start) part (end - first)) k d ≡ get_or (page_bytes p (patched memory at bytes n)) k d
    byte_inside k d below from before =
        let there : first - at + (k - (first - start)) ≡ start + k - at = omega (arith, h) in
        after_page.inside k d (omega (arith, h)) (omega (arith, h))
        ∙ get_or-take (end - first) (drop (first - at) bytes) (k - (first - start)) d (omega (arith, h))
        ∙ get_or-drop (first - at) bytes (k - (first - start)) d
        ∙ ap (λ (i : ℕ). get_or bytes i d) there
        ∙ sym (after_memory.inside (start + k) d (omega (arith, h)) (omega (arith, h)))
        ∙ sym (page_place p k d (patched memory at bytes n) below)

    byte_beside : (k d : ℕ) → k < 4096 → (start + k < first) ⊎ (end ≤ start + k)
        → get_or (patched (page_bytes p memory) (first - start) part (end - first)) k d ≡ get_or (page_bytes p (patched memory at bytes n)) k d
    byte_beside k d below apart =
        after_page.beside k d (in_page apart)
        ∙ page_place p k d memory below
        ∙ sym (after_memory.beside (start + k) d (in_memory apart))
        ∙ sym (page_place p k d (patched memory at bytes n) below)
      where
        in_page : (start + k < first) ⊎ (end ≤ start + k) → (k < first - start) ⊎ (first - start + (end - first) ≤ k)
        in_page (inl before) = inl (omega (arith, h))
        in_page (inr after) = inr (omega (arith, h))

        in_memory : (start + k < first) ⊎ (end ≤ start + k) → (start + k < at) ⊎ (at + n ≤ start + k)
        in_memory (inl before) = inl (omega (arith, h))
        in_memory (inr after) = inr (omega (arith, h))

    byte_same : (k d : ℕ) → k < 4096 → (start + k < first) ⊎ (first ≤ start + k) → (start + k < end) ⊎ (end ≤ start + k)
        → get_or (patched (page_bytes p memory) (first - start) part (end - first)) k d ≡ get_or (page_bytes p (patched memory at bytes n)) k d
    byte_same k d below (inl before) other = byte_beside k d below (inl before)
    byte_same k d below (inr from) (inl before) = byte_inside k d below from before
    byte_same k d below (inr from) (inr after) = byte_beside k d below (inr after)

    -- the bytes that a segment has in the page
    pub part_of_page : patched (page_bytes p memory) (first - start) part (end - first) ≡ page_bytes p (patched memory at bytes n)
    part_of_page =
        same_lists (patched (page_bytes p memory) (first - start) part (end - first)) (page_bytes p (patched memory at bytes n))
        (after_page.size ∙ whole ∙ sym whole_after)
        (λ k d below.
        let within : k < 4096 = omega (arith, after_page.size, whole) in
        byte_same k d within (cases_lt (start + k) first) (cases_lt (start + k) end))

module _ (p at first end limit : ℕ) (memory : List ℕ) (s : Segment) (above : at + 0x80000000 ≡ s.address) (begins : first ≡ max at (p * 4096))
    (ends : end ≡ min (min (at + length s.bytes.items) limit) (p * 4096 + 4096)) (far : p * 4096 + 4096 ≤ limit)
    (inside : p * 4096 + 4096 ≤ length memory) (within : IsWithin (length memory) s) where
  abbrev bytes : List ℕ
  bytes = s.bytes.items

  fits : at + length bytes ≤ length memory
  fits = omega (arith, above, within.file_part, within.end)

  same_end : min (at + length bytes) (p * 4096 + 4096) ≡ end
  same_end = omega (arith, ends, far)

  placed_at : patched memory at bytes (length bytes) ≡ placed memory s
  placed_at = ap (λ (a : ℕ). patched memory a bytes (length bytes)) (omega (arith, above))

  pub no_part : end ≤ first → page_bytes p memory ≡ page_bytes p (placed memory s)
  no_part h = sym (beside_page p at (length bytes) memory bytes refl fits inside (omega (arith, h, begins, same_end))) ∙ ap (page_bytes p) placed_at

  pub loaded_part : (part : List ℕ) → first < end → part ≡ take (end - at - (first - at)) (drop (first - at) bytes)
      → patched (page_bytes p memory) (first - p * 4096) part (length part) ≡ page_bytes p (placed memory s)
  loaded_part part h is =
      let count : end - at - (first - at) ≡ min (at + length bytes) (p * 4096 + 4096) - max at (p * 4096) = omega (arith, h, begins, same_end) in
      let from : first - at ≡ max at (p * 4096) - at = omega (arith, begins) in
      let place : first - p * 4096 ≡ max at (p * 4096) - p * 4096 = omega (arith, begins) in
      let this : part ≡ take (min (at + length bytes) (p * 4096 + 4096) - max at (p * 4096)) (drop (max at (p * 4096) - at) bytes) = is ∙ (λ i. take (count i) (drop (from i) bytes)) in
      let before : max at (p * 4096) < min (at + length bytes) (p * 4096 + 4096) = omega (arith, h, begins, same_end) in
      let long : length part ≡ min (at + length bytes) (p * 4096 + 4096) - max at (p * 4096) =
      ap length this ∙ part_length p at (length bytes) memory bytes refl fits inside before in
      (λ i. patched (page_bytes p memory) (place i) (this i) (long i))
      ∙ part_of_page p at (length bytes) memory bytes refl fits inside before
      ∙ ap (page_bytes p) placed_at
