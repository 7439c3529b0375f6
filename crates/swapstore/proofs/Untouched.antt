-- Slots that were not reached yet.
use Rattle.std.proofs.Common.{◌≡◌, ℕ, ◌-◌, ◌<◌, ◌≤◌, List, [], ◌∷◌, ◌++◌, length, replicate, slice_set, arith, ap, sym, ◌∙◌}
use Rattle.std.proofs.lemmas.List.{places, same_lists, set-append_left, length-set}
use Rattle.word32.specs.Zeros.{zeros}
use Rattle.swapstore.specs.Memories.{StoredIs, whole, stored_at, with_untouched}

-- one page more, of zeros
pub one_more : (pages : List StoredIs) (slots : ℕ) → length pages < slots → with_untouched (pages ++ whole (zeros 4096) ∷ []) slots ≡ with_untouched pages slots
one_more pages slots inside = same_lists _ _ (grind (arith, places)) (λ k d h. grind (arith, places))

-- how many slots there are
pub count : (pages : List StoredIs) (slots : ℕ) → length pages ≤ slots → length (with_untouched pages slots) ≡ slots
count pages slots few = grind (arith, places)

-- a slot that was reached
pub reached : (pages : List StoredIs) (slots slot : ℕ) → slot < length pages → stored_at (with_untouched pages slots) slot ≡ stored_at pages slot
reached pages slots slot inside = grind (arith, places)

-- one that was not
pub untouched : (pages : List StoredIs) (slots slot : ℕ) → length pages ≤ slot → slot < slots → stored_at (with_untouched pages slots) slot ≡ whole (zeros 4096)
untouched pages slots slot behind inside = grind (arith, places)

-- a slot that was reached gets another page
pub other_page : (pages : List StoredIs) (slots slot : ℕ) (page : StoredIs) → slot < length pages → slice_set (with_untouched pages slots) slot page ≡ with_untouched (slice_set pages slot page) slots
other_page pages slots slot page inside =
    set-append_left pages (replicate (slots - length pages) (whole (zeros 4096))) slot page inside
    ∙ ap (λ n. slice_set pages slot page ++ replicate (slots - n) (whole (zeros 4096))) (sym (length-set pages slot page))

-- the bytes of one that was not, where these are the pages
pub untouched_bytes : (pages all : List StoredIs) (slots slot : ℕ) → all ≡ with_untouched pages slots → length pages ≤ slots → slot < length all → ¬ (slot < length pages) → zeros 4096 ≡ (stored_at all slot).lies
untouched_bytes pages all slots slot is few inside behind =
    let many : slot < slots = grind (arith, is, few, inside, count pages slots few) in
    sym (ap (λ (a : List StoredIs). (stored_at a slot).lies) is ∙ ap (λ (p : StoredIs). p.lies) (untouched pages slots slot (grind (arith, behind)) many))
