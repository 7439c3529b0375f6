-- Pages in lists, and in the places of a medium.
use Rattle.std.proofs.Common.{ℕ, ◌≡◌, ◌+◌, ◌*◌, ◌<◌, ◌≤◌, List, length, get_or, map, arith, ◌∙◌, ◌⊎◌, inl, inr}
use Rattle.std.proofs.lemmas.Bool.{cases_lt}
use Rattle.std.proofs.lemmas.List.FromFn.{fill_by_all, length-map-range_with_len, get_or-map-range_with_len}
use Rattle.std.specs.List.{range_with_len}
use Rattle.swapstore.specs.Places.{bytes_from, page_in}

-- bytes that were read at places are the bytes from there on
pub bytes_read : (byte_at : ℕ → ℕ) (start count : ℕ) (bytes : List ℕ) → length bytes ≡ count → ((i : ℕ) → i < length bytes → get_or bytes i 0 ≡ byte_at (start + i)) → bytes ≡ bytes_from byte_at start count
unfolding bytes_from
bytes_read byte_at start count bytes whole same = fill_by_all (λ i. byte_at (start + i)) bytes count 0 whole (λ k h. same k (omega arith))

-- places with the same bytes
pub same_bytes : (f g : ℕ → ℕ) (start count : ℕ) → ((i : ℕ) → i < count → f (start + i) ≡ g (start + i)) → bytes_from f start count ≡ bytes_from g start count
unfolding bytes_from
same_bytes f g start count same =
    fill_by_all (λ i. g (start + i)) (map (λ i. f (start + i)) (range_with_len 0 count)) count 0 (length-map-range_with_len (λ i. f (start + i)) 0 count)
    (λ k h. get_or-map-range_with_len (λ i. f (start + i)) 0 count k k 0 h (omega arith) ∙ same k h)

above : (slot other : ℕ) → slot ≤ other → (other ≡ slot → ⊥) → slot < other
above slot other h apart = omega arith

-- a place in another slot lies before a slot or after it
apart_from : (slot other i : ℕ) → i < 4096 → (other ≡ slot → ⊥) → (4096 * other + i < 4096 * slot) ⊎ (4096 * slot + 4096 ≤ 4096 * other + i)
apart_from slot other i h apart = elim (cases_lt other slot) [ inl l ↦ inl (omega arith) | inr g ↦ inr (let more : slot < other = above slot other g apart in omega arith) ]

-- a slot that a write doesn't reach
pub other_slot_stays : (f g : ℕ → ℕ) (slot other : ℕ) → ((place : ℕ) → place < 4096 * slot → f place ≡ g place) → ((place : ℕ) → 4096 * slot + 4096 ≤ place → f place ≡ g place) → (other ≡ slot → ⊥) → page_in f other ≡ page_in g other
other_slot_stays f g slot other before after apart =
    same_bytes f g (4096 * other) 4096 (λ i h. elim (apart_from slot other i h apart) [ inl l ↦ before _ l | inr g ↦ after _ g ])

page_byte_of : (byte_at : ℕ → ℕ) (start count i : ℕ) → i < count → get_or (bytes_from byte_at start count) i 0 ≡ byte_at (start + i)
unfolding bytes_from
page_byte_of byte_at start count i h = get_or-map-range_with_len (λ k. byte_at (start + k)) 0 count i i 0 h (omega arith)

pub page_byte : (byte_at : ℕ → ℕ) (slot i : ℕ) → i < 4096 → get_or (page_in byte_at slot) i 0 ≡ byte_at (4096 * slot + i)
page_byte byte_at slot i h = page_byte_of byte_at (4096 * slot) 4096 i h

page_length_of : (byte_at : ℕ → ℕ) (start count : ℕ) → length (bytes_from byte_at start count) ≡ count
unfolding bytes_from
page_length_of byte_at start count = length-map-range_with_len (λ k. byte_at (start + k)) 0 count

pub page_length : (byte_at : ℕ → ℕ) (slot : ℕ) → length (page_in byte_at slot) ≡ 4096
page_length byte_at slot = page_length_of byte_at (4096 * slot) 4096

pub own_slot : (slot other i j : ℕ) → i < 4096 → j < 4096 → 4096 * slot + i ≡ 4096 * other + j → slot ≡ other
own_slot slot other i j hi hj same = omega arith
