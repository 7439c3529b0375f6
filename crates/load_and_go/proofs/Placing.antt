-- What memory has once segments are placed.
use Rattle.std.proofs.Common.{◌≡◌, ℕ, ◌+◌, ◌-◌, ◌<◌, ◌≤◌, ◌⊎◌, inl, inr, false, List, [], ◌∷◌, ◌++◌, length, take, drop, get_or, fold, map, refl, ap, ◌∙◌, arith, length-append, length-take, length-drop}
use Rattle.std.specs.List.{list_any, AllByRecursion}
use Rattle.std.proofs.lemmas.Bool.Decides.{nat_tests}
use Rattle.std.proofs.lemmas.List.{get_or_append_left, get_or-append_right, get_or-take, get_or-drop}
use Rattle.word32.specs.Words.{patched}
use Rattle.elf32.specs.declared.image.Segment.{Segment}
use Rattle.elf32.specs.declared.range.AddressRange.{AddressRange}
use Rattle.elf32.specs.Images.{IsWithin}
use Rattle.elf32.specs.Headers.{range_shown}
use Rattle.elf32.specs.Faults.{share_address, overlap}
use Rattle.elf32.proofs.Truth.{neither}
use Rattle.machine.specs.Boot.{placed}

-- bytes put over others within them leave how many there are
length-patched : (memory new : List ℕ) (i : ℕ) → i + length new ≤ length memory → length (patched memory i new (length new)) ≡ length memory
length-patched memory new i h = omega (arith, length-append (take i memory ++ new) (drop (i + length new) memory), length-append (take i memory) new, length-take i memory, length-drop (i + length new) memory)

-- how many bytes come before those that stay behind them
front : (memory new : List ℕ) (i : ℕ) → i + length new ≤ length memory → length (take i memory ++ new) ≡ i + length new
front memory new i h = omega (arith, length-append (take i memory) new, length-take i memory)

-- each of them stands at its place
in_patched : (memory new : List ℕ) (i k : ℕ) → i + length new ≤ length memory → k < length new → get_or (patched memory i new (length new)) (i + k) 0 ≡ get_or new k 0
in_patched memory new i k h below =
    let size = front memory new i h in
    let start : length (take i memory) ≡ i = omega (arith, length-take i memory) in
    let rest : i + k - i ≡ k = omega arith in
    get_or_append_left (take i memory ++ new) (drop (i + length new) memory) 0 (i + k) (omega arith)
    ∙ get_or-append_right (take i memory) new i (i + k) 0 start (omega arith)
    ∙ ap (λ (j : ℕ). get_or new j 0) rest

-- the others stay
beside_patched : (memory new : List ℕ) (i p : ℕ) → i + length new ≤ length memory → (p < i) ⊎ (i + length new ≤ p) → get_or (patched memory i new (length new)) p 0 ≡ get_or memory p 0
beside_patched memory new i p h (inl before) =
    let size = front memory new i h in
    let start : length (take i memory) ≡ i = omega (arith, length-take i memory) in
    get_or_append_left (take i memory ++ new) (drop (i + length new) memory) 0 p (omega arith)
    ∙ get_or_append_left (take i memory) new 0 p (omega arith)
    ∙ get_or-take i memory p 0 before
beside_patched memory new i p h (inr after) =
    let rest : i + length new + (p - (i + length new)) ≡ p = omega arith in
    get_or-append_right (take i memory ++ new) (drop (i + length new) memory) (i + length new) p 0 (front memory new i h) after
    ∙ get_or-drop (i + length new) memory (p - (i + length new)) 0
    ∙ ap (λ (j : ℕ). get_or memory j 0) rest

-- the bytes of a segment stand at their places of memory
abbrev pub IsIn : List ℕ → Segment → Type 0
IsIn memory s = (k : ℕ) → k < length s.bytes.items → get_or memory (s.address - 0x80000000 + k) 0 ≡ get_or s.bytes.items k 0

-- no byte of a segment has the place
abbrev Misses : ℕ → Segment → Type 0
Misses p s = (p < s.address - 0x80000000) ⊎ (s.address - 0x80000000 + length s.bytes.items ≤ p)

-- a segment within a memory has room for its bytes there
room : (n : ℕ) (s : Segment) → IsWithin n s → s.address - 0x80000000 + length s.bytes.items ≤ n
room n s is = omega (arith, is.file_part, is.start, is.end)

-- a segment within the memory leaves how long it is
length-placed : (memory : List ℕ) (n : ℕ) (s : Segment) → length memory ≡ n → IsWithin n s → length (placed memory s) ≡ n
length-placed memory n s e is = length-patched memory s.bytes.items (s.address - 0x80000000) (omega (arith, room n s is)) ∙ e

-- and so do segments
pub length-all : (memory : List ℕ) (n : ℕ) (ss : List Segment) → length memory ≡ n → AllByRecursion (IsWithin n) ss → length (fold placed memory ss) ≡ n
length-all memory n [] e within = e
length-all memory n (s ∷ ss) e within = length-all (placed memory s) n ss (length-placed memory n s e within.0) within.1

-- a place that no segment has keeps its byte
kept : (memory : List ℕ) (n p : ℕ) (ss : List Segment) → length memory ≡ n → AllByRecursion (IsWithin n) ss → AllByRecursion (Misses p) ss → get_or (fold placed memory ss) p 0 ≡ get_or memory p 0
kept memory n p [] e within misses = refl
kept memory n p (s ∷ ss) e within misses =
    kept (placed memory s) n p ss (length-placed memory n s e within.0) within.1 misses.1
    ∙ beside_patched memory s.bytes.items (s.address - 0x80000000) p (omega (arith, room n s within.0)) misses.0

-- ranges that share no address lie one after the other
apart : (r x : AddressRange) → share_address r x ≡ false → (x.address + x.size ≤ r.address) ⊎ (r.address + r.size ≤ x.address)
apart r x h = grind (arith, nat_tests)

-- the place of a segment's byte is none of a segment's that lies before it or behind it
missed : (n k : ℕ) (s t : Segment) → IsWithin n s → IsWithin n t → k < length s.bytes.items → (t.address + t.size ≤ s.address) ⊎ (s.address + s.size ≤ t.address) → Misses (s.address - 0x80000000 + k) t
missed n k s t own is below (inl left) = inr (omega (arith, own.start, is.file_part, is.start))
missed n k s t own is below (inr right) = inl (omega (arith, own.file_part, own.start, is.start))

-- the place of a segment's byte is none of the others', where they share no address with it
all_missed : (n k : ℕ) (s : Segment) (ss : List Segment) → IsWithin n s → AllByRecursion (IsWithin n) ss → k < length s.bytes.items → list_any (share_address (range_shown s)) (map range_shown ss) ≡ false → AllByRecursion (Misses (s.address - 0x80000000 + k)) ss
all_missed n k s [] own within below none = tt
all_missed n k s (t ∷ ss) own within below none =
    let parts = neither (share_address (range_shown s) (range_shown t)) (list_any (share_address (range_shown s)) (map range_shown ss)) none in
    (missed n k s t own within.0 below (apart (range_shown s) (range_shown t) parts.0), all_missed n k s ss own within.1 below parts.1)

-- segments within the memory of which no two share an address all stand in it
pub all_in : (memory : List ℕ) (n : ℕ) (ss : List Segment) → length memory ≡ n → AllByRecursion (IsWithin n) ss → overlap (map range_shown ss) ≡ false → AllByRecursion (IsIn (fold placed memory ss)) ss
all_in memory n [] e within none = tt
all_in memory n (s ∷ ss) e within none =
    let parts = neither (list_any (share_address (range_shown s)) (map range_shown ss)) (overlap (map range_shown ss)) none in
    let size = length-placed memory n s e within.0 in (
      λ k below.
          kept (placed memory s) n (s.address - 0x80000000 + k) ss size within.1 (all_missed n k s ss within.0 within.1 below parts.0)
          ∙ in_patched memory s.bytes.items (s.address - 0x80000000) k (omega (arith, room n s within.0)) below,
      all_in (placed memory s) n ss size within.1 parts.1,
    )
