-- Ranges of which no two share an address have no more addresses in all than the space that they lie in.
use Rattle.std.proofs.Common.{◌≡◌, ℕ, ◌+◌, ◌-◌, ◌*◌, ◌≤◌, min, max, false, nat_lt, ◌⊎◌, inl, inr, List, [], ◌∷◌, arith}
use Rattle.std.specs.List.{list_any}
use Rattle.std.proofs.lemmas.Bool.{ltb-false}
use Rattle.std.proofs.lemmas.Bool.Decides.{nat_tests}
use Rattle.elf32.proofs.Truth.{neither}
use Rattle.elf32.specs.declared.range.AddressRange.{AddressRange}
use Rattle.elf32.specs.Faults.{share_address, overlap, is_outside}

-- how many addresses of a range lie from low up to high
abbrev clipped : ℕ → ℕ → AddressRange → ℕ
clipped low high r = min (r.address + r.size) high - max r.address low

abbrev all_clipped : ℕ → ℕ → List AddressRange → ℕ
all_clipped low high [] = 0
all_clipped low high (r ∷ rs) = clipped low high r + all_clipped low high rs

-- the place from low up to high that is nearest to x
abbrev nearest : ℕ → ℕ → ℕ → ℕ
nearest low high x = max low (min x high)

-- ranges that share no address lie one after the other
apart : (r x : AddressRange) → share_address r x ≡ false → (x.address + x.size ≤ r.address) ⊎ (r.address + r.size ≤ x.address)
apart r x h = grind (arith, nat_tests)

-- what is clipped beside r, and what is clipped to its left and to its right
beside : (low high : ℕ) (r x : AddressRange) → low ≤ high → (x.address + x.size ≤ r.address) ⊎ (r.address + r.size ≤ x.address) → clipped low high x ≤ clipped low (nearest low high r.address) x + clipped (nearest low high (r.address + r.size)) high x
beside low high r x h (inl left) = omega arith
beside low high r x h (inr right) = omega arith

all_beside : (low high : ℕ) (r : AddressRange) (rs : List AddressRange) → low ≤ high → list_any (share_address r) rs ≡ false → all_clipped low high rs ≤ all_clipped low (nearest low high r.address) rs + all_clipped (nearest low high (r.address + r.size)) high rs
all_beside low high r [] h none = omega arith
all_beside low high r (x ∷ rs) h none =
    let parts = neither (share_address r x) (list_any (share_address r) rs) none in
    let head = beside low high r x h (apart r x parts.0) in
    let rest = all_beside low high r rs h parts.1 in
    omega arith

-- r itself takes no more than the space between
itself : (low high : ℕ) (r : AddressRange) → low ≤ high → clipped low high r + (nearest low high r.address - low) + (high - nearest low high (r.address + r.size)) ≤ high - low
itself low high r h = omega arith

pub all_clipped_fit : (low high : ℕ) (rs : List AddressRange) → low ≤ high → overlap rs ≡ false → all_clipped low high rs ≤ high - low
all_clipped_fit low high [] h none = omega arith
all_clipped_fit low high (r ∷ rs) h none =
    let parts = neither (list_any (share_address r) rs) (overlap rs) none in
    let first = nearest low high r.address in
    let last = nearest low high (r.address + r.size) in
    let split = all_beside low high r rs h parts.0 in
    let left = all_clipped_fit low first rs (omega arith) parts.1 in
    let right = all_clipped_fit last high rs (omega arith) parts.1 in
    let own = itself low high r h in
    omega arith

-- how many addresses the ranges have
abbrev pub sizes : List AddressRange → ℕ
sizes [] = 0
sizes (r ∷ rs) = r.size + sizes rs

-- what lies within the memory is not clipped
none_clipped : (pages : ℕ) (rs : List AddressRange) → list_any (is_outside pages) rs ≡ false → sizes rs ≤ all_clipped 0x80000000 (0x80000000 + 4096 * pages) rs
none_clipped pages [] within = omega arith
none_clipped pages (r ∷ rs) within =
    let parts = neither (is_outside pages r) (list_any (is_outside pages) rs) within in
    let edges = neither (nat_lt r.address 0x80000000) (nat_lt (0x80000000 + 4096 * pages) (r.address + r.size)) parts.0 in
    let start = ltb-false r.address 0x80000000 edges.0 in
    let end = ltb-false (0x80000000 + 4096 * pages) (r.address + r.size) edges.1 in
    let rest = none_clipped pages rs parts.1 in
    omega arith

-- ranges within a memory that share no address have no more than it
pub sizes_fit : (pages : ℕ) (rs : List AddressRange) → list_any (is_outside pages) rs ≡ false → overlap rs ≡ false → sizes rs ≤ 4096 * pages
sizes_fit pages rs within none =
    let bytes = none_clipped pages rs within in
    let fit = all_clipped_fit 0x80000000 (0x80000000 + 4096 * pages) rs (omega arith) none in
    omega arith
