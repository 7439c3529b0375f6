-- An entry in the registers.
use Rattle.std.proofs.Common.{ℕ, ◌≡◌, ◌/◌, ◌%◌, ◌^◌, ◌<◌, ◌==◌, ◌&&◌, Bool, true, false, refl, ◌∙◌, ap, arith, bit_and}
use Rattle.std.proofs.lemmas.Nat.Bits.{and_pow}
use Rattle.mips_cp0.specs.Bits.{has_bits}
use Rattle.mips_cp0.specs.Registers.{SystemRegisters}
use Rattle.mips_tlb.specs.Instructions.{bit_of, half_in, entry_in, entry_lo_of, entry_hi_of, with_entry}
use Rattle.mips_tlb.specs.declared.tlb.PageHalf.{PageHalf}
use Rattle.mips_tlb.specs.declared.tlb.Entry.{Entry}

bit_of_lt : (b : Bool) → bit_of b < 2
bit_of_lt true = omega arith
bit_of_lt false = omega arith

-- the test of a bit that is 1 where b is true
test_0 : (n : ℕ) (b : Bool) → n % 2 ≡ bit_of b → has_bits 0x1 n ≡ b
test_0 n true bit =
    let value : bit_and n 1 ≡ 1 = omega (arith, and_pow n 0) in
    ap (λ m. m == 1) value
test_0 n false bit =
    let value : bit_and n 1 ≡ 0 = omega (arith, and_pow n 0) in
    ap (λ m. m == 1) value

test_1 : (n : ℕ) (b : Bool) → n / 2 % 2 ≡ bit_of b → has_bits 0x2 n ≡ b
test_1 n true bit =
    let value : bit_and n 2 ≡ 2 = omega (arith, and_pow n 1) in
    ap (λ m. m == 2) value
test_1 n false bit =
    let value : bit_and n 2 ≡ 0 = omega (arith, and_pow n 1) in
    ap (λ m. m == 2) value

test_2 : (n : ℕ) (b : Bool) → n / 2 ^ 2 % 2 ≡ bit_of b → has_bits 0x4 n ≡ b
test_2 n true bit =
    let value : bit_and n 4 ≡ 4 = omega (arith, and_pow n 2) in
    ap (λ m. m == 4) value
test_2 n false bit =
    let value : bit_and n 4 ≡ 0 = omega (arith, and_pow n 2) in
    ap (λ m. m == 4) value

half_shown : (global : Bool) (half : PageHalf) → half.pfn < 2 ^ 20 → half.coherence < 2 ^ 3 → half_in (entry_lo_of global half) ≡ half
half_shown global half pfn_fits coherence_fits =
    let g = bit_of_lt global in
    let d = bit_of_lt half.dirty in
    let v = bit_of_lt half.valid in
    let n = entry_lo_of global half in
    let pfn : n / 2 ^ 6 % 2 ^ 20 ≡ half.pfn = omega arith in
    let coherence : n / 2 ^ 3 % 2 ^ 3 ≡ half.coherence = omega arith in
    let dirty : has_bits 0x4 n ≡ half.dirty = test_2 n half.dirty (omega arith) in
    let valid : has_bits 0x2 n ≡ half.valid = test_1 n half.valid (omega arith) in
    λ i. record { pfn = pfn i; coherence = coherence i; dirty = dirty i; valid = valid i }

global_shown : (global : Bool) (half : PageHalf) → has_bits 0x1 (entry_lo_of global half) ≡ global
global_shown global half = test_0 (entry_lo_of global half) global (omega (arith, bit_of_lt global))

both : (b : Bool) → (b && b) ≡ b
both true = refl
both false = refl

pub entry_shown : (entry : Entry) (r : SystemRegisters) → entry.vpn2 < 2 ^ 19 → entry.asid < 2 ^ 8 → entry.even.pfn < 2 ^ 20 → entry.odd.pfn < 2 ^ 20 → entry.even.coherence < 2 ^ 3 → entry.odd.coherence < 2 ^ 3 → entry_in (with_entry entry r) ≡ entry
entry_shown entry r vpn2_fits asid_fits even_pfn odd_pfn even_coherence odd_coherence =
    let vpn2 : entry_hi_of entry / 2 ^ 13 ≡ entry.vpn2 = omega arith in
    let asid : entry_hi_of entry % 2 ^ 8 ≡ entry.asid = omega arith in
    let global : (has_bits 0x1 (entry_lo_of entry.global entry.even) && has_bits 0x1 (entry_lo_of entry.global entry.odd)) ≡ entry.global =
    (λ i. global_shown entry.global entry.even i && global_shown entry.global entry.odd i) ∙ both entry.global in
    let even = half_shown entry.global entry.even even_pfn even_coherence in
    let odd = half_shown entry.global entry.odd odd_pfn odd_coherence in
    λ i. record { vpn2 = vpn2 i; asid = asid i; global = global i; even = even i; odd = odd i }
