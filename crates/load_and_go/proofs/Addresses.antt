-- The bytes that are read at addresses of kseg0.
use Rattle.std.proofs.Common.{◌≡◌, ℕ, ◌-◌, ◌%◌, ◌^◌, ◌<◌, ◌≤◌, Bool, true, false, ◌||◌, ◌&&◌, not, nat_lt, nat_le, if◌then◌else◌, Option, Some, None, List, length, get_or, ap, ◌∙◌, arith}
use Rattle.std.proofs.lemmas.Bool.{le-ltb}
use Rattle.std.proofs.lemmas.Bool.Decides.{nat_tests}
use Rattle.mips_cp0.specs.Bits.{has_bits}
use Rattle.mips_cp0.specs.Status.{status_erl}
use Rattle.mips_cp0.specs.Registers.{SystemRegisters}
use Rattle.mips_tlb.specs.Segments.{is_mapped}
use Rattle.mips_tlb.specs.Translation.{probed}
use Rattle.mips_tlb.specs.declared.tlb.Entry.{Entry}
use Rattle.machine.specs.Step.{Machine}
use Rattle.machine.specs.Replies.{in_memory, byte_in, byte_at}

-- where the first test and the last are false
neither_of : (a b c : Bool) → a ≡ false → c ≡ false → ((a && b) || c) ≡ false
neither_of true b c x y = cc
neither_of false b c x y = y

-- an address of kseg0 is not mapped
not_mapped : (status address : ℕ) → 0x80000000 ≤ address → address < 0xa0000000 → is_mapped status address ≡ false
not_mapped status address low high =
    let below : nat_lt address 0x80000000 ≡ false = le-ltb address 0x80000000 low in
    let above : nat_le 0xc0000000 address ≡ false = grind (arith, nat_tests) in
    neither_of (nat_lt address 0x80000000) (not (has_bits status_erl status)) (nat_le 0xc0000000 address) below above

-- it leads to itself less 80000000
direct : (entries : List Entry) (r : SystemRegisters) (address : ℕ) → 0x80000000 ≤ address → address < 0xa0000000 → probed entries r address ≡ Some (address - 0x80000000)
direct entries r address low high =
    let below : nat_lt address 0x80000000 ≡ false = le-ltb address 0x80000000 low in
    let bits : address % 2 ^ 29 ≡ address - 0x80000000 = omega arith in
    rw (not_mapped r.status address low high) (rw below (ap Some bits))

-- the byte that is read there is that of memory
pub byte_there : (m : Machine) (address : ℕ) → 0x80000000 ≤ address → address < 0xa0000000 → address - 0x80000000 < length m.board.memory → byte_at m address ≡ Some (get_or m.board.memory (address - 0x80000000) 0)
byte_there m address low high within =
    let memory = m.board.memory in
    let held : nat_lt (address - 0x80000000) (length memory) ≡ true = grind (arith, nat_tests) in
    ap (λ (at : Option ℕ). byte_in memory (in_memory memory at)) (direct m.cpu.tlb m.cpu.cp0 address low high)
    ∙ ap (λ (b : Bool). byte_in memory (if b then Some (address - 0x80000000) else None)) held
