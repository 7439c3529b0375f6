-- The entry of an exception is seen.
use Rattle.std.proofs.Common.{ℕ, ◌≡◌, ◌+◌, ◌==◌, ◌&&◌, ◌||◌, ◌⊎◌, inl, inr, not, Bool, true, false, if◌then◌else◌, refl, ap, ◌∙◌, arith, eq-eqb}
use Rattle.mips_cp0.specs.Bits.{has_bits}
use Rattle.mips_cp0.specs.Cause.{cause_iv}
use Rattle.mips_cp0.specs.Status.{status_exl}
use Rattle.mips_cp0.specs.Entered.{vector_base, vector_offset}
use Rattle.mips_cp0.specs.Registers.{SystemRegisters}
use Rattle.mips_cp0.specs.declared.exception.Exc.{Exc}
use Rattle.mips_cp0.specs.declared.exception.Exc.TheVariants as exc
use Rattle.mips_cp0.proofs.Entering.{level_set}
use Rattle.machine.specs.Processor.{clocked, excepted}
use Rattle.machine.specs.Board.{Board}
use Rattle.machine.specs.Step.{Machine, machine_with, step}
use Rattle.runs.specs.Entries.{entered_since, has_entered, is_vector}

-- an offset is one of the handlers'
abbrev IsOffset : ℕ → Type 0
IsOffset n = (n ≡ 0x000) ⊎ (n ≡ 0x180) ⊎ (n ≡ 0x200)

general : IsOffset 0x180
general = inr (inl refl)

refill_one : (first : Bool) → IsOffset (if first then 0x000 else 0x180)
refill_one true = inl refl
refill_one false = general

interrupt_one : (own : Bool) → IsOffset (if own then 0x200 else 0x180)
interrupt_one true = inr (inr refl)
interrupt_one false = general

is_offset : (e : Exc) (r : SystemRegisters) → IsOffset (vector_offset e r)
is_offset exc.Interrupt r = interrupt_one (has_bits cause_iv r.cause)
is_offset (exc.Modified address) r = general
is_offset (exc.TlbLoad address refill) r = refill_one (refill && not (has_bits status_exl r.status))
is_offset (exc.TlbStore address refill) r = refill_one (refill && not (has_bits status_exl r.status))
is_offset (exc.AddressLoad address) r = general
is_offset (exc.AddressStore address) r = general
is_offset exc.BusFetch r = general
is_offset exc.BusData r = general
is_offset exc.Syscall r = general
is_offset exc.Breakpoint r = general
is_offset exc.Reserved r = general
is_offset (exc.Unusable coprocessor) r = general
is_offset exc.Overflow r = general
is_offset exc.Trap r = general

some_first : (a b c : Bool) → a ≡ true → (a || b || c) ≡ true
some_first a b c is = ap (λ (x : Bool). x || b || c) is

some_second : (a b c : Bool) → b ≡ true → (a || b || c) ≡ true
some_second true b c is = refl
some_second false b c is = ap (λ (x : Bool). x || c) is

some_third : (a b c : Bool) → c ≡ true → (a || b || c) ≡ true
some_third true b c is = refl
some_third false true c is = refl
some_third false false c is = is

vector_found : (status base n : ℕ) → base ≡ vector_base status → IsOffset n → is_vector status (base + n) ≡ true
vector_found status base n is (inl none) =
    some_first (base + n == vector_base status) (base + n == vector_base status + 0x180) (base + n == vector_base status + 0x200)
    (eq-eqb (base + n) (vector_base status) (omega (arith, is, none)))
vector_found status base n is (inr (inl one)) =
    some_second (base + n == vector_base status) (base + n == vector_base status + 0x180) (base + n == vector_base status + 0x200)
    (eq-eqb (base + n) (vector_base status + 0x180) (omega (arith, is, one)))
vector_found status base n is (inr (inr two)) =
    some_third (base + n == vector_base status) (base + n == vector_base status + 0x180) (base + n == vector_base status + 0x200)
    (eq-eqb (base + n) (vector_base status + 0x200) (omega (arith, is, two)))

all_three : (a b c : Bool) → a ≡ false → b ≡ true → c ≡ true → (not a && b && c) ≡ true
all_three a b c x y z = (λ i. not (x i) && y i && z i)

entered_now : (m : Machine) (e : Exc) → has_bits status_exl m.cpu.cp0.status ≡ false → entered_since m.cpu.cp0.status (excepted e (clocked m.cpu)) ≡ true
entered_now m e clear =
    all_three (has_bits status_exl m.cpu.cp0.status) _ _ clear (level_set m.cpu.cp0.status)
    (vector_found m.cpu.cp0.status (vector_base m.cpu.cp0.status) (vector_offset e (clocked m.cpu).cp0) refl (is_offset e (clocked m.cpu).cp0))

pub entry_seen : (m : Machine) (e : Exc) (board : Board) → has_bits status_exl m.cpu.cp0.status ≡ false → step m ≡ machine_with (excepted e (clocked m.cpu)) board → has_entered m (step m) ≡ true
entry_seen m e board clear is = ap (λ (n : Machine). entered_since m.cpu.cp0.status n.cpu) is ∙ entered_now m e clear
