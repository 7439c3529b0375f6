-- Bytes that a debugger reads and writes, one after another.
use Rattle.std.proofs.Common.{ℕ, suc, ◌≡◌, ◌+◌, ◌<◌, false, is_some, nat_lt, if◌then◌else◌, List, length, get_or, drop, Option, Some, None, refl, sym, ap, ◌∙◌, add-one, drop-cons}
use Rattle.machine.specs.declared.access.Size.TheVariants.{Byte}
use Rattle.machine.specs.Processor.{Processor}
use Rattle.machine.specs.Board.{Board, memory_stored}
use Rattle.machine.specs.Step.{machine_with}
use Rattle.mips_tlb.specs.Translation.{probed}
use Rattle.machine.specs.Items.{byte_written, written_from}
use Rattle.machine.specs.Replies.{in_memory, probe, byte_in}
use Rattle.machine.proofs.Replies.{moved}

-- a byte with no place
pub no_byte : (memory : List ℕ) (place : Option ℕ) → is_some place ≡ false → is_some (byte_in memory place) ≡ false
no_byte memory None e = refl
no_byte memory (Some at) e = absurd (cc)

-- where bytes have their places depends on the processor and the size of memory
inside_same : (place : Option ℕ) (a b : List ℕ) → length b ≡ length a → in_memory b place ≡ in_memory a place
inside_same None a b size = refl
inside_same (Some at) a b size = ap (λ (n : ℕ). if nat_lt at n then Some at else None) size

pub place_same : (cpu : Processor) (a b : Board) (address : ℕ) → length b.memory ≡ length a.memory → probe (machine_with cpu b) address ≡ probe (machine_with cpu a) address
place_same cpu a b address size = inside_same (probed cpu.tlb cpu.cp0 address) a.memory b.memory size

-- one byte more is written
pub write_more : (cpu : Processor) (w : Board) (address k at : ℕ) (bytes : List ℕ) → k < length bytes → probe (machine_with cpu w) (moved address k) ≡ Some at
    → written_from k address (drop k bytes) (machine_with cpu w) ≡ written_from (k + 1) address (drop (k + 1) bytes) (machine_with cpu (memory_stored Byte (get_or bytes k 0) at w))
write_more cpu w address k at bytes below found =
    ap (λ (xs : List ℕ). written_from k address xs (machine_with cpu w)) (drop-cons bytes k 0 below)
    ∙ ap (λ (place : Option ℕ). written_from (suc k) address (drop (suc k) bytes) (byte_written (get_or bytes k 0) place (machine_with cpu w))) found
    ∙ ap (λ (n : ℕ). written_from n address (drop n bytes) (machine_with cpu (memory_stored Byte (get_or bytes k 0) at w))) (sym (add-one k))
