-- The page that a step gives is the same in two boards that agree on the pages that it accesses.
use Rattle.std.proofs.Common.{ℕ, ◌≡◌, ◌%◌, Bool, true, false, if◌then◌else◌, [], Option, None, Result, Ok, Err, refl, ap, ◌∙◌}
use Rattle.mips_cp0.specs.declared.exception.Exc.{Exc}
use Rattle.mips_cp0.specs.Interrupts.{interrupt_taken}
use Rattle.mips_instr.specs.declared.instr.StoreOp.{StoreOp}
use Rattle.word32.specs.Pages.{page_number}
use Rattle.mips_tlb.specs.declared.kind.Kind.TheVariants.{Fetch, Store}
use Rattle.devices.specs.Registers.{page_to_give}
use Rattle.machine.specs.declared.access.Size.TheVariants.{Word}
use Rattle.machine.specs.Processor.{Processor, reg, clocked}
use Rattle.machine.specs.Board.{Board, Reach, reach, is_in_memory, value_in, touched, lines_of}
use Rattle.machine.specs.Board.Reach.{InMemory, AtRegister, Nowhere}
use Rattle.machine.specs.Places.{fetch_place}
use Rattle.machine.specs.Operations.{Operation, word_operation}
use Rattle.machine.specs.Operations.Operation.{OnProcessor, Loads, Stores}
use Rattle.machine.specs.Step.{machine_with, store_size, store_place, is_given_up}
use Rattle.machine.specs.Accesses.{word_accesses, data_accesses, fetch_accesses, accesses_after_tick, accesses}
use Rattle.machine.specs.Given.{reached_given, placed_given, operation_given, word_given, fetch_given, given_after_tick, step_given}
use Rattle.machine.specs.Agreeing.{Agree, Within}
use Rattle.machine.proofs.Aligned.{place_aligned}
use Rattle.machine.proofs.Alike.{IsAligned}
use Rattle.machine.proofs.Boards.{first_within, reach_same, in_memory_same, lines_same, given_value, touched_agree}

module _ (these : ℕ → Bool) (cpu : Processor) (a b : Board) (agree : Agree these a b) where
  reached_same : (r : Reach) (value : ℕ) → reached_given r value b ≡ reached_given r value a
  reached_same InMemory value = refl
  reached_same (AtRegister d) value = ap (page_to_give d value) agree.devices
  reached_same Nowhere value = refl

  placed_same : (op : StoreOp) (r : ℕ) (found : Result ℕ Exc) → placed_given op r found (machine_with cpu b) ≡ placed_given op r found (machine_with cpu a)
  placed_same op r (Err e) = refl
  placed_same op r (Ok at) =
      ap (λ (to : Reach). reached_given to (reg cpu r) b) (reach_same these a b agree Store (store_size op) at)
      ∙ reached_same (reach a Store (store_size op) at) (reg cpu r)

  operation_same : (o : Operation) → operation_given o (machine_with cpu b) ≡ operation_given o (machine_with cpu a)
  operation_same (OnProcessor effect) = refl
  operation_same (Loads op rt base offset) = refl
  operation_same (Stores op rt base offset) =
      ap (λ (g : Option ℕ). if is_given_up op cpu.ll_bit then None else g) (placed_same op rt (store_place op base offset cpu))

module _ (these : ℕ → Bool) (cpu : Processor) (a b : Board) (agree : Agree these a b) where
  word_same : (at : ℕ) → at % 4 ≡ 0 → Within these (word_accesses at (machine_with cpu a)) → word_given at (machine_with cpu b) ≡ word_given at (machine_with cpu a)
  word_same at aligned within =
      let o = word_operation (value_in a.memory Word at) in
      let among = first_within these (record { page = page_number at; kind = Fetch }) (data_accesses o (machine_with cpu a)) within in
      ap (λ (w : ℕ). operation_given (word_operation w) (machine_with cpu (touched at b))) (given_value these a b agree Word at aligned among)
      ∙ operation_same these cpu (touched at a) (touched at b) (touched_agree these a b agree at) o

  fetch_by_test : (test : Bool) (at : ℕ) → at % 4 ≡ 0 → Within these (if test then word_accesses at (machine_with cpu a) else [])
      → (if test then word_given at (machine_with cpu b) else None) ≡ (if test then word_given at (machine_with cpu a) else None)
  fetch_by_test true at aligned within = word_same at aligned within
  fetch_by_test false at aligned within = refl

  fetch_same : (found : Result ℕ Exc) → IsAligned 4 found → Within these (fetch_accesses found (machine_with cpu a))
      → fetch_given found (machine_with cpu b) ≡ fetch_given found (machine_with cpu a)
  fetch_same (Err e) aligned within = refl
  fetch_same (Ok at) aligned within =
      ap (λ (test : Bool). if test then word_given at (machine_with cpu b) else None) (in_memory_same these a b agree Word at)
      ∙ fetch_by_test (is_in_memory a Word at) at (aligned at refl) within

  taken_or_not : (taken : Bool) → Within these (if taken then [] else fetch_accesses (fetch_place cpu) (machine_with cpu a))
      → (if taken then None else fetch_given (fetch_place cpu) (machine_with cpu b)) ≡ (if taken then None else fetch_given (fetch_place cpu) (machine_with cpu a))
  taken_or_not true within = refl
  taken_or_not false within = fetch_same (fetch_place cpu) (place_aligned Fetch Word cpu cpu.pc) within

  after_tick_same : Within these (accesses_after_tick (machine_with cpu a)) → given_after_tick (machine_with cpu b) ≡ given_after_tick (machine_with cpu a)
  after_tick_same within =
      ap (λ (lines : ℕ). if interrupt_taken lines cpu.cp0 then None else fetch_given (fetch_place cpu) (machine_with cpu b)) (lines_same these a b agree)
      ∙ taken_or_not (interrupt_taken (lines_of a) cpu.cp0) within

pub given_alike : (these : ℕ → Bool) (cpu : Processor) (a b : Board) → Agree these a b → Within these (accesses (machine_with cpu a))
    → step_given (machine_with cpu b) ≡ step_given (machine_with cpu a)
unfolding accesses step_given
given_alike these cpu a b agree within = after_tick_same these (clocked cpu) a b agree within
