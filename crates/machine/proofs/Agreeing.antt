-- A step in two boards that agree on the pages that it accesses.
use Rattle.std.proofs.Common.{ℕ, ◌≡◌, Bool, true, false, if◌then◌else◌, List, [], ◌∷◌, Result, Ok, Err, ◌%◌, refl, sym, ap, subst, ◌∙◌}
use Rattle.mips_cp0.specs.declared.exception.Exc.{Exc}
use Rattle.mips_cp0.specs.declared.exception.Exc.TheVariants.{Interrupt, BusFetch}
use Rattle.mips_cp0.specs.Interrupts.{interrupt_taken}
use Rattle.word32.specs.Pages.{page_number}
use Rattle.mips_tlb.specs.declared.kind.Kind.TheVariants.{Fetch, Load, Store}
use Rattle.mips_tlb.specs.declared.kind.Kind.{Kind}
use Rattle.machine.specs.declared.access.Size.{Size}
use Rattle.machine.specs.declared.access.Size.TheVariants.{Word}
use Rattle.machine.specs.Processor.{Processor, clocked, excepted}
use Rattle.machine.specs.Board.{Board, is_in_memory, value_in, touched, lines_of}
use Rattle.machine.specs.Places.{fetch_place}
use Rattle.machine.specs.Operations.{Operation, word_operation}
use Rattle.machine.specs.Operations.Operation.{OnProcessor, Loads, Stores}
use Rattle.machine.specs.Step.{machine_with, raised, load_size, load_place, store_size, store_place, is_given_up}
use Rattle.machine.specs.Step.{performed, word_fetched, fetched, after_tick, step}
use Rattle.machine.specs.Accesses.{Access, placed_accesses, data_accesses, word_accesses, fetch_accesses, accesses_after_tick, accesses}
use Rattle.machine.specs.Agreeing.{Agree, Within}
use Rattle.machine.proofs.Aligned.{place_aligned}
use Rattle.machine.proofs.Alike.{Alike, IsAligned, same_board, performed_alike}
use Rattle.machine.proofs.Boards.{first_within, rest_within, in_memory_same, lines_same, given_value, touched_agree}

-- the fetch leaves the data's accesses as they were
placed_touched : (kind : Kind) (size : Size) (found : Result ℕ Exc) (at : ℕ) (cpu : Processor) (w : Board) → placed_accesses kind size found (machine_with cpu (touched at w)) ≡ placed_accesses kind size found (machine_with cpu w)
placed_touched kind size (Err e) at cpu w = refl
placed_touched kind size (Ok found) at cpu w = refl

pub data_touched : (o : Operation) (at : ℕ) (cpu : Processor) (w : Board) → data_accesses o (machine_with cpu (touched at w)) ≡ data_accesses o (machine_with cpu w)
data_touched (OnProcessor effect) at cpu w = refl
data_touched (Loads op rt base offset) at cpu w = placed_touched Load (load_size op) (load_place op base offset cpu) at cpu w
data_touched (Stores op rt base offset) at cpu w =
    ap (λ (xs : List Access). if is_given_up op cpu.ll_bit then [] else xs)
    (placed_touched Store (store_size op) (store_place op base offset cpu) at cpu w)

module _ (these : ℕ → Bool) (cpu : Processor) (a b : Board) (agree : Agree these a b) where
  -- after the fetch at a place
  abbrev fetch_of : ℕ → Access
  fetch_of at = record { page = page_number at; kind = Fetch }

  operation_alike : (o : Operation) (at : ℕ) → Within these (fetch_of at ∷ data_accesses o (machine_with cpu a))
      → Alike these (fetch_of at ∷ data_accesses o (machine_with cpu a)) (fetch_of at ∷ data_accesses o (machine_with cpu b))
      (performed o (machine_with cpu (touched at a))) (performed o (machine_with cpu (touched at b)))
  operation_alike o at within =
      let rest = rest_within these (fetch_of at) (data_accesses o (machine_with cpu a)) within in
      let in_a = data_touched o at cpu a in
      let in_b = data_touched o at cpu b in
      let after = performed_alike these cpu (touched at a) (touched at b) (touched_agree these a b agree at) o (subst (Within these) (sym in_a) rest) in
      record {
        accesses = ap (λ (xs : List Access). fetch_of at ∷ xs) (sym in_b ∙ after.accesses ∙ in_a);
        cpu = after.cpu;
        board = after.board;
      }

  word_fetched_alike : (at : ℕ) → at % 4 ≡ 0 → Within these (word_accesses at (machine_with cpu a))
      → Alike these (word_accesses at (machine_with cpu a)) (word_accesses at (machine_with cpu b)) (word_fetched at (machine_with cpu a)) (word_fetched at (machine_with cpu b))
  word_fetched_alike at aligned within =
      let o = word_operation (value_in a.memory Word at) in
      let among = first_within these (fetch_of at) (data_accesses o (machine_with cpu a)) within in
      let P : ℕ → Type 0 = λ w. Alike these (fetch_of at ∷ data_accesses o (machine_with cpu a)) (fetch_of at ∷ data_accesses (word_operation w) (machine_with cpu b))
      (performed o (machine_with cpu (touched at a))) (performed (word_operation w) (machine_with cpu (touched at b))) in
      subst P (sym (given_value these a b agree Word at aligned among)) (operation_alike o at within)

  fetch_by_test : (test : Bool) (at : ℕ) → at % 4 ≡ 0 → Within these (if test then word_accesses at (machine_with cpu a) else [])
      → Alike these (if test then word_accesses at (machine_with cpu a) else []) (if test then word_accesses at (machine_with cpu b) else [])
      (if test then word_fetched at (machine_with cpu a) else raised BusFetch (machine_with cpu a)) (if test then word_fetched at (machine_with cpu b) else raised BusFetch (machine_with cpu b))
  fetch_by_test true at aligned within = word_fetched_alike at aligned within
  fetch_by_test false at aligned within = same_board these cpu a b agree [] (excepted BusFetch cpu)

  fetch_alike : (found : Result ℕ Exc) → IsAligned 4 found → Within these (fetch_accesses found (machine_with cpu a))
      → Alike these (fetch_accesses found (machine_with cpu a)) (fetch_accesses found (machine_with cpu b)) (fetched found (machine_with cpu a)) (fetched found (machine_with cpu b))
  fetch_alike (Err e) aligned within = same_board these cpu a b agree [] (excepted e cpu)
  fetch_alike (Ok at) aligned within =
      let test = is_in_memory a Word at in
      let P : Bool → Type 0 = λ t. Alike these (if test then word_accesses at (machine_with cpu a) else []) (if t then word_accesses at (machine_with cpu b) else [])
      (if test then word_fetched at (machine_with cpu a) else raised BusFetch (machine_with cpu a)) (if t then word_fetched at (machine_with cpu b) else raised BusFetch (machine_with cpu b)) in
      subst P (sym (in_memory_same these a b agree Word at)) (fetch_by_test test at (aligned at refl) within)

  -- an interrupt that is taken, and else the fetch
  taken_or_not : (taken : Bool) → Within these (if taken then [] else fetch_accesses (fetch_place cpu) (machine_with cpu a))
      → Alike these (if taken then [] else fetch_accesses (fetch_place cpu) (machine_with cpu a)) (if taken then [] else fetch_accesses (fetch_place cpu) (machine_with cpu b))
      (if taken then raised Interrupt (machine_with cpu a) else fetched (fetch_place cpu) (machine_with cpu a)) (if taken then raised Interrupt (machine_with cpu b) else fetched (fetch_place cpu) (machine_with cpu b))
  taken_or_not true within = same_board these cpu a b agree [] (excepted Interrupt cpu)
  taken_or_not false within = fetch_alike (fetch_place cpu) (place_aligned Fetch Word cpu cpu.pc) within

  after_tick_alike : Within these (accesses_after_tick (machine_with cpu a))
      → Alike these (accesses_after_tick (machine_with cpu a)) (accesses_after_tick (machine_with cpu b)) (after_tick (machine_with cpu a)) (after_tick (machine_with cpu b))
  after_tick_alike within =
      let taken = interrupt_taken (lines_of a) cpu.cp0 in
      let P : ℕ → Type 0 = λ lines. Alike these (accesses_after_tick (machine_with cpu a)) (if interrupt_taken lines cpu.cp0 then [] else fetch_accesses (fetch_place cpu) (machine_with cpu b))
      (after_tick (machine_with cpu a)) (if interrupt_taken lines cpu.cp0 then raised Interrupt (machine_with cpu b) else fetched (fetch_place cpu) (machine_with cpu b)) in
      subst P (sym (lines_same these a b agree)) (taken_or_not taken within)

pub step_alike : (these : ℕ → Bool) (cpu : Processor) (a b : Board) → Agree these a b → Within these (accesses (machine_with cpu a))
    → Alike these (accesses (machine_with cpu a)) (accesses (machine_with cpu b)) (step (machine_with cpu a)) (step (machine_with cpu b))
unfolding accesses step
step_alike these cpu a b agree within = after_tick_alike these (clocked cpu) a b agree within
