-- What a step lacks first is the same in two boards that agree on the pages that are not lacking.
use Rattle.std.proofs.Common.{ℕ, ◌≡◌, ◌%◌, Bool, true, false, IsTrue, if◌then◌else◌, List, [], ◌∷◌, Option, Some, None, Result, Ok, Err, refl, sym, ap, ◌∙◌}
use Rattle.mips_cp0.specs.declared.exception.Exc.{Exc}
use Rattle.mips_cp0.specs.Interrupts.{interrupt_taken}
use Rattle.word32.specs.Pages.{page_number}
use Rattle.mips_tlb.specs.declared.kind.Kind.TheVariants.{Fetch, Load, Store}
use Rattle.mips_tlb.specs.declared.kind.Kind.{Kind}
use Rattle.machine.specs.declared.access.Size.{Size}
use Rattle.machine.specs.declared.access.Size.TheVariants.{Word}
use Rattle.machine.specs.declared.access.Why.{Why}
use Rattle.machine.specs.Processor.{Processor, clocked}
use Rattle.machine.specs.Board.{Board, Reach, is_in_memory, value_in, lines_of}
use Rattle.machine.specs.Bus.{Lacks}
use Rattle.machine.specs.Places.{fetch_place}
use Rattle.machine.specs.Operations.{Operation, word_operation}
use Rattle.machine.specs.Operations.Operation.{OnProcessor, Loads, Stores}
use Rattle.machine.specs.Step.{machine_with, load_size, load_place, store_size, store_place, is_given_up}
use Rattle.machine.specs.Accesses.{Access, reached, placed_accesses, data_accesses, word_accesses, fetch_accesses}
use Rattle.machine.specs.Accesses.{accesses_after_tick, accesses, first_lack}
use Rattle.machine.specs.Agreeing.{Agree}
use Rattle.machine.proofs.Aligned.{place_aligned}
use Rattle.machine.proofs.Alike.{IsAligned}
use Rattle.machine.proofs.Boards.{in_memory_same, reach_same, lines_same, given_value}

-- what the first of some accesses lacks, by what it lacks itself and what the later ones lack
abbrev lack_or : Option Why → ℕ → Option (ℕ × Why) → Option (ℕ × Why)
lack_or None page rest = rest
lack_or (Some why) page rest = Some (page, why)

lack_or_same : (l : Option Why) (page : ℕ) (m n : Option (ℕ × Why)) → (l ≡ None → n ≡ m) → lack_or l page n ≡ lack_or l page m
lack_or_same None page m n e = e refl
lack_or_same (Some why) page m n e = refl

first_lack-cons : (lacks : Lacks) (x : Access) (xs : List Access) → first_lack lacks (x ∷ xs) ≡ lack_or (lacks x.page x.kind) x.page (first_lack lacks xs)
first_lack-cons lacks x xs = by_lack (lacks x.page x.kind)
  where
    by_lack : (l : Option Why) → (elim l as (λ _. Option (ℕ × Why)) [ None ↦ first_lack lacks xs | Some why ↦ Some (x.page, why) ]) ≡ lack_or l x.page (first_lack lacks xs)
    by_lack None = refl
    by_lack (Some why) = refl

module _ (these : ℕ → Bool) (cpu : Processor) (a b : Board) (agree : Agree these a b) where
  -- which data an operation accesses does not depend on bytes
  placed_same : (kind : Kind) (size : Size) (found : Result ℕ Exc) → placed_accesses kind size found (machine_with cpu b) ≡ placed_accesses kind size found (machine_with cpu a)
  placed_same kind size (Err e) = refl
  placed_same kind size (Ok at) = ap (λ (r : Reach). reached r kind at) (reach_same these a b agree kind size at)

  data_same : (o : Operation) → data_accesses o (machine_with cpu b) ≡ data_accesses o (machine_with cpu a)
  data_same (OnProcessor effect) = refl
  data_same (Loads op rt base offset) = placed_same Load (load_size op) (load_place op base offset cpu)
  data_same (Stores op rt base offset) =
      ap (λ (xs : List Access). if is_given_up op cpu.ll_bit then [] else xs) (placed_same Store (store_size op) (store_place op base offset cpu))

module _ (these : ℕ → Bool) (lacks : Lacks) (covers : (page : ℕ) (kind : Kind) → lacks page kind ≡ None → IsTrue (these page)) (cpu : Processor) (a b : Board) (agree : Agree these a b) where
  word_lacks_alike : (at : ℕ) → at % 4 ≡ 0 → first_lack lacks (word_accesses at (machine_with cpu b)) ≡ first_lack lacks (word_accesses at (machine_with cpu a))
  word_lacks_alike at aligned =
      let x : Access = record { page = page_number at; kind = Fetch } in
      let in_a = data_accesses (word_operation (value_in a.memory Word at)) (machine_with cpu a) in
      let in_b = data_accesses (word_operation (value_in b.memory Word at)) (machine_with cpu b) in
      first_lack-cons lacks x in_b
      ∙ lack_or_same (lacks x.page x.kind) x.page (first_lack lacks in_a) (first_lack lacks in_b)
      (λ (none : lacks x.page x.kind ≡ None).
      ap (λ (w : ℕ). first_lack lacks (data_accesses (word_operation w) (machine_with cpu b))) (given_value these a b agree Word at aligned (covers x.page x.kind none))
      ∙ ap (first_lack lacks) (data_same these cpu a b agree (word_operation (value_in a.memory Word at))))
      ∙ sym (first_lack-cons lacks x in_a)

  fetch_by_test : (test : Bool) (at : ℕ) → at % 4 ≡ 0 → first_lack lacks (if test then word_accesses at (machine_with cpu b) else []) ≡ first_lack lacks (if test then word_accesses at (machine_with cpu a) else [])
  fetch_by_test true at aligned = word_lacks_alike at aligned
  fetch_by_test false at aligned = refl

  fetch_lacks_alike : (found : Result ℕ Exc) → IsAligned 4 found → first_lack lacks (fetch_accesses found (machine_with cpu b)) ≡ first_lack lacks (fetch_accesses found (machine_with cpu a))
  fetch_lacks_alike (Err e) aligned = refl
  fetch_lacks_alike (Ok at) aligned =
      ap (λ (test : Bool). first_lack lacks (if test then word_accesses at (machine_with cpu b) else [])) (in_memory_same these a b agree Word at)
      ∙ fetch_by_test (is_in_memory a Word at) at (aligned at refl)

  taken_or_not : (taken : Bool) → first_lack lacks (if taken then [] else fetch_accesses (fetch_place cpu) (machine_with cpu b)) ≡ first_lack lacks (if taken then [] else fetch_accesses (fetch_place cpu) (machine_with cpu a))
  taken_or_not true = refl
  taken_or_not false = fetch_lacks_alike (fetch_place cpu) (place_aligned Fetch Word cpu cpu.pc)

  after_tick_lacks_alike : first_lack lacks (accesses_after_tick (machine_with cpu b)) ≡ first_lack lacks (accesses_after_tick (machine_with cpu a))
  after_tick_lacks_alike =
      ap (λ (lines : ℕ). first_lack lacks (if interrupt_taken lines cpu.cp0 then [] else fetch_accesses (fetch_place cpu) (machine_with cpu b))) (lines_same these a b agree)
      ∙ taken_or_not (interrupt_taken (lines_of a) cpu.cp0)

pub lack_alike : (these : ℕ → Bool) (lacks : Lacks) (cpu : Processor) (a b : Board) → Agree these a b
    → ((page : ℕ) (kind : Kind) → lacks page kind ≡ None → IsTrue (these page)) → first_lack lacks (accesses (machine_with cpu b)) ≡ first_lack lacks (accesses (machine_with cpu a))
unfolding accesses
lack_alike these lacks cpu a b agree covers = after_tick_lacks_alike these lacks covers (clocked cpu) a b agree
