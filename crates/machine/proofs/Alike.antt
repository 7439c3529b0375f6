-- A step in two boards that agree on the pages that it accesses, part by part.
use Rattle.std.proofs.Common.{ℕ, ◌≡◌, ◌%◌, Bool, true, false, if◌then◌else◌, List, [], Result, Ok, Err, refl, sym, ap, subst}
use Rattle.mips_cp0.specs.declared.exception.Exc.{Exc}
use Rattle.mips_cp0.specs.declared.exception.Exc.TheVariants.{BusData}
use Rattle.mips_instr.specs.declared.instr.LoadOp.{LoadOp}
use Rattle.mips_instr.specs.declared.instr.StoreOp.{StoreOp}
use Rattle.word32.specs.Pages.{page_number}
use Rattle.mips_tlb.specs.declared.kind.Kind.TheVariants.{Load, Store}
use Rattle.machine.specs.Processor.{Processor, reg, with_reg, next, excepted}
use Rattle.machine.specs.Operations.{Operation, done_or_excepted}
use Rattle.machine.specs.Operations.Operation.{OnProcessor, Loads, Stores}
use Rattle.machine.specs.Board.{Board, Reach, reach}
use Rattle.machine.specs.Board.Reach.{InMemory, AtRegister, Nowhere}
use Rattle.machine.specs.Places.{alignment, data_address}
use Rattle.machine.specs.Step.{Machine, machine_with, load_size, load_place, after_load, loaded_from, loaded}
use Rattle.machine.specs.Step.{store_size, store_place, is_given_up, stored_to, stored, performed}
use Rattle.machine.specs.Accesses.{Access, reached, placed_accesses, store_accesses, data_accesses}
use Rattle.machine.specs.Agreeing.{Agree, Within}
use Rattle.machine.proofs.Aligned.{place_aligned}
use Rattle.machine.proofs.Boards.{first_within, reach_fits, reach_same, lines_same, given_value, register_value_same, touched_agree, register_loaded_agree, memory_stored_agree, register_stored_agree}

-- two machines with one processor and boards that agree, that came by the same accesses
pub record Alike (these : ℕ → Bool) (these_accesses those_accesses : List Access) (m n : Machine) : Type 0 where
  pub accesses : those_accesses ≡ these_accesses
  pub cpu : n.cpu ≡ m.cpu
  pub board : Agree these m.board n.board

-- whatever was found is aligned
abbrev pub IsAligned : ℕ → Result ℕ Exc → Type 0
IsAligned size found = (at : ℕ) → found ≡ Ok at → at % size ≡ 0

module _ (these : ℕ → Bool) (cpu : Processor) (a b : Board) (agree : Agree these a b) where
  -- the board stays, and so do the accesses
  pub same_board : (xs : List Access) (now : Processor) → Alike these xs xs (machine_with now a) (machine_with now b)
  same_board xs now = record { accesses = refl; cpu = refl; board = agree }

  load_by_reach : (r : Reach) (op : LoadOp) (rt at : ℕ) → at % alignment (load_size op) ≡ 0 → Within these (reached r Load at)
      → Alike these (reached r Load at) (reached r Load at) (loaded_from r op rt at (machine_with cpu a)) (loaded_from r op rt at (machine_with cpu b))
  load_by_reach InMemory op rt at aligned within =
      let among = first_within these (record { page = page_number at; kind = Load }) [] within in
      record {
        accesses = refl;
        cpu = ap (λ (value : ℕ). after_load op rt value at cpu) (given_value these a b agree (load_size op) at aligned among);
        board = touched_agree these a b agree at;
      }
  load_by_reach (AtRegister d) op rt at aligned within = record {
    accesses = refl;
    cpu = ap (λ (value : ℕ). after_load op rt value at cpu) (register_value_same these a b agree d);
    board = register_loaded_agree these a b agree d at;
  }
  load_by_reach Nowhere op rt at aligned within = same_board [] (excepted BusData cpu)

  load_alike : (op : LoadOp) (rt : ℕ) (found : Result ℕ Exc) → IsAligned (alignment (load_size op)) found → Within these (placed_accesses Load (load_size op) found (machine_with cpu a))
      → Alike these (placed_accesses Load (load_size op) found (machine_with cpu a)) (placed_accesses Load (load_size op) found (machine_with cpu b)) (loaded op rt found (machine_with cpu a)) (loaded op rt found (machine_with cpu b))
  load_alike op rt (Err e) aligned within = same_board [] (excepted e cpu)
  load_alike op rt (Ok at) aligned within =
      let r = reach a Load (load_size op) at in
      let P : Reach → Type 0 = λ s. Alike these (reached r Load at) (reached s Load at) (loaded_from r op rt at (machine_with cpu a)) (loaded_from s op rt at (machine_with cpu b)) in
      subst P (sym (reach_same these a b agree Load (load_size op) at)) (load_by_reach r op rt at (aligned at refl) within)

  store_by_reach : (r : Reach) (op : StoreOp) (rt at : ℕ) → reach a Store (store_size op) at ≡ r → at % alignment (store_size op) ≡ 0 → Within these (reached r Store at)
      → Alike these (reached r Store at) (reached r Store at) (stored_to r op rt at (machine_with cpu a)) (stored_to r op rt at (machine_with cpu b))
  store_by_reach InMemory op rt at answered aligned within =
      let among = first_within these (record { page = page_number at; kind = Store }) [] within in
      let fits = reach_fits a Store (store_size op) at answered in
      record { accesses = refl; cpu = refl; board = memory_stored_agree these a b agree (store_size op) (reg cpu rt) at aligned among fits }
  store_by_reach (AtRegister d) op rt at answered aligned within =
      record { accesses = refl; cpu = refl; board = register_stored_agree these a b agree d (reg cpu rt) }
  store_by_reach Nowhere op rt at answered aligned within = same_board [] (excepted BusData cpu)

  store_reached : (op : StoreOp) (rt at : ℕ) → at % alignment (store_size op) ≡ 0 → Within these (reached (reach a Store (store_size op) at) Store at)
      → Alike these (reached (reach a Store (store_size op) at) Store at) (reached (reach b Store (store_size op) at) Store at)
      (stored_to (reach a Store (store_size op) at) op rt at (machine_with cpu a)) (stored_to (reach b Store (store_size op) at) op rt at (machine_with cpu b))
  store_reached op rt at aligned within =
      let r = reach a Store (store_size op) at in
      let P : Reach → Type 0 = λ s. Alike these (reached r Store at) (reached s Store at) (stored_to r op rt at (machine_with cpu a)) (stored_to s op rt at (machine_with cpu b)) in
      subst P (sym (reach_same these a b agree Store (store_size op) at)) (store_by_reach r op rt at refl aligned within)

  -- an SC that is given up, and each other store
  store_or_not : (given_up : Bool) (xs ys : List Access) (given_up_cpu : Processor) (m n : Machine) → (Within these xs → Alike these xs ys m n)
      → Within these (if given_up then [] else xs)
      → Alike these (if given_up then [] else xs) (if given_up then [] else ys) (if given_up then machine_with given_up_cpu a else m) (if given_up then machine_with given_up_cpu b else n)
  store_or_not true xs ys given_up_cpu m n stored within = same_board [] given_up_cpu
  store_or_not false xs ys given_up_cpu m n stored within = stored within

  store_alike : (op : StoreOp) (rt : ℕ) (found : Result ℕ Exc) → IsAligned (alignment (store_size op)) found → Within these (store_accesses op found (machine_with cpu a))
      → Alike these (store_accesses op found (machine_with cpu a)) (store_accesses op found (machine_with cpu b)) (stored op rt found (machine_with cpu a)) (stored op rt found (machine_with cpu b))
  store_alike op rt (Err e) aligned within = same_board (store_accesses op (Err e) (machine_with cpu a)) (excepted e cpu)
  store_alike op rt (Ok at) aligned within =
      store_or_not (is_given_up op cpu.ll_bit) (reached (reach a Store (store_size op) at) Store at) (reached (reach b Store (store_size op) at) Store at) (next (with_reg rt 0 cpu))
      (stored_to (reach a Store (store_size op) at) op rt at (machine_with cpu a)) (stored_to (reach b Store (store_size op) at) op rt at (machine_with cpu b))
      (store_reached op rt at (aligned at refl)) within

  pub performed_alike : (o : Operation) → Within these (data_accesses o (machine_with cpu a))
      → Alike these (data_accesses o (machine_with cpu a)) (data_accesses o (machine_with cpu b)) (performed o (machine_with cpu a)) (performed o (machine_with cpu b))
  performed_alike (OnProcessor effect) within = record {
    accesses = refl;
    cpu = ap (λ (lines : ℕ). done_or_excepted (effect lines cpu) cpu) (lines_same these a b agree);
    board = agree;
  }
  performed_alike (Loads op rt base offset) within =
      load_alike op rt (load_place op base offset cpu) (place_aligned Load (load_size op) cpu (data_address cpu base offset)) within
  performed_alike (Stores op rt base offset) within =
      store_alike op rt (store_place op base offset cpu) (place_aligned Store (store_size op) cpu (data_address cpu base offset)) within
