-- A step leaves each page that it does not store to and that is not given after it, and a page that is given is zeros.
use Rattle.std.proofs.Common.{ℕ, ◌≡◌, ◌⊎◌, inl, inr, ◌+◌, ◌/◌, ◌%◌, ◌≤◌, Bool, true, false, All, if◌then◌else◌, suc, List, [], ◌∷◌, length, Option, Some, None, Result, Ok, Err, refl, sym, ap, subst, ◌∙◌, arith, length-set}
use Rattle.std.proofs.lemmas.Bool.{cases_eq, true≢false}
use Rattle.word32.specs.Zeros.{zeros as zeros_of}
use Rattle.dev_balloon.specs.Balloon.{is_given, can_be_given, page_given}
use Rattle.devices.specs.declared.register.DeviceRegister.{DeviceRegister}
use Rattle.devices.specs.declared.register.DeviceRegister.TheVariants.{ConStat, ConIn, ConOut, BalTarget, BalCount, BalGive, BalTake}
use Rattle.mips_cp0.specs.declared.exception.Exc.{Exc}
use Rattle.mips_cp0.specs.declared.exception.Exc.TheVariants.{Interrupt, BusFetch}
use Rattle.mips_cp0.specs.Interrupts.{interrupt_taken}
use Rattle.mips_instr.specs.declared.instr.LoadOp.{LoadOp}
use Rattle.mips_instr.specs.declared.instr.StoreOp.{StoreOp}
use Rattle.word32.specs.Pages.{page_number}
use Rattle.mips_tlb.specs.declared.kind.Kind.TheVariants.{Fetch, Load, Store}
use Rattle.machine.specs.declared.access.Size.{Size}
use Rattle.machine.specs.declared.access.Size.TheVariants.{Word}
use Rattle.machine.specs.Processor.{Processor, reg, with_reg, next, clocked}
use Rattle.machine.specs.Board.{Board, Reach, reach, page_bytes, is_given_page, is_in_memory, value_in, bytes_of, first_byte, bytes_after, touched, board_loaded, memory_stored, given_away, register_stored, lines_of}
use Rattle.machine.specs.Board.Reach.{InMemory, AtRegister, Nowhere}
use Rattle.machine.specs.Places.{alignment, fetch_place, data_address}
use Rattle.machine.specs.Operations.{Operation, word_operation}
use Rattle.machine.specs.Operations.Operation.{OnProcessor, Loads, Stores}
use Rattle.machine.specs.Step.{Machine, machine_with, raised, load_size, load_place, loaded_from, loaded}
use Rattle.machine.specs.Step.{store_size, store_place, is_given_up, stored_to, stored, performed, word_fetched, fetched, after_tick, step}
use Rattle.machine.specs.Accesses.{Access, reached, store_accesses, data_accesses, word_accesses, fetch_accesses, accesses_after_tick, accesses}
use Rattle.machine.specs.Agreeing.{StoresTo, IsCleared, GivenAreZeros}
use Rattle.machine.proofs.Agreeing.{data_touched}
use Rattle.machine.proofs.Aligned.{place_aligned}
use Rattle.machine.proofs.Alike.{IsAligned}
use Rattle.machine.proofs.Clearing.{length-zeros, cleared_size, cleared_page, other_page_cleared}
use Rattle.machine.proofs.Giving.{given_before_take, given_before_give, given_before_refused, given_page_is_given, taken_page_is_not_given}
use Rattle.machine.proofs.Stores.{length-after, other_page}
use Rattle.machine.proofs.Boards.{reach_fits}

-- what some accesses leave of a page and of the sizes of a board
pub record Stays (page : ℕ) (xs : List Access) (old new : Board) : Type 0 where
  pub size : length new.memory ≡ length old.memory
  pub pages : length new.devices.balloon.given ≡ length old.devices.balloon.given
  -- the page's bytes, where none of these accesses stores to it and it is not given
  pub bytes : All (λ (x : Access). StoresTo page x → ⊥) xs → is_given_page page new ≡ false → page_bytes page new.memory ≡ page_bytes page old.memory
  -- a page that is given was so before and has its bytes, or it is zeros
  pub zeros : is_given_page page new ≡ true → ((is_given_page page old ≡ true) × (page_bytes page new.memory ≡ page_bytes page old.memory)) ⊎ IsCleared page new

nothing_changed : (page : ℕ) (xs : List Access) (w : Board) → Stays page xs w w
nothing_changed page xs w = record { size = refl; pages = refl; bytes = λ avoided free. refl; zeros = λ given. inl (given, refl) }

-- memory and the given pages stay
same_pages : (page : ℕ) (xs : List Access) (old new : Board) → new.memory ≡ old.memory → new.devices.balloon.given ≡ old.devices.balloon.given → Stays page xs old new
same_pages page xs old new memory given = record {
  size = ap length memory;
  pages = ap length given;
  bytes = λ avoided free. ap (page_bytes page) memory;
  zeros = λ is. inl (sym (ap (λ (g : List Bool). is_given page (record { target = 0; given = g })) given) ∙ is, ap (page_bytes page) memory);
}

-- a page is taken out of the given ones, and memory stays
page_touched : (page at : ℕ) (xs : List Access) (w : Board) → Stays page xs w (touched at w)
page_touched page at xs w = record {
  size = refl;
  pages = length-set w.devices.balloon.given (page_number at) false;
  bytes = λ avoided free. refl;
  zeros = λ is. inl (given_before_take page (page_number at) w.devices.balloon is, refl);
}

-- with the fetch's access before
after_fetch : (page at : ℕ) (xs : List Access) (w new : Board) → Stays page xs (touched at w) new → Stays page (record { page = page_number at; kind = Fetch } ∷ xs) w new
after_fetch page at xs w new s = record {
  size = s.size;
  pages = s.pages ∙ length-set w.devices.balloon.given (page_number at) false;
  bytes = λ avoided free. s.bytes (λ k d h. avoided (suc k) d (omega arith)) free;
  zeros = λ is. elim (s.zeros is) [ inl was ↦ inl (given_before_take page (page_number at) w.devices.balloon was.0, was.1) | inr cleared ↦ inr cleared ];
}

module _ (page : ℕ) (cpu : Processor) (w : Board) where
  register_loaded : (d : DeviceRegister) (at : ℕ) (xs : List Access) → Stays page xs w (board_loaded (AtRegister d) at w)
  register_loaded ConStat at xs = nothing_changed page xs w
  register_loaded ConIn at xs = same_pages page xs w (board_loaded (AtRegister ConIn) at w) refl refl
  register_loaded ConOut at xs = nothing_changed page xs w
  register_loaded BalTarget at xs = nothing_changed page xs w
  register_loaded BalCount at xs = nothing_changed page xs w
  register_loaded BalGive at xs = nothing_changed page xs w
  register_loaded BalTake at xs = nothing_changed page xs w

  load_by_reach : (r : Reach) (op : LoadOp) (rt at : ℕ) (xs : List Access) → Stays page xs w (loaded_from r op rt at (machine_with cpu w)).board
  load_by_reach InMemory op rt at xs = page_touched page at xs w
  load_by_reach (AtRegister d) op rt at xs = register_loaded d at xs
  load_by_reach Nowhere op rt at xs = nothing_changed page xs w

  load_stays : (op : LoadOp) (rt : ℕ) (found : Result ℕ Exc) (xs : List Access) → Stays page xs w (loaded op rt found (machine_with cpu w)).board
  load_stays op rt (Err e) xs = nothing_changed page xs w
  load_stays op rt (Ok at) xs = load_by_reach (reach w Load (load_size op) at) op rt at xs

  -- a store to memory
  pub page_stored : (size : Size) (value at : ℕ) → first_byte size at + bytes_of size ≤ length w.memory → at % alignment size ≡ 0
      → Stays page (record { page = page_number at; kind = Store } ∷ []) w (memory_stored size value at w)
  page_stored size value at fits aligned =
      let other : (at / 4096 ≡ page → ⊥) → page_bytes page (bytes_after size value at w.memory) ≡ page_bytes page w.memory = other_page page size value at w.memory aligned fits in
      record {
        size = length-after size value at w.memory fits;
        pages = length-set w.devices.balloon.given (page_number at) false;
        bytes = λ avoided free. other (λ e. avoided 0 (record { page = page_number at; kind = Store }) (omega arith) (record { its_page = e; its_kind = refl }));
        zeros = λ is. inl (given_before_take page (page_number at) w.devices.balloon is, other (λ e. not_given e is));
      }
    where
      not_given : at / 4096 ≡ page → is_given_page page (memory_stored size value at w) ≡ true → ⊥
      not_given e is =
          let P : ℕ → Type 0 = λ p. is_given_page p (memory_stored size value at w) ≡ true in
          let mine : is_given_page (at / 4096) (memory_stored size value at w) ≡ true = subst P (sym e) is in
          let no = taken_page_is_not_given (at / 4096) w.devices.balloon in
          cc

  -- a store to BAL_GIVE of a page that can be given, and of another
  abbrev given_board : ℕ → Option ℕ → Board
  given_board value cleared =
      record { memory = given_away cleared w.memory; devices = record w.devices { balloon = page_given value w.devices.balloon } }

  own_page : (value : ℕ) → can_be_given value w.devices.balloon ≡ true → IsCleared value (given_board value (Some value))
  own_page value can =
      let cleared = cleared_page value w.memory in
      cleared ∙ ap zeros_of (sym (ap length cleared ∙ length-zeros (length (page_bytes value w.memory))))

  page_was_given : (value : ℕ) → can_be_given value w.devices.balloon ≡ true → (page ≡ value) ⊎ (page ≡ value → ⊥) → Stays page [] w (given_board value (Some value))
  page_was_given value can (inl same) = record {
    size = cleared_size value w.memory;
    pages = length-set w.devices.balloon.given value true;
    bytes = λ avoided free.
        let P : ℕ → Type 0 = λ p. is_given_page p (given_board value (Some value)) ≡ false in
        absurd (true≢false (sym (given_page_is_given value w.devices.balloon can) ∙ subst P same free));
    zeros = λ is. let P : ℕ → Type 0 = λ p. IsCleared p (given_board value (Some value)) in inr (subst P (sym same) (own_page value can));
  }
  page_was_given value can (inr other) = record {
    size = cleared_size value w.memory;
    pages = length-set w.devices.balloon.given value true;
    bytes = λ avoided free. other_page_cleared value w.memory page other;
    zeros = λ is. inl (given_before_give page value w.devices.balloon other is, other_page_cleared value w.memory page other);
  }

  -- a store to BAL_GIVE of a page that can't be given
  page_was_refused : (value : ℕ) → can_be_given value w.devices.balloon ≡ false → (page ≡ value) ⊎ (page ≡ value → ⊥) → Stays page [] w (given_board value None)
  page_was_refused value cant which = record {
    size = refl;
    pages = length-set w.devices.balloon.given value true;
    bytes = λ avoided free. refl;
    zeros = λ is. inl (before which is, refl);
  }
    where
      before : (page ≡ value) ⊎ (page ≡ value → ⊥) → is_given page (page_given value w.devices.balloon) ≡ true → is_given page w.devices.balloon ≡ true
      before (inl same) is =
          let P : ℕ → Type 0 = λ p. is_given p (page_given value w.devices.balloon) ≡ true → is_given p w.devices.balloon ≡ true in
          subst P (sym same) (given_before_refused value w.devices.balloon cant) is
      before (inr other) is = given_before_give page value w.devices.balloon other is

  given_or_refused : (value : ℕ) (can : Bool) → can_be_given value w.devices.balloon ≡ can → Stays page [] w (given_board value (if can then Some value else None))
  given_or_refused value true can = page_was_given value can (cases_eq page value)
  given_or_refused value false cant = page_was_refused value cant (cases_eq page value)

  register_stays : (d : DeviceRegister) (value : ℕ) → Stays page [] w (register_stored d value w)
  register_stays ConStat value = nothing_changed page [] w
  register_stays ConIn value = nothing_changed page [] w
  register_stays ConOut value = same_pages page [] w (register_stored ConOut value w) refl refl
  register_stays BalTarget value = nothing_changed page [] w
  register_stays BalCount value = nothing_changed page [] w
  register_stays BalGive value = given_or_refused value (can_be_given value w.devices.balloon) refl
  register_stays BalTake value = record {
    size = refl;
    pages = length-set w.devices.balloon.given value false;
    bytes = λ avoided free. refl;
    zeros = λ is. inl (given_before_take page value w.devices.balloon is, refl);
  }

  store_by_reach : (r : Reach) (op : StoreOp) (rt at : ℕ) → reach w Store (store_size op) at ≡ r → at % alignment (store_size op) ≡ 0
      → Stays page (reached r Store at) w (stored_to r op rt at (machine_with cpu w)).board
  store_by_reach InMemory op rt at answered aligned = page_stored (store_size op) (reg cpu rt) at (reach_fits w Store (store_size op) at answered) aligned
  store_by_reach (AtRegister d) op rt at answered aligned = register_stays d (reg cpu rt)
  store_by_reach Nowhere op rt at answered aligned = nothing_changed page [] w

  store_or_not : (given_up : Bool) (xs : List Access) (left : Processor) (m : Machine) → Stays page xs w m.board
      → Stays page (if given_up then [] else xs) w (if given_up then machine_with left w else m).board
  store_or_not true xs left m s = nothing_changed page [] w
  store_or_not false xs left m s = s

  store_stays : (op : StoreOp) (rt : ℕ) (found : Result ℕ Exc) → IsAligned (alignment (store_size op)) found
      → Stays page (store_accesses op found (machine_with cpu w)) w (stored op rt found (machine_with cpu w)).board
  store_stays op rt (Err e) aligned = nothing_changed page (store_accesses op (Err e) (machine_with cpu w)) w
  store_stays op rt (Ok at) aligned =
      let r = reach w Store (store_size op) at in
      store_or_not (is_given_up op cpu.ll_bit) (reached r Store at) (next (with_reg rt 0 cpu)) (stored_to r op rt at (machine_with cpu w)) (store_by_reach r op rt at refl (aligned at refl))

  performed_stays : (o : Operation) → Stays page (data_accesses o (machine_with cpu w)) w (performed o (machine_with cpu w)).board
  performed_stays (OnProcessor effect) = nothing_changed page [] w
  performed_stays (Loads op rt base offset) =
      load_stays op rt (load_place op base offset cpu) (data_accesses (Loads op rt base offset) (machine_with cpu w))
  performed_stays (Stores op rt base offset) =
      store_stays op rt (store_place op base offset cpu) (place_aligned Store (store_size op) cpu (data_address cpu base offset))

module _ (page : ℕ) (cpu : Processor) (w : Board) where
  word_stays : (at : ℕ) → Stays page (word_accesses at (machine_with cpu w)) w (word_fetched at (machine_with cpu w)).board
  word_stays at =
      let o = word_operation (value_in w.memory Word at) in
      let now = (performed o (machine_with cpu (touched at w))).board in
      after_fetch page at (data_accesses o (machine_with cpu w)) w now
      (subst (λ (xs : List Access). Stays page xs (touched at w) now) (data_touched o at cpu w) (performed_stays page cpu (touched at w) o))

  fetch_by_test : (test : Bool) (at : ℕ) → Stays page (if test then word_accesses at (machine_with cpu w) else []) w (if test then word_fetched at (machine_with cpu w) else raised BusFetch (machine_with cpu w)).board
  fetch_by_test true at = word_stays at
  fetch_by_test false at = nothing_changed page [] w

  fetch_stays : (found : Result ℕ Exc) → Stays page (fetch_accesses found (machine_with cpu w)) w (fetched found (machine_with cpu w)).board
  fetch_stays (Err e) = nothing_changed page [] w
  fetch_stays (Ok at) = fetch_by_test (is_in_memory w Word at) at

  taken_or_not : (taken : Bool) → Stays page (if taken then [] else fetch_accesses (fetch_place cpu) (machine_with cpu w)) w
      (if taken then raised Interrupt (machine_with cpu w) else fetched (fetch_place cpu) (machine_with cpu w)).board
  taken_or_not true = nothing_changed page [] w
  taken_or_not false = fetch_stays (fetch_place cpu)

  after_tick_stays : Stays page (accesses_after_tick (machine_with cpu w)) w (after_tick (machine_with cpu w)).board
  after_tick_stays = taken_or_not (interrupt_taken (lines_of w) cpu.cp0)

pub step_stays : (m : Machine) (page : ℕ) → Stays page (accesses m) m.board (step m).board
unfolding accesses step
step_stays m page = after_tick_stays page (clocked m.cpu) m.board

pub zeros_stay : (m : Machine) → GivenAreZeros m.board → GivenAreZeros (step m).board
zeros_stay m given page is =
    let s = step_stays m page in
    elim (s.zeros is) [
      | inl was ↦ was.1 ∙ given page was.0 ∙ sym (ap (λ (bytes : List ℕ). zeros_of (length bytes)) was.1)
      | inr cleared ↦ cleared
    ]
