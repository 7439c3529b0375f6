-- The page that a step gives is the one that is given after it and wasn't before.
use Rattle.std.proofs.Common.{ℕ, ◌≡◌, ◌⊎◌, inl, inr, Bool, true, false, if◌then◌else◌, Option, Some, None, Result, Ok, Err, refl, sym, ap, ◌∙◌}
use Rattle.std.proofs.lemmas.Bool.{cases_eq, true≢false}
use Rattle.dev_balloon.specs.Balloon.{BalloonIs, is_given, can_be_given, page_given}
use Rattle.devices.specs.declared.register.DeviceRegister.{DeviceRegister}
use Rattle.devices.specs.declared.register.DeviceRegister.TheVariants.{ConStat, ConIn, ConOut, BalTarget, BalCount, BalGive, BalTake}
use Rattle.mips_cp0.specs.declared.exception.Exc.{Exc}
use Rattle.mips_cp0.specs.declared.exception.Exc.TheVariants.{Interrupt, BusFetch}
use Rattle.mips_cp0.specs.Interrupts.{interrupt_taken}
use Rattle.mips_instr.specs.declared.instr.LoadOp.{LoadOp}
use Rattle.mips_instr.specs.declared.instr.StoreOp.{StoreOp}
use Rattle.word32.specs.Pages.{page_number}
use Rattle.mips_tlb.specs.declared.kind.Kind.TheVariants.{Load, Store}
use Rattle.machine.specs.declared.access.Size.TheVariants.{Word}
use Rattle.machine.specs.Processor.{Processor, reg, with_reg, next, clocked}
use Rattle.machine.specs.Board.{Board, Reach, reach, is_given_page, is_in_memory, value_in, touched, register_stored, board_loaded, lines_of}
use Rattle.machine.specs.Board.Reach.{InMemory, AtRegister, Nowhere}
use Rattle.machine.specs.Places.{fetch_place}
use Rattle.machine.specs.Operations.{Operation, word_operation}
use Rattle.machine.specs.Operations.Operation.{OnProcessor, Loads, Stores}
use Rattle.machine.specs.Step.{Machine, machine_with, raised, load_size, load_place, loaded_from, loaded}
use Rattle.machine.specs.Step.{store_size, store_place, is_given_up, stored_to, stored, performed, word_fetched, fetched, step}
use Rattle.machine.specs.Given.{reached_given, store_given, operation_given, word_given, fetch_given, step_given, GivesPage}
use Rattle.machine.proofs.Giving.{given_before_take, given_before_give, given_before_refused, given_page_is_given}

-- what is said of the page that was given on the way from one board to another
record Tells (page : ℕ) (g : Option ℕ) (old new : Board) : Type 0 where
  newly : is_given_page page new ≡ true → (is_given_page page old ≡ true) ⊎ (g ≡ Some page)
  is : g ≡ Some page → is_given_page page new ≡ true

module _ (page : ℕ) where
  stays : (w : Board) → Tells page None w w
  stays w = record { newly = λ is. inl is; is = λ e. cc }

  touches : (at : ℕ) (w : Board) → Tells page None w (touched at w)
  touches at w = record { newly = λ is. inl (given_before_take page (page_number at) w.devices.balloon is); is = λ e. cc }

  -- where one that can be given is given
  by_test : (value : ℕ) (b : BalloonIs) (can : Bool) → can_be_given value b ≡ can → is_given page (page_given value b) ≡ true
      → (page ≡ value) ⊎ (page ≡ value → ⊥) → (is_given page b ≡ true) ⊎ ((if can then Some value else None) ≡ Some page)
  by_test value b can e is (inr other) = inl (given_before_give page value b other is)
  by_test value b true e is (inl same) = inr (ap (λ (p : ℕ). Some p) (sym same))
  by_test value b false e is (inl same) =
      inl (given_before_refused page b (ap (λ (p : ℕ). can_be_given p b) same ∙ e) (ap (λ (p : ℕ). is_given page (page_given p b)) same ∙ is))

  some_given : (value : ℕ) (b : BalloonIs) (can : Bool) → can_be_given value b ≡ can → (if can then Some value else None) ≡ Some page → is_given page (page_given value b) ≡ true
  some_given value b true e same = ap (λ (p : ℕ). is_given p (page_given value b)) (sym (some_same same)) ∙ given_page_is_given value b e
    where
      some_same : {a b : ℕ} → Some a ≡ Some b → a ≡ b
      some_same e = cc
  some_given value b false e same = cc

  register_stored_tells : (d : DeviceRegister) (value : ℕ) (w : Board) → Tells page (reached_given (AtRegister d) value w) w (register_stored d value w)
  register_stored_tells ConStat value w = record { newly = λ is. inl is; is = λ e. cc }
  register_stored_tells ConIn value w = record { newly = λ is. inl is; is = λ e. cc }
  register_stored_tells ConOut value w = record { newly = λ is. inl is; is = λ e. cc }
  register_stored_tells BalTarget value w = record { newly = λ is. inl is; is = λ e. cc }
  register_stored_tells BalCount value w = record { newly = λ is. inl is; is = λ e. cc }
  register_stored_tells BalGive value w =
      let b = w.devices.balloon in
      record { newly = λ is. by_test value b (can_be_given value b) refl is (cases_eq page value); is = λ e. some_given value b (can_be_given value b) refl e }
  register_stored_tells BalTake value w = record { newly = λ is. inl (given_before_take page value w.devices.balloon is); is = λ e. cc }

  register_loaded_tells : (d : DeviceRegister) (at : ℕ) (w : Board) → Tells page None w (board_loaded (AtRegister d) at w)
  register_loaded_tells ConStat at w = stays w
  register_loaded_tells ConIn at w = record { newly = λ is. inl is; is = λ e. cc }
  register_loaded_tells ConOut at w = stays w
  register_loaded_tells BalTarget at w = stays w
  register_loaded_tells BalCount at w = stays w
  register_loaded_tells BalGive at w = stays w
  register_loaded_tells BalTake at w = stays w

  module _ (cpu : Processor) (w : Board) where
    load_by_reach : (r : Reach) (op : LoadOp) (rt at : ℕ) → Tells page None w (loaded_from r op rt at (machine_with cpu w)).board
    load_by_reach InMemory op rt at = touches at w
    load_by_reach (AtRegister d) op rt at = register_loaded_tells d at w
    load_by_reach Nowhere op rt at = stays w

    load_tells : (op : LoadOp) (rt : ℕ) (found : Result ℕ Exc) → Tells page None w (loaded op rt found (machine_with cpu w)).board
    load_tells op rt (Err e) = stays w
    load_tells op rt (Ok at) = load_by_reach (reach w Load (load_size op) at) op rt at

    store_by_reach : (r : Reach) (op : StoreOp) (rt at : ℕ) → Tells page (reached_given r (reg cpu rt) w) w (stored_to r op rt at (machine_with cpu w)).board
    store_by_reach InMemory op rt at = record { newly = λ is. inl (given_before_take page (page_number at) w.devices.balloon is); is = λ e. cc }
    store_by_reach (AtRegister d) op rt at = register_stored_tells d (reg cpu rt) w
    store_by_reach Nowhere op rt at = stays w

    store_or_not : (given_up : Bool) (g : Option ℕ) (left : Processor) (m : Machine) → Tells page g w m.board
        → Tells page (if given_up then None else g) w (if given_up then machine_with left w else m).board
    store_or_not true g left m tells = stays w
    store_or_not false g left m tells = tells

    -- a store that raises an exception before the bus is asked
    store_raised : (given_up : Bool) → Tells page (if given_up then None else None) w w
    store_raised true = stays w
    store_raised false = stays w

    store_tells : (op : StoreOp) (rt : ℕ) (found : Result ℕ Exc) → Tells page (store_given op rt found (machine_with cpu w)) w (stored op rt found (machine_with cpu w)).board
    store_tells op rt (Err e) = store_raised (is_given_up op cpu.ll_bit)
    store_tells op rt (Ok at) =
        let r = reach w Store (store_size op) at in
        store_or_not (is_given_up op cpu.ll_bit) (reached_given r (reg cpu rt) w) (next (with_reg rt 0 cpu)) (stored_to r op rt at (machine_with cpu w)) (store_by_reach r op rt at)

    performed_tells : (o : Operation) → Tells page (operation_given o (machine_with cpu w)) w (performed o (machine_with cpu w)).board
    performed_tells (OnProcessor effect) = stays w
    performed_tells (Loads op rt base offset) = load_tells op rt (load_place op base offset cpu)
    performed_tells (Stores op rt base offset) = store_tells op rt (store_place op base offset cpu)

  after_touch : (at : ℕ) (g : Option ℕ) (w new : Board) → Tells page g (touched at w) new → Tells page g w new
  after_touch at g w new tells = record { newly = λ is. before (tells.newly is); is = tells.is }
    where
      before : (is_given_page page (touched at w) ≡ true) ⊎ (g ≡ Some page) → (is_given_page page w ≡ true) ⊎ (g ≡ Some page)
      before (inl was) = inl (given_before_take page (page_number at) w.devices.balloon was)
      before (inr gives) = inr gives

  module _ (cpu : Processor) (w : Board) where
    fetch_by_test : (test : Bool) (at : ℕ) → Tells page (if test then word_given at (machine_with cpu w) else None) w
        (if test then word_fetched at (machine_with cpu w) else raised BusFetch (machine_with cpu w)).board
    fetch_by_test true at =
        let o = word_operation (value_in w.memory Word at) in
        after_touch at (word_given at (machine_with cpu w)) w (word_fetched at (machine_with cpu w)).board (performed_tells cpu (touched at w) o)
    fetch_by_test false at = stays w

    fetch_tells : (found : Result ℕ Exc) → Tells page (fetch_given found (machine_with cpu w)) w (fetched found (machine_with cpu w)).board
    fetch_tells (Err e) = stays w
    fetch_tells (Ok at) = fetch_by_test (is_in_memory w Word at) at

    taken_or_not : (taken : Bool) → Tells page (if taken then None else fetch_given (fetch_place cpu) (machine_with cpu w)) w
        (if taken then raised Interrupt (machine_with cpu w) else fetched (fetch_place cpu) (machine_with cpu w)).board
    taken_or_not true = stays w
    taken_or_not false = fetch_tells (fetch_place cpu)

step_tells : (page : ℕ) (m : Machine) → Tells page (step_given m) m.board (step m).board
unfolding step_given step
step_tells page m = taken_or_not page (clocked m.cpu) m.board (interrupt_taken (lines_of m.board) (clocked m.cpu).cp0)

pub newly_given : (m : Machine) (page : ℕ) → GivesPage page m → step_given m ≡ Some page
newly_given m page gives = by_cases ((step_tells page m).newly gives.1)
  where
    by_cases : (is_given_page page m.board ≡ true) ⊎ (step_given m ≡ Some page) → step_given m ≡ Some page
    by_cases (inl was) = absurd (true≢false (sym was ∙ gives.0))
    by_cases (inr is) = is

pub given_after : (m : Machine) (page : ℕ) → step_given m ≡ Some page → is_given_page page (step m).board ≡ true
given_after m page e = (step_tells page m).is e
