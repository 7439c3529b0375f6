-- What a step does to the given pages: the pages that it accesses are taken out of them, and then its order is followed.
use Rattle.std.proofs.Common.{ℕ, zero, suc, ◌≡◌, ◌⊎◌, inl, inr, Bool, true, false, if◌then◌else◌, List, [], ◌∷◌, Any, get_or, slice_set, Option, Some, None, Result, Ok, Err, refl, sym, ap, ◌∙◌, arith, get_or-set_other}
use Rattle.std.proofs.lemmas.Bool.{cases_eq, true≢false}
use Rattle.dev_balloon.specs.Balloon.{BalloonIs, is_given, page_taken}
use Rattle.devices.specs.declared.register.DeviceRegister.{DeviceRegister}
use Rattle.devices.specs.declared.register.DeviceRegister.TheVariants.{ConStat, ConIn, ConOut, BalTarget, BalCount, BalGive, BalTake}
use Rattle.devices.specs.Registers.{device_stored}
use Rattle.mips_cp0.specs.declared.exception.Exc.{Exc}
use Rattle.mips_cp0.specs.declared.exception.Exc.TheVariants.{Interrupt, BusFetch}
use Rattle.mips_cp0.specs.Interrupts.{interrupt_taken}
use Rattle.mips_instr.specs.declared.instr.LoadOp.{LoadOp}
use Rattle.mips_instr.specs.declared.instr.StoreOp.{StoreOp}
use Rattle.mips_tlb.specs.declared.kind.Kind.TheVariants.{Load, Store}
use Rattle.machine.specs.declared.access.Size.TheVariants.{Word}
use Rattle.machine.specs.Processor.{Processor, reg, with_reg, next, clocked}
use Rattle.machine.specs.Board.{Board, Reach, reach, is_in_memory, value_in, touched, board_loaded, lines_of}
use Rattle.machine.specs.Board.Reach.{InMemory, AtRegister, Nowhere}
use Rattle.machine.specs.Places.{fetch_place}
use Rattle.machine.specs.Operations.{Operation, word_operation}
use Rattle.machine.specs.Operations.Operation.{OnProcessor, Loads, Stores}
use Rattle.machine.specs.Step.{Machine, machine_with, raised, load_size, load_place, loaded_from, loaded}
use Rattle.machine.specs.Step.{store_size, store_place, is_given_up, stored_to, stored, performed, word_fetched, fetched, step}
use Rattle.machine.specs.Accesses.{Access, reached, placed_accesses, store_accesses, data_accesses, word_accesses, fetch_accesses, accesses}
use Rattle.machine.specs.Given.{BalloonOrder, order_of, reached_order, placed_order, store_order, operation_order, word_order, fetch_order}
use Rattle.machine.specs.Given.{balloon_order, pages_taken, ordered, AccessesPage, TakesPage, GivesPage}
use Rattle.machine.specs.Given.BalloonOrder.{Give, Take}
use Rattle.machine.proofs.Agreeing.{data_touched}
use Rattle.machine.proofs.Giving.{given_before_take, given_before_give}

-- the balloon of a board after some accesses, and after an order that followed them
abbrev Follows : List Access → Option BalloonOrder → Board → Board → Type 0
Follows xs order old new = new.devices.balloon ≡ ordered order (pages_taken xs old.devices.balloon)

-- the fetch leaves the order as it was
placed_order_touched : (op : StoreOp) (rt : ℕ) (found : Result ℕ Exc) (at : ℕ) (cpu : Processor) (w : Board)
    → placed_order op rt found (machine_with cpu (touched at w)) ≡ placed_order op rt found (machine_with cpu w)
placed_order_touched op rt (Err e) at cpu w = refl
placed_order_touched op rt (Ok found) at cpu w = refl

operation_order_touched : (o : Operation) (at : ℕ) (cpu : Processor) (w : Board) → operation_order o (machine_with cpu (touched at w)) ≡ operation_order o (machine_with cpu w)
operation_order_touched (OnProcessor effect) at cpu w = refl
operation_order_touched (Loads op rt base offset) at cpu w = refl
operation_order_touched (Stores op rt base offset) at cpu w =
    ap (λ (order : Option BalloonOrder). if is_given_up op cpu.ll_bit then None else order)
    (placed_order_touched op rt (store_place op base offset cpu) at cpu w)

module _ (cpu : Processor) (w : Board) where
  register_loaded : (d : DeviceRegister) (at : ℕ) → Follows [] None w (board_loaded (AtRegister d) at w)
  register_loaded ConStat at = refl
  register_loaded ConIn at = refl
  register_loaded ConOut at = refl
  register_loaded BalTarget at = refl
  register_loaded BalCount at = refl
  register_loaded BalGive at = refl
  register_loaded BalTake at = refl

  load_by_reach : (r : Reach) (op : LoadOp) (rt at : ℕ) → Follows (reached r Load at) None w (loaded_from r op rt at (machine_with cpu w)).board
  load_by_reach InMemory op rt at = refl
  load_by_reach (AtRegister d) op rt at = register_loaded d at
  load_by_reach Nowhere op rt at = refl

  load_follows : (op : LoadOp) (rt : ℕ) (found : Result ℕ Exc) → Follows (placed_accesses Load (load_size op) found (machine_with cpu w)) None w (loaded op rt found (machine_with cpu w)).board
  load_follows op rt (Err e) = refl
  load_follows op rt (Ok at) = load_by_reach (reach w Load (load_size op) at) op rt at

  register_stored_follows : (d : DeviceRegister) (value : ℕ) → (device_stored d value w.devices).balloon ≡ ordered (order_of d value) w.devices.balloon
  register_stored_follows ConStat value = refl
  register_stored_follows ConIn value = refl
  register_stored_follows ConOut value = refl
  register_stored_follows BalTarget value = refl
  register_stored_follows BalCount value = refl
  register_stored_follows BalGive value = refl
  register_stored_follows BalTake value = refl

  store_by_reach : (r : Reach) (op : StoreOp) (rt at : ℕ) → Follows (reached r Store at) (reached_order r (reg cpu rt)) w (stored_to r op rt at (machine_with cpu w)).board
  store_by_reach InMemory op rt at = refl
  store_by_reach (AtRegister d) op rt at = register_stored_follows d (reg cpu rt)
  store_by_reach Nowhere op rt at = refl

  store_or_not : (given_up : Bool) (xs : List Access) (order : Option BalloonOrder) (left : Processor) (m : Machine) → Follows xs order w m.board
      → Follows (if given_up then [] else xs) (if given_up then None else order) w (if given_up then machine_with left w else m).board
  store_or_not true xs order left m follows = refl
  store_or_not false xs order left m follows = follows

  -- a store that raises an exception before the bus is asked
  store_raised : (given_up : Bool) → Follows (if given_up then [] else []) (if given_up then None else None) w w
  store_raised true = refl
  store_raised false = refl

  store_follows : (op : StoreOp) (rt : ℕ) (found : Result ℕ Exc)
      → Follows (store_accesses op found (machine_with cpu w)) (store_order op rt found (machine_with cpu w)) w (stored op rt found (machine_with cpu w)).board
  store_follows op rt (Err e) = store_raised (is_given_up op cpu.ll_bit)
  store_follows op rt (Ok at) =
      let r = reach w Store (store_size op) at in
      store_or_not (is_given_up op cpu.ll_bit) (reached r Store at) (reached_order r (reg cpu rt)) (next (with_reg rt 0 cpu)) (stored_to r op rt at (machine_with cpu w)) (store_by_reach r op rt at)

  performed_follows : (o : Operation) → Follows (data_accesses o (machine_with cpu w)) (operation_order o (machine_with cpu w)) w (performed o (machine_with cpu w)).board
  performed_follows (OnProcessor effect) = refl
  performed_follows (Loads op rt base offset) = load_follows op rt (load_place op base offset cpu)
  performed_follows (Stores op rt base offset) = store_follows op rt (store_place op base offset cpu)

module _ (cpu : Processor) (w : Board) where
  word_follows : (at : ℕ) → Follows (word_accesses at (machine_with cpu w)) (word_order at (machine_with cpu w)) w (word_fetched at (machine_with cpu w)).board
  word_follows at =
      let o = word_operation (value_in w.memory Word at) in
      let same_order = operation_order_touched o at cpu w in
      let same_accesses = data_touched o at cpu w in
      performed_follows cpu (touched at w) o ∙ (λ i. ordered (same_order i) (pages_taken (same_accesses i) (touched at w).devices.balloon))

  fetch_by_test : (test : Bool) (at : ℕ) → Follows (if test then word_accesses at (machine_with cpu w) else []) (if test then word_order at (machine_with cpu w) else None) w
      (if test then word_fetched at (machine_with cpu w) else raised BusFetch (machine_with cpu w)).board
  fetch_by_test true at = word_follows at
  fetch_by_test false at = refl

  fetch_follows : (found : Result ℕ Exc) → Follows (fetch_accesses found (machine_with cpu w)) (fetch_order found (machine_with cpu w)) w (fetched found (machine_with cpu w)).board
  fetch_follows (Err e) = refl
  fetch_follows (Ok at) = fetch_by_test (is_in_memory w Word at) at

  taken_or_not : (taken : Bool) → Follows (if taken then [] else fetch_accesses (fetch_place cpu) (machine_with cpu w)) (if taken then None else fetch_order (fetch_place cpu) (machine_with cpu w)) w
      (if taken then raised Interrupt (machine_with cpu w) else fetched (fetch_place cpu) (machine_with cpu w)).board
  taken_or_not true = refl
  taken_or_not false = fetch_follows (fetch_place cpu)

pub step_follows : (m : Machine) → (step m).board.devices.balloon ≡ ordered (balloon_order m) (pages_taken (accesses m) m.board.devices.balloon)
unfolding accesses balloon_order step
step_follows m = taken_or_not (clocked m.cpu) m.board (interrupt_taken (lines_of m.board) (clocked m.cpu).cp0)

-- one of these accesses is to this page
abbrev Names : ℕ → List Access → Type 0
Names page xs = Any (λ (x : Access). x.page ≡ page) xs

named_later : (page : ℕ) (x : Access) (xs : List Access) → Names page xs → Names page (x ∷ xs)
named_later page x xs (k, y, within, at, is) = (suc k, y, omega arith, at, is)

first_or_later : (page : ℕ) (x : Access) (xs : List Access) → (page ≡ x.page) ⊎ (page ≡ x.page → ⊥) → ((page ≡ x.page → ⊥) → Names page xs) → Names page (x ∷ xs)
first_or_later page x xs (inl same) later = (0, x, omega arith, refl, sym same)
first_or_later page x xs (inr other) later = named_later page x xs (later other)

-- a page that is given, and not once the pages of some accesses were taken, is the page of one of these
accessed : (xs : List Access) (page : ℕ) (b : BalloonIs) → is_given page b ≡ true → is_given page (pages_taken xs b) ≡ false → Names page xs
accessed [] page b was isnt = absurd (true≢false (sym was ∙ isnt))
accessed (x ∷ xs) page b was isnt =
    first_or_later page x xs (cases_eq page x.page) (λ other. accessed xs page (page_taken x.page b) (get_or-set_other b.given x.page page false false other ∙ was) isnt)

-- taking pages gives none
given_before_takes : (xs : List Access) (page : ℕ) (b : BalloonIs) → is_given page (pages_taken xs b) ≡ true → is_given page b ≡ true
given_before_takes [] page b is = is
given_before_takes (x ∷ xs) page b is = given_before_take page x.page b (given_before_takes xs page (page_taken x.page b) is)

-- giving a page takes none
set_true : (xs : List Bool) (p k : ℕ) → get_or (slice_set xs p true) k false ≡ false → get_or xs k false ≡ false
set_true [] p k e = e
set_true (x ∷ xs) zero zero e = cc
set_true (x ∷ xs) zero (suc k) e = e
set_true (x ∷ xs) (suc p) zero e = e
set_true (x ∷ xs) (suc p) (suc k) e = set_true xs p k e

module _ (page : ℕ) (xs : List Access) (b : BalloonIs) where
  taken_by : (order : Option BalloonOrder) → is_given page b ≡ true → is_given page (ordered order (pages_taken xs b)) ≡ false
      → Names page xs ⊎ (order ≡ Some (Take page))
  taken_by None was isnt = inl (accessed xs page b was isnt)
  taken_by (Some (Give given)) was isnt = inl (accessed xs page b was (set_true (pages_taken xs b).given given page isnt))
  taken_by (Some (Take taken)) was isnt = by_page (cases_eq page taken)
    where
      by_page : (page ≡ taken) ⊎ (page ≡ taken → ⊥) → Names page xs ⊎ (Some (Take taken) ≡ Some (Take page))
      by_page (inl same) = inr (ap (λ (p : ℕ). Some (Take p)) (sym same))
      by_page (inr other) = inl (accessed xs page b was (sym (get_or-set_other (pages_taken xs b).given taken page false false other) ∙ isnt))

  given_by : (order : Option BalloonOrder) → is_given page b ≡ false → is_given page (ordered order (pages_taken xs b)) ≡ true → order ≡ Some (Give page)
  given_by None wasnt is = absurd (true≢false (sym (given_before_takes xs page b is) ∙ wasnt))
  given_by (Some (Take taken)) wasnt is = absurd (true≢false (sym (given_before_takes xs page b (given_before_take page taken (pages_taken xs b) is)) ∙ wasnt))
  given_by (Some (Give given)) wasnt is = by_page (cases_eq page given)
    where
      by_page : (page ≡ given) ⊎ (page ≡ given → ⊥) → Some (Give given) ≡ Some (Give page)
      by_page (inl same) = ap (λ (p : ℕ). Some (Give p)) (sym same)
      by_page (inr other) = absurd (true≢false (sym (given_before_takes xs page b (given_before_give page given (pages_taken xs b) other is)) ∙ wasnt))

pub taken_page : (m : Machine) (page : ℕ) → TakesPage page m → AccessesPage page m ⊎ (balloon_order m ≡ Some (Take page))
taken_page m page takes =
    taken_by page (accesses m) m.board.devices.balloon (balloon_order m) takes.0 (sym (ap (is_given page) (step_follows m)) ∙ takes.1)

pub given_page : (m : Machine) (page : ℕ) → GivesPage page m → balloon_order m ≡ Some (Give page)
given_page m page gives =
    given_by page (accesses m) m.board.devices.balloon (balloon_order m) gives.0 (sym (ap (is_given page) (step_follows m)) ∙ gives.1)
