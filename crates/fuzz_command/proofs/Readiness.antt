-- How a machine comes to where it is ready, and that nothing waits in its console then.
use Rattle.std.proofs.Common.{ℕ, zero, suc, ◌≡◌, ◌/◌, ◌%◌, Bool, true, false, ◌==◌, ◌&&◌, ◌||◌, if◌then◌else◌, List, [], ◌∷◌, take, drop, Some, None, Result, Ok, Err, refl, sym, ap, subst, ◌∙◌, eq-eqb}
use Rattle.std.specs.List.{list_any}
use Rattle.std.proofs.lemmas.Bool.{true≢false}
use Rattle.dev_console.specs.Console.{ConsoleIs}
use Rattle.devices.specs.Devices.{DevicesAre}
use Rattle.devices.specs.Registers.{device_loaded, device_stored}
use Rattle.devices.specs.declared.register.DeviceRegister.{DeviceRegister}
use Rattle.devices.specs.declared.register.DeviceRegister.TheVariants.{ConStat, ConIn, ConOut, BalTarget, BalCount, BalGive, BalTake}
use Rattle.mips_cp0.specs.Interrupts.{interrupt_taken}
use Rattle.mips_cp0.specs.declared.exception.Exc.{Exc}
use Rattle.mips_cp0.specs.declared.exception.Exc.TheVariants.{Interrupt, BusFetch}
use Rattle.mips_instr.specs.declared.instr.LoadOp.{LoadOp}
use Rattle.mips_instr.specs.declared.instr.StoreOp.{StoreOp}
use Rattle.mips_tlb.specs.declared.kind.Kind.TheVariants as kind
use Rattle.machine.specs.declared.access.Size.TheVariants.{Word}
use Rattle.machine.specs.Processor.{Processor, reg, with_reg, next, clocked}
use Rattle.machine.specs.Board.{Board, Reach, reach, is_in_memory, lines_of, touched, value_in}
use Rattle.machine.specs.Board.Reach.{InMemory, AtRegister, Nowhere}
use Rattle.machine.specs.Operations.{Operation, word_operation}
use Rattle.machine.specs.Operations.Operation.{OnProcessor, Loads, Stores}
use Rattle.machine.specs.Places.{fetch_place}
use Rattle.machine.specs.Step.{Machine, machine_with, step, load_size, load_place, loaded, loaded_from, store_size, store_place, stored, stored_to, is_given_up, performed, word_fetched, fetched, raised}
use Rattle.runs.specs.Endings.{IsFirst, ending_after, has_address, state_ending}
use Rattle.runs.specs.Entries.{has_entered}
use Rattle.runs.specs.Loops.{is_loop}
use Rattle.runs.specs.Runs.{after_run, after_steps, fed}
use Rattle.runs.specs.declared.ending.Ending.TheVariants.{Loop, Exception, Address}
use Rattle.runs.specs.declared.ending.Until.{Until}
use Rattle.runs.specs.declared.running.Ran.{Ran}
use Rattle.fuzz_command.specs.Settings.{ComesTo, IsSilent}

-- ---- the console

loaded_silent : (d : DeviceRegister) (ds : DevicesAre) → ds.console.input ≡ [] → (device_loaded d ds).console.input ≡ []
loaded_silent ConStat ds is = is
loaded_silent ConIn ds is = ap (drop 1) is
loaded_silent ConOut ds is = is
loaded_silent BalTarget ds is = is
loaded_silent BalCount ds is = is
loaded_silent BalGive ds is = is
loaded_silent BalTake ds is = is

put_out : (test : Bool) (written c : ConsoleIs) → written.input ≡ c.input → (if test then written else c).input ≡ c.input
put_out true written c same = same
put_out false written c same = refl

stored_silent : (d : DeviceRegister) (value : ℕ) (ds : DevicesAre) → ds.console.input ≡ [] → (device_stored d value ds).console.input ≡ []
stored_silent ConStat value ds is = is
stored_silent ConIn value ds is = is
stored_silent ConOut value ds is = put_out _ _ ds.console refl ∙ is
stored_silent BalTarget value ds is = is
stored_silent BalCount value ds is = is
stored_silent BalGive value ds is = is
stored_silent BalTake value ds is = is

module _ (cpu : Processor) (w : Board) (is : w.devices.console.input ≡ []) where
  load_by_reach : (r : Reach) (op : LoadOp) (rt at : ℕ) → IsSilent (loaded_from r op rt at (machine_with cpu w))
  load_by_reach InMemory op rt at = is
  load_by_reach (AtRegister d) op rt at = loaded_silent d w.devices is
  load_by_reach Nowhere op rt at = is

  load_silent : (op : LoadOp) (rt : ℕ) (found : Result ℕ Exc) → IsSilent (loaded op rt found (machine_with cpu w))
  load_silent op rt (Err e) = is
  load_silent op rt (Ok at) = load_by_reach (reach w kind.Load (load_size op) at) op rt at

  store_by_reach : (r : Reach) (op : StoreOp) (rt at : ℕ) → IsSilent (stored_to r op rt at (machine_with cpu w))
  store_by_reach InMemory op rt at = is
  store_by_reach (AtRegister d) op rt at = stored_silent d (reg cpu rt) w.devices is
  store_by_reach Nowhere op rt at = is

  store_or_not : (given_up : Bool) (left : Processor) (m : Machine) → IsSilent m → IsSilent (if given_up then machine_with left w else m)
  store_or_not true left m s = is
  store_or_not false left m s = s

  store_silent : (op : StoreOp) (rt : ℕ) (found : Result ℕ Exc) → IsSilent (stored op rt found (machine_with cpu w))
  store_silent op rt (Err e) = is
  store_silent op rt (Ok at) =
      let r = reach w kind.Store (store_size op) at in
      store_or_not (is_given_up op cpu.ll_bit) (next (with_reg rt 0 cpu)) (stored_to r op rt at (machine_with cpu w)) (store_by_reach r op rt at)

  performed_silent : (o : Operation) → IsSilent (performed o (machine_with cpu w))
  performed_silent (OnProcessor effect) = is
  performed_silent (Loads op rt base offset) = load_silent op rt (load_place op base offset cpu)
  performed_silent (Stores op rt base offset) = store_silent op rt (store_place op base offset cpu)

module _ (cpu : Processor) (w : Board) (is : w.devices.console.input ≡ []) where
  fetch_by_test : (test : Bool) (at : ℕ) → IsSilent (if test then word_fetched at (machine_with cpu w) else raised BusFetch (machine_with cpu w))
  fetch_by_test true at = performed_silent cpu (touched at w) is (word_operation (value_in w.memory Word at))
  fetch_by_test false at = is

  fetch_silent : (found : Result ℕ Exc) → IsSilent (fetched found (machine_with cpu w))
  fetch_silent (Err e) = is
  fetch_silent (Ok at) = fetch_by_test (is_in_memory w Word at) at

  taken_or_not : (taken : Bool) → IsSilent (if taken then raised Interrupt (machine_with cpu w) else fetched (fetch_place cpu) (machine_with cpu w))
  taken_or_not true = is
  taken_or_not false = fetch_silent (fetch_place cpu)

step_silent : (m : Machine) → IsSilent m → IsSilent (step m)
unfolding step
step_silent m is = taken_or_not (clocked m.cpu) m.board is (interrupt_taken (lines_of m.board) (clocked m.cpu).cp0)

steps_silent : (count : ℕ) (m : Machine) → IsSilent m → IsSilent (after_steps count m)
steps_silent zero m is = is
steps_silent (suc n) m is = step_silent (after_steps n m) (steps_silent n m is)

pub still_silent : (count : ℕ) (m now : Machine) → now ≡ after_steps count m → IsSilent m → IsSilent now
still_silent count m now made is = subst IsSilent (sym made) (steps_silent count m is)

-- ---- an address

-- a run without input makes its steps alone
pub steps_alone : (ran : Ran) (m now : Machine) → now ≡ after_run ran [] m → now ≡ after_steps ran.steps m
steps_alone ran m now is = is ∙ ap (λ (bytes : List ℕ). after_steps ran.steps (fed bytes m)) (none ran.taken)
  where
    none : (n : ℕ) → take n (let bytes : List ℕ = [] in bytes) ≡ []
    none zero = refl
    none (suc n) = refl

at_address : (address pc : ℕ) → pc ≡ address → list_any (λ (a : ℕ). a == pc) (address ∷ []) ≡ true
at_address address pc is = subst (λ (a : ℕ). list_any (λ (b : ℕ). b == pc) (a ∷ []) ≡ true) is (here pc)
  where
    here : (n : ℕ) → list_any (λ (b : ℕ). b == n) (n ∷ []) ≡ true
    here n = ap (λ (b : Bool). b || false) (eq-eqb n n refl)

-- where a run ends at an address it doesn't go on from there
not_there : (until : Until) (m : Machine) (address : ℕ) → until.addresses.items ≡ address ∷ [] → state_ending until m ≡ None → m.cpu.pc ≡ address → ⊥
not_there until m address one none there =
    by_tests (until.loops && is_loop m) (has_address until m.cpu.pc)
    (ap (list_any (λ (a : ℕ). a == m.cpu.pc)) one ∙ at_address address m.cpu.pc there) none
  where
    by_tests : (loops at : Bool) → at ≡ true → (if loops then Some (Loop m.cpu.pc) else if at then Some (Address m.cpu.pc) else None) ≡ None → ⊥
    by_tests true at is e = cc
    by_tests false true is e = cc
    by_tests false false is e = true≢false (sym is)

ended_there : (until : Until) (m : Machine) (address k : ℕ) → until.addresses.items ≡ address ∷ [] → ending_after until m k ≡ None → (after_steps k m).cpu.pc ≡ address → ⊥
ended_there until m address zero one none there = not_there until m address one none there
ended_there until m address (suc k) one none there =
    by_test (until.exceptions && has_entered (after_steps k m) (after_steps (suc k) m)) none
  where
    by_test : (entered : Bool) → (if entered then Some (Exception ((after_steps (suc k) m).cpu.cp0.cause / 4 % 32) (after_steps (suc k) m).cpu.cp0.epc) else state_ending until (after_steps (suc k) m)) ≡ None → ⊥
    by_test true e = cc
    by_test false e = not_there until (after_steps (suc k) m) address one e there

-- so it is the first state at which PC is the address
pub comes_first : (until : Until) (m now : Machine) (ran : Ran) (address : ℕ) → until.addresses.items ≡ address ∷ [] → IsFirst until (fed (take ran.taken []) m) ran → now ≡ after_steps ran.steps m
    → now.cpu.pc ≡ address → ComesTo address m ran.steps
comes_first until m now ran address one is made there = record {
  there = ap (λ (n : Machine). n.cpu.pc) (sym made) ∙ there;
  first = λ k before at. ended_there until m address k one (ap (λ (bytes : List ℕ). ending_after until (fed bytes m) k) (sym (none ran.taken)) ∙ is.none_before k before) at;
}
  where
    none : (n : ℕ) → take n (let bytes : List ℕ = [] in bytes) ≡ []
    none zero = refl
    none (suc n) = refl
