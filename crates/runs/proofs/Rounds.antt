-- A machine in a loop stays there.
use Rattle.std.proofs.Common.{ℕ, zero, suc, ◌≡◌, ◌+◌, ◌/◌, ◌%◌, ◌^◌, ◌==◌, ◌&&◌, ◌⊎◌, inl, inr, not, is_none, is_some, slice_set, Bool, true, false, if◌then◌else◌, List, find, Option, Some, None, Result, Ok, Err, refl, sym, ap, subst, ◌∙◌, arith, eqb-true, add-one}
use Rattle.std.proofs.lemmas.Bool.{and_parts}
use Rattle.std.specs.Int.Bits.{or_add_and}
use Rattle.std.proofs.lemmas.Nat.{and_or_self}
use Rattle.std.proofs.lemmas.List.{set-get_or}
use Rattle.std.proofs.lemmas.Bool.{cases_lt}
use Rattle.word32.specs.Pages.{page_number}
use Rattle.mips_cp0.specs.declared.exception.Exc.{Exc}
use Rattle.mips_cp0.specs.declared.exception.Exc.TheVariants as exc
use Rattle.mips_cp0.specs.Bits.{with_bits}
use Rattle.mips_cp0.specs.Cause.{cause_ip7}
use Rattle.mips_cp0.specs.Interrupts.{interrupt_taken, is_taken}
use Rattle.mips_cp0.specs.Registers.{SystemRegisters}
use Rattle.mips_cp0.specs.Time.{after_ticks}
use Rattle.mips_instr.specs.Targets.{slot_address, branch_target, jump_target}
use Rattle.mips_instr.specs.declared.instr.Instr.{Instr}
use Rattle.mips_instr.specs.declared.instr.Instr.TheVariants as instr
use Rattle.mips_instr.specs.declared.instr.JumpOp.{JumpOp}
use Rattle.mips_instr.specs.declared.instr.JumpOp.TheVariants.{J, Jal}
use Rattle.mips_instr.specs.declared.instr.ShiftOp.TheVariants.{Sll}
use Rattle.mips_isa.specs.Table.{readings_of, special_readings}
use Rattle.mips_alu.specs.Comparing.{compare_result}
use Rattle.mips_tlb.specs.Entries.{matches}
use Rattle.mips_tlb.specs.Segments.{is_mapped, is_refused, unmapped_address}
use Rattle.mips_tlb.specs.Translation.{address_error, through_entry}
use Rattle.mips_tlb.specs.declared.kind.Kind.TheVariants.{Fetch}
use Rattle.machine.specs.declared.access.Size.TheVariants.{Word}
use Rattle.machine.specs.Processor.{Processor, reg, jumped, next}
use Rattle.machine.specs.Board.{Board, is_given_page, is_in_memory, lines_of, touched, value_in}
use Rattle.machine.specs.Places.{place}
use Rattle.machine.specs.Meaning.{branch_condition, is_likely, is_likely_zero, links, zero_condition}
use Rattle.machine.specs.Operations.{branched, decoded, done_or_excepted, instruction_of, jumped_far, linked_if, operation_of, outside_slot, word_operation}
use Rattle.machine.specs.Step.{Machine, after_tick, fetched, machine_with, performed, raised, step, word_fetched}
use Rattle.runs.specs.Loops.{at_branch, fetched_word, in_its_slot, is_loop, is_number, is_quiet, jumped_to, leads_back, led_to, taken_to, word_at_place, word_leads}
use Rattle.runs.specs.Runs.{after_steps}

-- ---- what ticks leave

-- other registers whose clock stands elsewhere: the timer may have become pending
record Later (r r' : SystemRegisters) : Type 0 where
  pub status : r'.status ≡ r.status
  pub entry_hi : r'.entry_hi ≡ r.entry_hi
  pub cause : (r'.cause ≡ r.cause) ⊎ (r'.cause ≡ with_bits cause_ip7 r.cause)

twice : (cause : ℕ) → with_bits cause_ip7 (with_bits cause_ip7 cause) ≡ with_bits cause_ip7 cause
twice cause = omega (arith, or_add_and (with_bits cause_ip7 cause) cause_ip7, and_or_self cause_ip7 cause)

pended : (now : Bool) (cause start : ℕ) → (cause ≡ start) ⊎ (cause ≡ with_bits cause_ip7 start)
    → ((if now then with_bits cause_ip7 cause else cause) ≡ start) ⊎ ((if now then with_bits cause_ip7 cause else cause) ≡ with_bits cause_ip7 start)
pended false cause start before = before
pended true cause start (inl same) = inr (ap (with_bits cause_ip7) same)
pended true cause start (inr set) = inr (ap (with_bits cause_ip7) set ∙ twice start)

later : (k : ℕ) (r : SystemRegisters) → Later r (after_ticks k r)
later zero r = record { status = refl; entry_hi = refl; cause = inl refl }
later (suc k) r =
    let before = later k r in
    let now = after_ticks k r in
    record {
      status = before.status;
      entry_hi = before.entry_hi;
      cause = pended ((now.count + 1) % 2 ^ 32 == now.compare) now.cause r.cause before.cause;
    }

untaken : (lines status cause now : ℕ) → is_taken lines status cause ≡ false → is_taken lines status (with_bits cause_ip7 cause) ≡ false
    → (now ≡ cause) ⊎ (now ≡ with_bits cause_ip7 cause) → is_taken lines status now ≡ false
untaken lines status cause now plain timed (inl same) = ap (is_taken lines status) same ∙ plain
untaken lines status cause now plain timed (inr set) = ap (is_taken lines status) set ∙ timed

not_true : (b : Bool) → not b ≡ true → b ≡ false
not_true false e = refl
not_true true e = absurd (cc)

quiet_later : (lines : ℕ) (r r' : SystemRegisters) → is_quiet lines r ≡ true → Later r r' → interrupt_taken lines r' ≡ false
quiet_later lines r r' quiet is =
    let parts = and_parts _ _ quiet in
    ap (λ (status : ℕ). is_taken lines status r'.cause) is.status
    ∙ untaken lines r.status r.cause r'.cause (not_true _ parts.0) (not_true _ parts.1) is.cause

-- where a fetch leads, by the registers that it goes by
place_by : Processor → ℕ → ℕ → ℕ → Result ℕ Exc
place_by cpu address status entry_hi =
    if address % 4 == 0
    then (if is_refused status address then Err (address_error Fetch address)
    else if is_mapped status address then through_entry Fetch address (find (matches address (entry_hi % 2 ^ 8)) cpu.tlb)
    else Ok (unmapped_address address))
    else Err (address_error Fetch address)

same_place : (cpu : Processor) (r' : SystemRegisters) (address : ℕ) → Later cpu.cp0 r' → place Fetch Word (record cpu { cp0 = r' }) address ≡ place Fetch Word cpu address
unfolding place_by
same_place cpu r' address is = λ i. place_by cpu address (is.status i) (is.entry_hi i)

-- ---- a word that is fetched

record IsFetched (m : Machine) (address word : ℕ) : Type 0 where
  pub at : ℕ
  pub placed : place Fetch Word m.cpu address ≡ Ok at
  pub there : is_in_memory m.board Word at ≡ true
  pub apart : is_given_page (page_number at) m.board ≡ false
  pub value : value_in m.board.memory Word at ≡ word

answered : (board : Board) (at word : ℕ) (there given : Bool) (value : ℕ) → (if there && not given then Some value else None) ≡ Some word → (there ≡ true) × (given ≡ false) × (value ≡ word)
answered board at word true false value e = (refl, refl, cc)
answered board at word true true value e = absurd (cc)
answered board at word false given value e = absurd (cc)

fetched_by : (m : Machine) (address word : ℕ) (found : Result ℕ Exc) → place Fetch Word m.cpu address ≡ found → word_at_place m.board found ≡ Some word → IsFetched m address word
fetched_by m address word (Err e) is e' = absurd (cc)
fetched_by m address word (Ok at) is e =
    let parts = answered m.board at word (is_in_memory m.board Word at) (is_given_page (page_number at) m.board) (value_in m.board.memory Word at) e in
    record { at = at; placed = is; there = parts.0; apart = parts.1; value = parts.2 }

fetched_here : (m : Machine) (address word : ℕ) → fetched_word m address ≡ Some word → IsFetched m address word
fetched_here m address word e = fetched_by m address word (place Fetch Word m.cpu address) refl e

untouched : (board : Board) (at : ℕ) → is_given_page (page_number at) board ≡ false → touched at board ≡ board
untouched board at apart =
    let given = board.devices.balloon.given in
    let same : slice_set given (page_number at) false ≡ given = ap (λ (now : Bool). slice_set given (page_number at) now) (sym apart) ∙ set-get_or given (page_number at) false in
    ap (λ (now : List Bool). record board { devices = record board.devices { balloon = record board.devices.balloon { given = now } } }) same

-- a step of a processor that stands at a word, with the clock moved
stepped_by : (m : Machine) (cpu : Processor) (address word : ℕ) → IsFetched m address word → interrupt_taken (lines_of m.board) cpu.cp0 ≡ false
    → place Fetch Word cpu cpu.pc ≡ place Fetch Word m.cpu address → after_tick (machine_with cpu m.board) ≡ performed (word_operation word) (machine_with cpu m.board)
stepped_by m cpu address word f quiet same =
    ap (λ (b : Bool). if b then raised exc.Interrupt (machine_with cpu m.board) else fetched (place Fetch Word cpu cpu.pc) (machine_with cpu m.board)) quiet
    ∙ ap (λ (p : Result ℕ Exc). fetched p (machine_with cpu m.board)) (same ∙ f.placed)
    ∙ ap (λ (b : Bool). if b then word_fetched f.at (machine_with cpu m.board) else raised exc.BusFetch (machine_with cpu m.board)) f.there
    ∙ (λ i. performed (word_operation (f.value i)) (machine_with cpu (untouched m.board f.at f.apart i)))

-- ---- a branch or jump that is taken

outside : (done cpu : Processor) → cpu.slot ≡ None → outside_slot done cpu ≡ Ok done
outside done cpu none = ap (λ (s : Option ℕ). if is_some s then Err exc.Reserved else Ok done) none

some_inside : (a b : ℕ) → Some a ≡ Some b → a ≡ b
some_inside a b e = cc

-- what a branch or jump does to the processor
leads : (cpu : Processor) (done : Processor) (target : ℕ) → cpu.slot ≡ None → done ≡ jumped target cpu → done_or_excepted (outside_slot done cpu) cpu ≡ jumped target cpu
leads cpu done target none is = ap (λ (d : Result Processor Exc). done_or_excepted d cpu) (outside done cpu none) ∙ is

taken_leads : (taken likely : Bool) (offset target : ℕ) (cpu : Processor) → taken_to taken (branch_target cpu.pc offset) ≡ Some target → branched taken likely offset cpu ≡ jumped target cpu
taken_leads true likely offset target cpu e = ap (λ (t : ℕ). jumped t cpu) (some_inside _ _ e)
taken_leads false likely offset target cpu e = absurd (cc)

zero_leads : (link taken likely : Bool) (offset target : ℕ) (cpu : Processor) → taken_to (not link && taken) (branch_target cpu.pc offset) ≡ Some target
    → branched taken likely offset (linked_if link cpu) ≡ jumped target cpu
zero_leads false taken likely offset target cpu e = taken_leads taken likely offset target cpu e
zero_leads true taken likely offset target cpu e = absurd (cc)

jump_leads : (op : JumpOp) (target to : ℕ) (cpu : Processor) → jumped_to op (jump_target cpu.pc target) ≡ Some to → jumped_far op target cpu ≡ jumped to cpu
jump_leads J target to cpu e = ap (λ (t : ℕ). jumped t cpu) (some_inside _ _ e)
jump_leads Jal target to cpu e = absurd (cc)

instr_leads : (i : Instr) (target : ℕ) (m : Machine) → m.cpu.slot ≡ None → led_to m.cpu i ≡ Some target → performed (operation_of i) m ≡ machine_with (jumped target m.cpu) m.board
unfolding operation_of
instr_leads (instr.Branch op rs rt offset) target m none e =
    let taken = compare_result (branch_condition op) (reg m.cpu rs) (reg m.cpu rt) in
    ap (λ (c : Processor). machine_with c m.board) (leads m.cpu (branched taken (is_likely op) offset m.cpu) target none (taken_leads taken (is_likely op) offset target m.cpu e))
instr_leads (instr.BranchZero op rs offset) target m none e =
    let taken = compare_result (zero_condition op) (reg m.cpu rs) 0 in
    ap (λ (c : Processor). machine_with c m.board)
    (leads m.cpu (branched taken (is_likely_zero op) offset (linked_if (links op) m.cpu)) target none (zero_leads (links op) taken (is_likely_zero op) offset target m.cpu e))
instr_leads (instr.Jump op to) target m none e =
    ap (λ (c : Processor). machine_with c m.board) (leads m.cpu (jumped_far op to m.cpu) target none (jump_leads op to target m.cpu e))
instr_leads (instr.JumpRegister rs) target m none e =
    ap (λ (c : Processor). machine_with c m.board) (leads m.cpu (jumped (reg m.cpu rs) m.cpu) target none (ap (λ (t : ℕ). jumped t m.cpu) (some_inside _ _ e)))
instr_leads (instr.ThreeRegister op rd rs rt) target m none e = absurd (cc)
instr_leads (instr.ConditionalMove op rd rs rt) target m none e = absurd (cc)
instr_leads (instr.Shift op rd rt sa) target m none e = absurd (cc)
instr_leads (instr.ShiftVariable op rd rt rs) target m none e = absurd (cc)
instr_leads (instr.MoveFrom op rd) target m none e = absurd (cc)
instr_leads (instr.MoveTo op rs) target m none e = absurd (cc)
instr_leads (instr.Multiply op rs rt) target m none e = absurd (cc)
instr_leads (instr.Divide op rs rt) target m none e = absurd (cc)
instr_leads (instr.Count op rd rs) target m none e = absurd (cc)
instr_leads (instr.Trap op rs rt code) target m none e = absurd (cc)
instr_leads (instr.TrapImmediate op rs imm) target m none e = absurd (cc)
instr_leads (instr.Syscall code) target m none e = absurd (cc)
instr_leads (instr.Break code) target m none e = absurd (cc)
instr_leads (instr.Sync stype) target m none e = absurd (cc)
instr_leads (instr.JumpLinkRegister rd rs) target m none e = absurd (cc)
instr_leads (instr.Immediate op rt rs imm) target m none e = absurd (cc)
instr_leads (instr.LoadUpper rt imm) target m none e = absurd (cc)
instr_leads (instr.Cache op hint base offset) target m none e = absurd (cc)
instr_leads (instr.Cp0Move op rt rd select) target m none e = absurd (cc)
instr_leads (instr.Tlb op) target m none e = absurd (cc)
instr_leads instr.Eret target m none e = absurd (cc)
instr_leads (instr.Wait code) target m none e = absurd (cc)
instr_leads (instr.Coprocessor op code) target m none e = absurd (cc)
instr_leads (instr.Load op rt base offset) target m none e = absurd (cc)
instr_leads (instr.Store op rt base offset) target m none e = absurd (cc)

word_leads_on : (word target : ℕ) (i : Option Instr) (m : Machine) → instruction_of word ≡ i → m.cpu.slot ≡ None → word_leads m.cpu i ≡ Some target
    → performed (word_operation word) m ≡ machine_with (jumped target m.cpu) m.board
unfolding word_operation
word_leads_on word target None m is none e = absurd (cc)
word_leads_on word target (Some i) m is none e = ap (λ (o : Option Instr). performed (decoded word o) m) is ∙ instr_leads i target m none e

-- ---- a NOP

nop_is : instruction_of 0 ≡ Some (instr.Shift Sll 0 0 0)
unfolding readings_of special_readings
nop_is = refl

nop_goes_on : (m : Machine) → performed (word_operation 0) m ≡ machine_with (next m.cpu) m.board
unfolding word_operation operation_of
nop_goes_on m = ap (λ (o : Option Instr). performed (decoded 0 o) m) nop_is

-- ---- a loop

record IsRound (m : Machine) : Type 0 where
  pub word : ℕ
  pub outside : m.cpu.slot ≡ None
  pub branch : IsFetched m m.cpu.pc word
  pub back : word_leads m.cpu (instruction_of word) ≡ Some m.cpu.pc
  pub nop : IsFetched m (slot_address m.cpu.pc) 0
  pub quiet : is_quiet (lines_of m.board) m.cpu.cp0 ≡ true

none_of : (s : Option ℕ) → is_none s ≡ true → s ≡ None
none_of None e = refl
none_of (Some a) e = absurd (cc)

number_of : (n : ℕ) (o : Option ℕ) → is_number n o ≡ true → o ≡ Some n
number_of n None e = absurd (cc)
number_of n (Some k) e = ap Some (eqb-true k n e)

back_by : (m : Machine) (found : Option ℕ) → fetched_word m m.cpu.pc ≡ found → leads_back m.cpu found ≡ true
    → (word : ℕ) × (fetched_word m m.cpu.pc ≡ Some word) × (word_leads m.cpu (instruction_of word) ≡ Some m.cpu.pc)
back_by m None is e = absurd (cc)
back_by m (Some word) is e = (word, is, number_of m.cpu.pc (word_leads m.cpu (instruction_of word)) e)

round_of : (m : Machine) → is_loop m ≡ true → IsRound m
round_of m e =
    let last = and_parts _ _ e in
    let nop = and_parts _ _ last.0 in
    let first = and_parts _ _ nop.0 in
    let back = back_by m (fetched_word m m.cpu.pc) refl first.1 in
    record {
      word = back.0;
      outside = none_of m.cpu.slot first.0;
      branch = fetched_here m m.cpu.pc back.0 back.1;
      back = back.2;
      nop = fetched_here m (slot_address m.cpu.pc) 0 (number_of 0 (fetched_word m (slot_address m.cpu.pc)) nop.1);
      quiet = last.1;
    }

-- from the branch to its slot
to_slot : (m : Machine) (k : ℕ) → IsRound m → step (at_branch k m) ≡ in_its_slot (suc k) m
unfolding step
to_slot m k round =
    let r' = after_ticks (suc k) m.cpu.cp0 in
    let cpu = record m.cpu { cp0 = r' } in
    let is = later (suc k) m.cpu.cp0 in
    stepped_by m cpu m.cpu.pc round.word round.branch (quiet_later (lines_of m.board) m.cpu.cp0 r' round.quiet is) (same_place m.cpu r' m.cpu.pc is)
    ∙ word_leads_on round.word m.cpu.pc (instruction_of round.word) (machine_with cpu m.board) refl round.outside round.back

-- and back
to_branch : (m : Machine) (k : ℕ) → IsRound m → step (in_its_slot k m) ≡ at_branch (suc k) m
unfolding step
to_branch m k round =
    let r' = after_ticks (suc k) m.cpu.cp0 in
    let cpu = record m.cpu { pc = slot_address m.cpu.pc; slot = Some m.cpu.pc; cp0 = r' } in
    let is = later (suc k) m.cpu.cp0 in
    stepped_by m cpu (slot_address m.cpu.pc) 0 round.nop (quiet_later (lines_of m.board) m.cpu.cp0 r' round.quiet is) (same_place m.cpu r' (slot_address m.cpu.pc) is)
    ∙ nop_goes_on (machine_with cpu m.board)
    ∙ ap (λ (s : Option ℕ). machine_with (record m.cpu { slot = s; cp0 = r' }) m.board) (sym round.outside)

even_rounds : (m : Machine) (k : ℕ) → IsRound m → after_steps (k + k) m ≡ at_branch (k + k) m
even_rounds m zero round = refl
even_rounds m (suc k) round =
    let count : suc (suc (k + k)) ≡ suc k + suc k = omega arith in
    let here = even_rounds m k round in
    subst (λ (n : ℕ). after_steps n m ≡ at_branch n m) count (ap step (ap step here ∙ to_slot m (k + k) round) ∙ to_branch m (suc (k + k)) round)

pub rounds : (m : Machine) (k : ℕ) → is_loop m ≡ true → after_steps (k + k) m ≡ at_branch (k + k) m
rounds m k loops = even_rounds m k (round_of m loops)

pub rounds_and_half : (m : Machine) (k : ℕ) → is_loop m ≡ true → after_steps (k + k + 1) m ≡ in_its_slot (k + k + 1) m
rounds_and_half m k loops =
    let round = round_of m loops in
    subst (λ (n : ℕ). after_steps n m ≡ in_its_slot n m) (sym (add-one (k + k))) (ap step (even_rounds m k round) ∙ to_slot m (k + k) round)

halved : (k : ℕ) → (k ≡ k / 2 + k / 2) ⊎ (k ≡ k / 2 + k / 2 + 1)
halved k =
    elim (cases_lt (k % 2) 1) [
      | inl even ↦ inl (omega (arith, even))
      | inr odd ↦ inr (omega (arith, odd))
    ]

pub pc_stays : (m : Machine) (k : ℕ) → is_loop m ≡ true → ((after_steps k m).cpu.pc ≡ m.cpu.pc) ⊎ ((after_steps k m).cpu.pc ≡ slot_address m.cpu.pc)
pc_stays m k loops =
    elim (halved k) [
      | inl even ↦ inl (ap (λ (n : ℕ). (after_steps n m).cpu.pc) even ∙ ap (λ (n : Machine). n.cpu.pc) (rounds m (k / 2) loops))
      | inr odd ↦ inr (ap (λ (n : ℕ). (after_steps n m).cpu.pc) odd ∙ ap (λ (n : Machine). n.cpu.pc) (rounds_and_half m (k / 2) loops))
    ]
