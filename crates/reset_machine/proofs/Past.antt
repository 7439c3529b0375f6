-- A run goes past no state that it is to end at.
use Rattle.std.proofs.Common.{ℕ, ◌≡◌, ◌==◌, ◌&&◌, not, is_none, if◌then◌else◌, Bool, true, false, Option, Some, None, Result, Ok, refl, ap, ◌∙◌, ne_eqb}
use Rattle.mips_alu.specs.Comparing.{compare_result}
use Rattle.mips_cp0.specs.declared.exception.Exc.{Exc}
use Rattle.mips_instr.specs.Targets.{slot_address, branch_target, jump_target}
use Rattle.mips_instr.specs.declared.instr.Instr.{Instr}
use Rattle.mips_instr.specs.declared.instr.Instr.TheVariants as instr
use Rattle.mips_instr.specs.declared.instr.JumpOp.{JumpOp}
use Rattle.mips_instr.specs.declared.instr.JumpOp.TheVariants.{J, Jal}
use Rattle.mips_tlb.specs.declared.kind.Kind.TheVariants.{Fetch}
use Rattle.machine.specs.declared.access.Size.TheVariants.{Word}
use Rattle.machine.specs.Processor.{Processor, reg}
use Rattle.machine.specs.Board.{value_in, lines_of}
use Rattle.machine.specs.Meaning.{branch_condition, zero_condition, links}
use Rattle.machine.specs.Operations.{instruction_of}
use Rattle.machine.specs.Places.{place}
use Rattle.machine.specs.Step.{Machine}
use Rattle.mips_clockless.specs.Clockless.{IsAway}
use Rattle.mips_fast.specs.Runs.{IsAdmitted}
use Rattle.runs.specs.declared.ending.Ending.TheVariants.{Loop, Address}
use Rattle.runs.specs.declared.ending.Until.{Until}
use Rattle.runs.specs.Endings.{has_address, state_ending}
use Rattle.runs.specs.Loops.{is_answered, is_loop, is_number, is_quiet, fetched_word, jumped_to, leads_back, led_to, taken_to, word_at_place, word_leads}
use Rattle.reset_machine.specs.Past.{goes_past, targets_itself}

taken_elsewhere : (pc target : ℕ) (taken : Bool) → (target == pc) ≡ false → is_number pc (taken_to taken target) ≡ false
taken_elsewhere pc target true apart = apart
taken_elsewhere pc target false apart = refl

jumped_elsewhere : (pc target : ℕ) (op : JumpOp) → (target == pc) ≡ false → is_number pc (jumped_to op target) ≡ false
jumped_elsewhere pc target J apart = apart
jumped_elsewhere pc target Jal apart = refl

-- an instruction whose target is elsewhere doesn't lead back
not_back : (cpu : Processor) (i : Instr) → targets_itself cpu.pc i ≡ false → IsAway i cpu → is_number cpu.pc (led_to cpu i) ≡ false
not_back cpu (instr.Branch op rs rt offset) apart away =
    taken_elsewhere cpu.pc (branch_target cpu.pc offset) (compare_result (branch_condition op) (reg cpu rs) (reg cpu rt)) apart
not_back cpu (instr.BranchZero op rs offset) apart away =
    taken_elsewhere cpu.pc (branch_target cpu.pc offset) (not (links op) && compare_result (zero_condition op) (reg cpu rs) 0) apart
not_back cpu (instr.Jump op target) apart away = jumped_elsewhere cpu.pc (jump_target cpu.pc target) op apart
not_back cpu (instr.JumpRegister rs) apart away = ne_eqb (reg cpu rs) cpu.pc away
not_back cpu (instr.ThreeRegister op rd rs rt) apart away = refl
not_back cpu (instr.ConditionalMove op rd rs rt) apart away = refl
not_back cpu (instr.Shift op rd rt sa) apart away = refl
not_back cpu (instr.ShiftVariable op rd rt rs) apart away = refl
not_back cpu (instr.MoveFrom op rd) apart away = refl
not_back cpu (instr.MoveTo op rs) apart away = refl
not_back cpu (instr.Multiply op rs rt) apart away = refl
not_back cpu (instr.Divide op rs rt) apart away = refl
not_back cpu (instr.Count op rd rs) apart away = refl
not_back cpu (instr.Trap op rs rt code) apart away = refl
not_back cpu (instr.TrapImmediate op rs imm) apart away = refl
not_back cpu (instr.Syscall code) apart away = refl
not_back cpu (instr.Break code) apart away = refl
not_back cpu (instr.Sync stype) apart away = refl
not_back cpu (instr.JumpLinkRegister rd rs) apart away = refl
not_back cpu (instr.Immediate op rt rs imm) apart away = refl
not_back cpu (instr.LoadUpper rt imm) apart away = refl
not_back cpu (instr.Load op rt base offset) apart away = refl
not_back cpu (instr.Store op rt base offset) apart away = refl
not_back cpu (instr.Cache op hint base offset) apart away = refl
not_back cpu (instr.Cp0Move op rt rd select) apart away = refl
not_back cpu (instr.Tlb op) apart away = refl
not_back cpu instr.Eret apart away = refl
not_back cpu (instr.Wait code) apart away = refl
not_back cpu (instr.Coprocessor op code) apart away = refl

word_not_back : (cpu : Processor) (word : ℕ) (i : Instr) → instruction_of word ≡ Some i → is_number cpu.pc (led_to cpu i) ≡ false → leads_back cpu (Some word) ≡ false
word_not_back cpu word i read apart = ap (λ (o : Option Instr). is_number cpu.pc (word_leads cpu o)) read ∙ apart

answered_or_not : (cpu : Processor) (word : ℕ) (answered : Bool) → leads_back cpu (Some word) ≡ false → leads_back cpu (if answered then Some word else None) ≡ false
answered_or_not cpu word true apart = apart
answered_or_not cpu word false apart = refl

no_loop_of : (a b d e : Bool) → b ≡ false → (a && b && d && e) ≡ false
no_loop_of true true d e apart = absurd (cc)
no_loop_of true false d e apart = refl
no_loop_of false b d e apart = refl

no_loop : (m : Machine) (at : ℕ) (i : Instr) → place Fetch Word m.cpu m.cpu.pc ≡ Ok at → instruction_of (value_in m.board.memory Word at) ≡ Some i
    → targets_itself m.cpu.pc i ≡ false → IsAway i m.cpu → is_loop m ≡ false
no_loop m at i placed read apart away =
    let word = value_in m.board.memory Word at in
    let back = answered_or_not m.cpu word (is_answered m.board at) (word_not_back m.cpu word i read (not_back m.cpu i apart away)) in
    no_loop_of (is_none m.cpu.slot) (leads_back m.cpu (fetched_word m m.cpu.pc)) (is_number 0 (fetched_word m (slot_address m.cpu.pc))) (is_quiet (lines_of m.board) m.cpu.cp0)
    (ap (λ (r : Result ℕ Exc). leads_back m.cpu (word_at_place m.board r)) placed ∙ back)

neither : (a b : Bool) → (not a && not b) ≡ true → (a ≡ false) × (b ≡ false)
neither true b so = absurd (cc)
neither false true so = absurd (cc)
neither false false so = (refl, refl)

not_both : (a b d : Bool) → (a && b) ≡ false → (b ≡ false → d ≡ false) → (a && d) ≡ false
not_both true b d apart so_no = so_no apart
not_both false b d apart so_no = refl

-- a state from which a step is made that goes past is none that the run is to end at
pub not_ended : (until : Until) (m : Machine) → IsAdmitted (goes_past until) m → state_ending until m ≡ None
not_ended until m is =
    let so = neither (until.loops && targets_itself m.cpu.pc is.instr) (has_address until m.cpu.pc) is.admitted in
    let loop = not_both until.loops (targets_itself m.cpu.pc is.instr) (is_loop m) so.0 (λ apart. no_loop m is.at is.instr is.placed is.read apart is.away) in
    ap (λ (b : Bool). if b then Some (Loop m.cpu.pc) else if has_address until m.cpu.pc then Some (Address m.cpu.pc) else None) loop
    ∙ ap (λ (b : Bool). (if b then Some (Address m.cpu.pc) else None)) so.1
