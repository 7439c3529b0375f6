-- What a run goes past that is to end at the first state of some kinds.
use Rattle.std.specs.Prelude.{ℕ, Bool, false, ◌==◌, ◌&&◌, not}
use Rattle.mips_instr.specs.Targets.{branch_target, jump_target}
use Rattle.mips_instr.specs.declared.instr.Instr.{Instr}
use Rattle.mips_instr.specs.declared.instr.Instr.TheVariants as instr
use Rattle.runs.specs.declared.ending.Until.{Until}
use Rattle.runs.specs.Endings.{has_address}

-- whether the target of a branch or jump at an address is that address
abbrev pub targets_itself : ℕ → Instr → Bool
targets_itself pc (instr.Branch op rs rt offset) = branch_target pc offset == pc
targets_itself pc (instr.BranchZero op rs offset) = branch_target pc offset == pc
targets_itself pc (instr.Jump op target) = jump_target pc target == pc
targets_itself pc other = false

-- which instructions it goes past, by their virtual addresses, wherever those lead: none that may be a loop, where it is to end at one, and none
-- at an address that it is to end at
abbrev pub goes_past : Until → ℕ → ℕ → Instr → Bool
goes_past until pc at i = not (until.loops && targets_itself pc i) && not (has_address until pc)
