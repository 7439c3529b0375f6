use Rattle.std.proofs.Common.{refl}
use Rattle.masm_names.specs.Mnemonics.{named_instruction, arithmetic_named, memory_named, control_named, hi_lo_named, system_named, single_named, named_register, named_conditional_move, named_shift, named_shift_variable, named_count, named_move_from, named_move_to, named_multiply, named_divide, named_immediate, named_load, named_store, named_cache, named_branch, named_branch_zero, named_jump, named_trap, named_trap_immediate, named_cp0_move, named_tlb}
use Rattle.masm_names.proofs.laws.each_row_is_named.Goals as goal

pub returns-clause-special : goal.returns-clause-special
unfolding named_instruction arithmetic_named memory_named control_named hi_lo_named system_named single_named named_register named_conditional_move named_shift named_shift_variable named_count named_move_from named_move_to named_multiply named_divide named_immediate named_load named_store named_cache named_branch named_branch_zero named_jump named_trap named_trap_immediate named_cp0_move named_tlb
returns-clause-special c = (refl, (refl, (refl, (refl, (refl, (refl, (refl, (refl, (refl, (refl, (refl, (refl, (refl, (refl, (refl, (refl, (refl, (refl, (refl, (refl, (refl, (refl, (refl, (refl, (refl, (refl, (refl, (refl, (refl, (refl, (refl, (refl, (refl, (refl, (refl, (refl, (refl, tt)))))))))))))))))))))))))))))))))))))

pub returns-clause-regimm : goal.returns-clause-regimm
unfolding named_instruction arithmetic_named memory_named control_named hi_lo_named system_named single_named named_register named_conditional_move named_shift named_shift_variable named_count named_move_from named_move_to named_multiply named_divide named_immediate named_load named_store named_cache named_branch named_branch_zero named_jump named_trap named_trap_immediate named_cp0_move named_tlb
returns-clause-regimm c = (refl, (refl, (refl, (refl, (refl, (refl, (refl, (refl, (refl, (refl, (refl, (refl, (refl, (refl, tt))))))))))))))

pub returns-clause-special2 : goal.returns-clause-special2
unfolding named_instruction arithmetic_named memory_named control_named hi_lo_named system_named single_named named_register named_conditional_move named_shift named_shift_variable named_count named_move_from named_move_to named_multiply named_divide named_immediate named_load named_store named_cache named_branch named_branch_zero named_jump named_trap named_trap_immediate named_cp0_move named_tlb
returns-clause-special2 c = (refl, (refl, (refl, (refl, (refl, (refl, (refl, tt)))))))

pub returns-clause-cop0 : goal.returns-clause-cop0
unfolding named_instruction arithmetic_named memory_named control_named hi_lo_named system_named single_named named_register named_conditional_move named_shift named_shift_variable named_count named_move_from named_move_to named_multiply named_divide named_immediate named_load named_store named_cache named_branch named_branch_zero named_jump named_trap named_trap_immediate named_cp0_move named_tlb
returns-clause-cop0 c = (refl, (refl, (refl, (refl, (refl, (refl, (refl, (refl, tt))))))))

pub returns-clause-opcode : goal.returns-clause-opcode
unfolding named_instruction arithmetic_named memory_named control_named hi_lo_named system_named single_named named_register named_conditional_move named_shift named_shift_variable named_count named_move_from named_move_to named_multiply named_divide named_immediate named_load named_store named_cache named_branch named_branch_zero named_jump named_trap named_trap_immediate named_cp0_move named_tlb
returns-clause-opcode c = (refl, (refl, (refl, (refl, (refl, (refl, (refl, (refl, (refl, (refl, (refl, (refl, (refl, (refl, (refl, (refl, (refl, (refl, (tt, (tt, tt))))))))))))))))))))

pub returns-clause-memory : goal.returns-clause-memory
unfolding named_instruction arithmetic_named memory_named control_named hi_lo_named system_named single_named named_register named_conditional_move named_shift named_shift_variable named_count named_move_from named_move_to named_multiply named_divide named_immediate named_load named_store named_cache named_branch named_branch_zero named_jump named_trap named_trap_immediate named_cp0_move named_tlb
returns-clause-memory c = (refl, (refl, (refl, (refl, (refl, (refl, (refl, (refl, (refl, (refl, (refl, (refl, (refl, (refl, (refl, (refl, (tt, (tt, (tt, (tt, (tt, (tt, (tt, (tt, tt))))))))))))))))))))))))
