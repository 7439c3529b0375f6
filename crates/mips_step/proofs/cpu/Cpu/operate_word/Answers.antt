use Rattle.std.proofs.Common.{Some, sym, ap, ◌∙◌}
use Rattle.machine.specs.Operations.{Operation, word_operation}
use Rattle.machine.specs.Step.{machine_with, performed}
use Rattle.machine.proofs.Operations.{performed_operation, word_reads}
use Rattle.mips_step.proofs.cpu.Cpu.operate_word.Goals as goal

-- the operation is done on the processor that has ticked, with the board that was fetched from
pub returns-in-Some-clause-moves : goal.returns-in-Some-clause-moves
returns-in-Some-clause-moves g c =
    let word = c.args.word in
    let instr = c.in-Some.instr in
    let cpu = c.begin.new.self in
    let board = g.B.PhysBus.board c.begin.new.bus in
    let done = performed_operation instr c.lines.result cpu c.operate.new.self board c.in-Some.ensures.operation c.lines.ensures c.operate.ensures in
    done
    ∙ ap (λ (o : Operation). performed o (machine_with cpu board)) (sym (word_reads word (Some instr) c.in-Some.ensures.value))
    ∙ (λ i. performed (word_operation word) (machine_with (c.begin.ensures.cpu i) (c.begin.ensures.board i)))
