use Rattle.std.proofs.Common.{ℕ, ◌+◌, ◌%◌, ◌^◌, is_some, sym, ap, ◌∙◌, arith}
use Rattle.machine.specs.Step.{Machine, machine_with}
use Rattle.machine.specs.Replies.{probe}
use Rattle.machine.proofs.Bytes.{not_readable}
use Rattle.machine.proofs.Writing.{no_byte}
use Rattle.mips_step.proofs.debug.are_placed.Goals as goal

pub returns-then-is_none : goal.returns-then-is_none
returns-then-is_none g c =
    let m : Machine = machine_with c.args.cpu.now (g.B.PhysBus.board c.args.bus.now) in
    let here = ap (λ (at : ℕ). is_some (probe m at)) (sym c.moved.ensures) ∙ ap is_some (sym c.probe.ensures.place) ∙ c.if-is_none.ensures in
    sym (not_readable m c.args.address c.loop-k.k c.args.count (omega arith) (no_byte m.board.memory (probe m ((c.args.address + c.loop-k.k) % 2 ^ 32)) here))
