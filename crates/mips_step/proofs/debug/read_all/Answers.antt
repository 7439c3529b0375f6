use Rattle.std.proofs.Common.{◌≡◌, ℕ, ◌+◌, ◌%◌, ◌^◌, is_some, Some, sym, ap, ◌∙◌, arith}
use Rattle.machine.specs.Step.{Machine, machine_with}
use Rattle.machine.specs.Replies.{byte_in, probe}
use Rattle.machine.proofs.Bytes.{not_readable, read_more}
use Rattle.machine.proofs.Writing.{no_byte}
use Rattle.mips_step.proofs.debug.read_all.Goals as goal

pub unreachable-requires : goal.unreachable-requires
unreachable-requires g c =
    let m : Machine = machine_with c.args.cpu.now (g.B.PhysBus.board c.args.bus.now) in
    let here = ap (λ (at : ℕ). is_some (probe m at)) (sym c.moved.ensures) ∙ ap is_some (sym c.probe.ensures.place ∙ c.in-None.is) in
    let none = not_readable m c.args.address c.loop-k.k _ c.loop-k-test.true (no_byte m.board.memory (probe m ((c.args.address + c.loop-k.k) % 2 ^ 32)) here) in
    let some = c.requires.placed in
    cc

pub loop-k-preserved : goal.loop-k-preserved
loop-k-preserved g c =
    let m : Machine = machine_with c.args.cpu.now (g.B.PhysBus.board c.args.bus.now) in
    let found : probe m ((c.args.address + c.loop-k.k) % 2 ^ 32) ≡ Some c.in-Some.at =
    ap (probe m) (sym c.moved.ensures) ∙ sym c.probe.ensures.place ∙ c.in-Some.is in
    read_more m c.args.address c.loop-k.k c.look.result c.loop-k.bytes (omega (arith, c.loop-k.auto.bytes, c.loop-k-test.true)) c.loop-k.invariant
    (ap (byte_in m.board.memory) found ∙ ap Some (sym c.look.ensures))
