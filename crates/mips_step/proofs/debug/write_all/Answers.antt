use Rattle.std.proofs.Common.{◌≡◌, ◌+◌, ◌%◌, ◌^◌, is_some, Some, drop, sym, ap, ◌∙◌}
use Rattle.machine.specs.Board.{Board}
use Rattle.machine.specs.Step.{Machine, machine_with}
use Rattle.machine.specs.Items.{written_from}
use Rattle.machine.specs.Replies.{probe}
use Rattle.machine.proofs.Bytes.{not_readable}
use Rattle.machine.proofs.Writing.{no_byte, place_same, write_more}
use Rattle.mips_step.proofs.debug.write_all.Goals as goal

pub unreachable-requires : goal.unreachable-requires
unreachable-requires g c =
    let cpu = c.args.cpu.now in
    let before : Board = g.B.PhysBus.board c.args.bus.now in
    let now : Board = g.B.PhysBus.board c.loop-k.bus in
    let m : Machine = machine_with cpu before in
    let address = (c.args.address + c.loop-k.k) % 2 ^ 32 in
    let here = ap is_some (sym (place_same cpu before now address c.loop-k.invariant.size) ∙ ap (probe (machine_with cpu now)) (sym c.moved.ensures) ∙ sym c.probe.ensures.place ∙ c.in-None.is) in
    let none = not_readable m c.args.address c.loop-k.k _ c.loop-k-test.true (no_byte before.memory (probe m address) here) in
    let some = c.requires.placed in
    cc

pub loop-k-preserved : goal.loop-k-preserved
loop-k-preserved g c =
    let cpu = c.args.cpu.now in
    let now : Board = g.B.PhysBus.board c.loop-k.bus in
    let found : probe (machine_with cpu now) ((c.args.address + c.loop-k.k) % 2 ^ 32) ≡ Some c.in-Some.at =
    ap (probe (machine_with cpu now)) (sym c.moved.ensures) ∙ sym c.probe.ensures.place ∙ c.in-Some.is in
    record {
      left = ap (λ (w : Board). written_from (c.loop-k.k + 1) c.args.address (drop (c.loop-k.k + 1) c.args.bytes.now) (machine_with cpu w)) c.store_byte.ensures.board
          ∙ sym (write_more cpu now c.args.address c.loop-k.k c.in-Some.at c.args.bytes.now c.loop-k-test.true found)
          ∙ c.loop-k.invariant.left;
      size = c.store_byte.ensures.size ∙ c.loop-k.invariant.size;
      kept = c.store_byte.ensures.kept ∙ c.loop-k.invariant.kept;
      settled = c.store_byte.ensures.settled;
    }
