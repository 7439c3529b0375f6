use Rattle.std.proofs.Common.{◌≡◌, ◌+◌, length}
use Rattle.masm_lines.specs.Lists.{parts}
use Rattle.masm_lines.proofs.Parts.{parts_left, room_left}
use Rattle.masm_lines.proofs.list.List.count.Given as goal

abbrev pub invariant-loop-rest : goal.invariant-loop-rest
invariant-loop-rest l = l.count + length (parts_left l.rest) ≡ length (parts l.self.text.now)

abbrev pub decreases-loop-rest : goal.decreases-loop-rest
decreases-loop-rest l = room_left l.rest
