use Rattle.std.proofs.Common.{◌≡◌, ◌++◌, flat_map}
use Rattle.masm_lines.specs.Lists.{parts, half_bytes}
use Rattle.masm_lines.proofs.Parts.{parts_left, room_left}
use Rattle.masm_lines.proofs.list.List.push_halves.Given as goal

abbrev pub invariant-loop-rest : goal.invariant-loop-rest
invariant-loop-rest l = l.bytes.items ++ flat_map half_bytes (parts_left l.rest) ≡ l.fn.bytes.items ++ flat_map half_bytes (parts l.self.text.now)

abbrev pub decreases-loop-rest : goal.decreases-loop-rest
decreases-loop-rest l = room_left l.rest
