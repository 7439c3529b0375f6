use Rattle.std.proofs.Common.{◌≡◌}
use Rattle.std.specs.List.{list_all}
use Rattle.masm_lines.specs.Lists.{parts, is_element}
use Rattle.masm_lines.proofs.Parts.{parts_left, room_left}
use Rattle.masm_lines.proofs.elements.are_elements.Given as goal

abbrev pub invariant-loop-rest : goal.invariant-loop-rest
invariant-loop-rest l = list_all (is_element l.element) (parts_left l.rest) ≡ list_all (is_element l.element) (parts l.text)

abbrev pub decreases-loop-rest : goal.decreases-loop-rest
decreases-loop-rest l = room_left l.rest
