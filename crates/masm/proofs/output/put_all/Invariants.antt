use Rattle.std.proofs.Common.{◌≡◌, ◌+◌, drop, map, Ok}
use Rattle.masm.specs.Answers.{IsOutput, Knows}
use Rattle.masm.specs.Assembly.{Reading, over_lines, first_step, first_reading, second_step}
use Rattle.masm.specs.Listings.{Output, first_output}
use Rattle.masm_lines.specs.Views.{text_view}
use Rattle.masm.proofs.OutputRoom.{InStep}
use Rattle.masm.proofs.output.put_all.Given as goal

-- both passes have come as far as this, and what is left of each is the rest of the whole
abbrev pub invariant-loop-i : goal.invariant-loop-i
invariant-loop-i l =
    (whole : Reading) × (reading : Reading) × (output : Output)
    × (over_lines first_step 1 first_reading (map text_view l.lines) ≡ Ok whole)
    × Knows l.names whole.names
    × (over_lines first_step (l.i + 1) reading (drop l.i (map text_view l.lines)) ≡ Ok whole)
    × (over_lines (second_step whole.names) (l.i + 1) output (drop l.i (map text_view l.lines)) ≡ over_lines (second_step whole.names) 1 first_output (map text_view l.lines))
    × IsOutput l.output output
    × InStep reading.layout output
