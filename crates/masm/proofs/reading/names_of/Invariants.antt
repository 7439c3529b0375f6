use Rattle.std.proofs.Common.{◌≡◌, ◌<◌, ◌^◌, ◌+◌, drop, map}
use Rattle.masm.specs.Answers.{IsReading}
use Rattle.masm.specs.Assembly.{Reading, over_lines, first_step, first_pass}
use Rattle.masm.specs.Places.{next_address}
use Rattle.masm.specs.Views.{layout_view}
use Rattle.masm_lines.specs.Views.{text_view}
use Rattle.masm.proofs.reading.names_of.Given as goal

-- what is left of the first pass from here is the rest of the whole
abbrev pub invariant-loop-i : goal.invariant-loop-i
invariant-loop-i l =
    (next_address (layout_view l.reading.layout) < 2 ^ 32)
    × ((reading : Reading) × IsReading l.reading reading
    × (over_lines first_step (l.i + 1) reading (drop l.i (map text_view l.lines)) ≡ first_pass (map text_view l.lines)))
