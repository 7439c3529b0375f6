use Rattle.std.proofs.Common.{◌≡◌, ◌+◌, drop, map}
use Rattle.script.specs.Scripts.{script_from, first_reading}
use Rattle.script.specs.Views.{reading_view, text_view}
use Rattle.script.proofs.reading.read_lines.Given as goal

-- what is left of the pass from here is the rest of the whole
abbrev pub invariant-loop-i : goal.invariant-loop-i
invariant-loop-i l = script_from (l.i + 1) (reading_view l.reading) (drop l.i (map text_view l.lines)) ≡ script_from 1 first_reading (map text_view l.lines)
