use Rattle.std.proofs.Common.{◌≡◌, ◌+◌, ◌<◌, ◌∙◌, sym, ap, arith, map, get_or, length, []}
use Rattle.std.proofs.lemmas.List.{get_or-map, length-map}
use Rattle.script.specs.Scripts.{after_line}
use Rattle.script.specs.Views.{reading_view, text_view}
use Rattle.script.proofs.Passes.{line_refused, line_taken, refused_line}
use Rattle.script.proofs.reading.read_lines.Goals as goal

pub returns-in-Err-Refused : goal.returns-in-Err-Refused
returns-in-Err-Refused c =
    let before = reading_view c.loop-i.reading in
    let lines = map text_view c.args.lines.now in
    let here = get_or-map text_view c.args.lines.now c.loop-i.i _ [] (omega arith) in
    let within : c.loop-i.i < length lines = rw (length-map c.args.lines.now text_view) (omega arith) in
    sym c.loop-i.invariant ∙ line_refused (c.loop-i.i + 1) before lines c.loop-i.i within (ap (after_line (c.loop-i.i + 1) before) here ∙ refused_line (reading_view c.take.new.self) c.in-Err-Refused.field-0 _ c.in-Err-Refused.field-0-is c.in-Err-Refused.ensures)

pub loop-i-preserved : goal.loop-i-preserved
loop-i-preserved c =
    let before = reading_view c.loop-i.reading in
    let lines = map text_view c.args.lines.now in
    let here = get_or-map text_view c.args.lines.now c.loop-i.i _ [] (omega arith) in
    let within : c.loop-i.i < length lines = rw (length-map c.args.lines.now text_view) (omega arith) in
    sym (line_taken (c.loop-i.i + 1) before (reading_view c.take.new.self) lines c.loop-i.i within (ap (after_line (c.loop-i.i + 1) before) here ∙ c.in-Ok.ensures)) ∙ c.loop-i.invariant
