use Rattle.std.proofs.Common.{◌≡◌, ◌<◌, ◌^◌, ◌+◌, sym, subst, refl, arith, ◌∙◌, ap, map, get_or, length, []}
use Rattle.std.proofs.lemmas.List.{get_or-map, length-map}
use Rattle.masm.specs.Assembly.{first_pass, first_reading, first_step}
use Rattle.masm.specs.Places.{next_address, Layout}
use Rattle.masm.specs.Answers.{IsReading, Knows}
use Rattle.masm_lines.specs.Views.{text_view}
use Rattle.masm.proofs.Passes.{error_at, line_refused, line_taken, next_of}
use Rattle.masm.proofs.reading.names_of.Goals as goal

pub loop-i-init : goal.loop-i-init
unfolding first_pass
loop-i-init c = (subst (λ (l : Layout). next_address l < 2 ^ 32) (sym c.new-2.ensures) (omega arith), (first_reading, record { names = c.new.ensures; layout = c.new-2.ensures }, refl))

pub returns-in-Err : goal.returns-in-Err
returns-in-Err c =
    let reading = c.loop-i.invariant.1.0 in
    let lines = map text_view c.args.lines.now in
    let here : get_or lines c.loop-i.i [] ≡ c.as_bytes.result.now = get_or-map text_view c.args.lines.now c.loop-i.i _ [] (omega arith) ∙ sym c.as_bytes.ensures.value in
    let within : c.loop-i.i < length lines = rw (length-map c.args.lines.now text_view) (omega arith) in
    error_at (λ names r. Knows names r.names) (IsReading c.take.new.self) c.in-Err.error c.at.result (c.loop-i.i + 1) (first_step reading c.as_bytes.result.now) (first_pass lines) c.at.ensures (c.in-Err.ensures.step reading c.loop-i.invariant.1.1)
    (λ f fails. sym c.loop-i.invariant.1.2 ∙ line_refused first_step (c.loop-i.i + 1) reading f lines c.loop-i.i within (ap (first_step reading) here ∙ fails))

pub loop-i-preserved : goal.loop-i-preserved
loop-i-preserved c =
    let reading = c.loop-i.invariant.1.0 in
    let lines = map text_view c.args.lines.now in
    let here : get_or lines c.loop-i.i [] ≡ c.as_bytes.result.now = get_or-map text_view c.args.lines.now c.loop-i.i _ [] (omega arith) ∙ sym c.as_bytes.ensures.value in
    let within : c.loop-i.i < length lines = rw (length-map c.args.lines.now text_view) (omega arith) in
    let next = next_of (IsReading c.take.new.self) (first_step reading c.as_bytes.result.now) (c.in_default.ensures.step reading c.loop-i.invariant.1.1) in
    (c.in_default.ensures.in_range, (next.0, next.2, sym (line_taken first_step (c.loop-i.i + 1) reading next.0 lines c.loop-i.i within (ap (first_step reading) here ∙ next.1)) ∙ c.loop-i.invariant.1.2))
