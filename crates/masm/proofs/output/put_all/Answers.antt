use Rattle.std.proofs.Common.{◌≡◌, ◌+◌, ◌<◌, ◌∙◌, ap, sym, refl, map, get_or, length, arith, [], Err, subst, vec_len, rules}
use Rattle.std.proofs.lemmas.List.{get_or-map, length-map}
use Rattle.masm.specs.Answers.{IsOutput, Knows, Gives}
use Rattle.masm.specs.Assembly.{Reading, over_lines, first_step, first_reading, second_step}
use Rattle.masm.specs.Listings.{first_output}
use Rattle.masm_lines.specs.Views.{text_view}
use Rattle.masm.specs.declared.reading.Names.{Names}
use Rattle.masm.proofs.Passes.{given, line_taken, line_refused, each_taken, error_at, next_of}
use Rattle.masm.proofs.OutputRoom.{first_in_step, room, both_step, small}
use Rattle.masm.proofs.output.put_all.Goals as goal

pub loop-i-init : goal.loop-i-init
loop-i-init c =
    let whole = given (λ (names : Names) (reading : Reading). Knows names reading.names) c.args.names.now (over_lines first_step 1 first_reading (map text_view c.args.lines.now)) c.requires in
    (whole.0, first_reading, first_output, whole.1, whole.2, whole.1, refl, c.new-output.ensures, first_in_step)

pub take-requires : goal.take-requires
take-requires c =
    let i = c.loop-i.invariant in
    let lines = map text_view c.args.lines.now in
    let here : get_or lines c.loop-i.i [] ≡ c.as_bytes.result.now = get_or-map text_view c.args.lines.now c.loop-i.i _ [] (omega arith) ∙ sym c.as_bytes.ensures.value in
    let within : c.loop-i.i < length lines = rw (length-map c.args.lines.now text_view) (omega arith) in
    let taken = each_taken first_step (c.loop-i.i + 1) i.1 i.0 lines c.loop-i.i within i.5 in
    room i.1 taken.0 i.2 c.loop-i.output c.as_bytes.result.now i.7 i.8 (ap (first_step i.1) (sym here) ∙ taken.1)

pub returns-in-Err : goal.returns-in-Err
returns-in-Err c =
    let i = c.loop-i.invariant in
    let lines = map text_view c.args.lines.now in
    let here : get_or lines c.loop-i.i [] ≡ c.as_bytes.result.now = get_or-map text_view c.args.lines.now c.loop-i.i _ [] (omega arith) ∙ sym c.as_bytes.ensures.value in
    let within : c.loop-i.i < length lines = rw (length-map c.args.lines.now text_view) (omega arith) in
    record {
      value = λ (reading : Reading) e.
          let same : i.0 ≡ reading = cc (i.3, e) in
          subst (λ (r : Reading). Gives IsOutput (Err c.at.result) (over_lines (second_step r.names) 1 first_output lines)) same
          (error_at IsOutput (IsOutput c.take.new.self) c.in-Err.error c.at.result (c.loop-i.i + 1) (second_step i.0.names i.2 c.as_bytes.result.now) (over_lines (second_step i.0.names) 1 first_output lines) c.at.ensures
          (c.in-Err.ensures i.0.names i.2 i.4 i.7)
          (λ f fails. sym i.6 ∙ line_refused (second_step i.0.names) (c.loop-i.i + 1) i.2 f lines c.loop-i.i within (ap (second_step i.0.names i.2) here ∙ fails)));
      small = tt;
    }

pub loop-i-preserved : goal.loop-i-preserved
loop-i-preserved c =
    let i = c.loop-i.invariant in
    let lines = map text_view c.args.lines.now in
    let here : get_or lines c.loop-i.i [] ≡ c.as_bytes.result.now = get_or-map text_view c.args.lines.now c.loop-i.i _ [] (omega arith) ∙ sym c.as_bytes.ensures.value in
    let within : c.loop-i.i < length lines = rw (length-map c.args.lines.now text_view) (omega arith) in
    let taken = each_taken first_step (c.loop-i.i + 1) i.1 i.0 lines c.loop-i.i within i.5 in
    let next = next_of (IsOutput c.take.new.self) (second_step i.0.names i.2 c.as_bytes.result.now) (c.in_default.ensures i.0.names i.2 i.4 i.7) in (
      i.0,
      taken.0,
      next.0,
      i.3,
      i.4,
      taken.2,
      sym (line_taken (second_step i.0.names) (c.loop-i.i + 1) i.2 next.0 lines c.loop-i.i within (ap (second_step i.0.names i.2) here ∙ next.1)) ∙ i.6,
      next.2,
      both_step i.0.names i.1 taken.0 i.2 next.0 c.as_bytes.result.now i.8 (ap (first_step i.1) (sym here) ∙ taken.1) next.1,
    )

pub returns-clause-small : goal.returns-clause-small
returns-clause-small c =
    let i = c.loop-i.invariant in
    let below = small i.1.layout i.2 c.loop-i.output i.7 i.8 in
    let same : vec_len c.loop-i.output.bytes ≡ length c.loop-i.output.bytes.items = search rules in
    omega arith
