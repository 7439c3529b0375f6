use Rattle.std.proofs.Common.{◌≡◌, ◌<◌, length, take, refl, arith}
use Rattle.std.proofs.lemmas.Grind.{common_steps}
use Rattle.std.specs.Prelude.{string_bytes}
use Rattle.debug_session.proofs.Seats.{goes_nowhere, goes_on, lasts_nowhere, lasts_on}
use Rattle.debug_session.proofs.Sending.{no_lines, one_line_more, all_lines}
use Rattle.debug_session.proofs.obeying.take_lines.Goals as goal

pub loop-line-init : goal.loop-line-init
loop-line-init g c = record {
  of = c.requires.of;
  lasts = lasts_nowhere c.args.seat.now c.args.seat.now refl;
  with_store = λ store held. held;
  goes = goes_nowhere c.args.seat.now.seat;
  taken = no_lines c.args.host.now.guests.cells.items c.args.guest c.args.state c.args.seat.now (string_bytes c.args.out.now);
}

pub take_line-requires-clause-of : goal.take_line-requires-clause-of
take_line-requires-clause-of g c = c.loop-line.invariant.of

pub returns-in_err-now-clause-lasts : goal.returns-in_err-now-clause-lasts
returns-in_err-now-clause-lasts g c = lasts_on c.args.seat.now c.loop-line.seat c.take_line.new.seat c.loop-line.invariant.lasts c.take_line.ensures.lasts

pub returns-in_err-now-clause-lasts_with_store : goal.returns-in_err-now-clause-lasts_with_store
returns-in_err-now-clause-lasts_with_store g c = λ store held. c.take_line.ensures.lasts_with_store store (c.loop-line.invariant.with_store store held)

pub returns-in_err-now-clause-goes : goal.returns-in_err-now-clause-goes
returns-in_err-now-clause-goes g c = goes_on c.args.seat.now.seat c.loop-line.seat.seat c.take_line.new.seat.seat c.loop-line.invariant.goes c.take_line.ensures.goes

pub loop-line-preserved : goal.loop-line-preserved
loop-line-preserved g c = record {
  of = c.take_line.ensures.of;
  lasts = lasts_on c.args.seat.now c.loop-line.seat c.take_line.new.seat c.loop-line.invariant.lasts c.take_line.ensures.lasts;
  with_store = λ store held. c.take_line.ensures.lasts_with_store store (c.loop-line.invariant.with_store store held);
  goes = goes_on c.args.seat.now.seat c.loop-line.seat.seat c.take_line.new.seat.seat c.loop-line.invariant.goes c.take_line.ensures.goes;
  taken = one_line_more c.args.host.now.guests.cells.items c.args.guest c.args.state c.args.seat.now c.args.lines.now c.loop-line.line-index c.line-item.result c.loop-line.now c.loop-line.seat
      c.in_ok-now.now c.take_line.new.seat (string_bytes c.args.out.now) (string_bytes c.loop-line.out) (string_bytes c.take_line.new.out) c.loop-line-test.true c.line-item.is c.loop-line.invariant.taken
      c.in_ok-now.ensures.ok;
}

pub returns-clause-of : goal.returns-clause-of
returns-clause-of g c = c.loop-line.invariant.of

pub returns-clause-lasts : goal.returns-clause-lasts
returns-clause-lasts g c = c.loop-line.invariant.lasts

pub returns-clause-lasts_with_store : goal.returns-clause-lasts_with_store
returns-clause-lasts_with_store g c = c.loop-line.invariant.with_store

pub returns-clause-goes : goal.returns-clause-goes
returns-clause-goes g c = c.loop-line.invariant.goes

pub returns-clause-ok : goal.returns-clause-ok
returns-clause-ok g c =
    let whole : take c.loop-line.line-index c.args.lines.now ≡ c.args.lines.now = grind (arith, common_steps) in
    all_lines c.args.host.now.guests.cells.items c.args.guest c.args.state c.args.seat.now (take c.loop-line.line-index c.args.lines.now) c.args.lines.now c.loop-line.now c.loop-line.seat
    (string_bytes c.args.out.now) (string_bytes c.loop-line.out) whole c.loop-line.invariant.taken
