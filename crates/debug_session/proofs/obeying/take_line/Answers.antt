use Rattle.std.specs.Prelude.{string_bytes}
use Rattle.debugline.specs.Views.{line_view}
use Rattle.debug_session.proofs.Sending.{ends_is, detached_is, ended_is}
use Rattle.debug_session.proofs.obeying.take_line.Goals as goal

pub returns-in_ok-tell-in-Running-clause-ok : goal.returns-in_ok-tell-in-Running-clause-ok
returns-in_ok-tell-in-Running-clause-ok g c =
    ends_is c.args.host.now.guests.cells.items c.args.guest c.args.seat.now c.args.state (line_view c.args.line.now) c.answer-in-Running.new.seat (string_bytes c.args.out.now) (string_bytes c.tell.new.out)
    (string_bytes c.answer-in-Running.new.out) c.answer-in-Running.result c.in-Running.is c.in_ok-tell-in-Running.ensures.ok c.answer-in-Running.ensures.ok

pub returns-in-Detached-clause-ok : goal.returns-in-Detached-clause-ok
returns-in-Detached-clause-ok g c = detached_is c.args.host.now.guests.cells.items c.args.guest c.args.seat.now c.args.state (line_view c.args.line.now) (string_bytes c.args.out.now) c.in-Detached.is

pub returns-in-Ended-clause-ok : goal.returns-in-Ended-clause-ok
returns-in-Ended-clause-ok g c = ended_is c.args.host.now.guests.cells.items c.args.guest c.args.seat.now c.args.state (line_view c.args.line.now) (string_bytes c.args.out.now) c.in-Ended.is
