use Rattle.std.specs.Prelude.{string_bytes}
use Rattle.debug_session.proofs.Seats.{goes_seen}
use Rattle.debug_session.proofs.Sending.{goes_did, asked_done, asked_refused}
use Rattle.debug_session.proofs.asking.ask.Goals as goal

pub returns-in-Ok-clause-goes : goal.returns-in-Ok-clause-goes
returns-in-Ok-clause-goes g c =
    goes_did c.args.host.now.guests.cells.items c.args.guest c.args.seat.now c.args.request c.debug.new.seat c.in-Ok.done c.requires.guest c.in-Ok.ensures.ok

pub returns-in-Err-clause-goes : goal.returns-in-Err-clause-goes
returns-in-Err-clause-goes g c = goes_seen c.args.seat.now.seat c.debug.new.seat.seat c.in-Err.ensures.err

pub returns-in-Ok-clause-ok : goal.returns-in-Ok-clause-ok
returns-in-Ok-clause-ok g c =
    asked_done c.args.host.now.guests.cells.items c.args.guest c.args.seat.now c.args.which c.args.request c.debug.new.seat c.in-Ok.done (string_bytes c.args.out.now) (string_bytes c.tell_done.new.out) c.tell_done.result
    c.in-Ok.ensures.ok c.tell_done.ensures.state c.tell_done.ensures.said

pub returns-in-Err-clause-ok : goal.returns-in-Err-clause-ok
returns-in-Err-clause-ok g c =
    asked_refused c.args.host.now.guests.cells.items c.args.guest c.args.seat.now c.args.which c.args.request c.debug.new.seat c.in-Err.error (string_bytes c.args.out.now) (string_bytes c.tell_refused.new.out)
    c.tell_refused.result c.in-Err.ensures.err c.in-Err.ensures.why c.tell_refused.ensures.state c.tell_refused.ensures.said
