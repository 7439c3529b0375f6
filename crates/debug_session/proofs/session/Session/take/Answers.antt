use Rattle.std.specs.Prelude.{string_bytes}
use Rattle.debug_session.specs.declared.session.Session.{Session}
use Rattle.debug_session.proofs.Sending.{piece_talked}
use Rattle.debug_session.proofs.session.Session.take.Goals as goal

pub returns-clause-talk : goal.returns-clause-talk
returns-clause-talk g c =
    let session : Session = record { framer = c.feed.new.self; state = c.in_ok-self.field-0 } in
    piece_talked c.args.host.now.guests.cells.items c.args.guest c.args.self.now session c.args.seat.now c.take_lines.new.seat c.args.piece.now c.deref.result.now c.in_ok-lines.lines.items
    (string_bytes c.args.out.now) (string_bytes c.take_lines.new.out) c.deref.ensures.value c.in_ok-lines.ensures.lines c.in_ok-self.ensures.ok
