use Rattle.std.proofs.Common.{refl}
use Rattle.std.specs.Prelude.{string_bytes}
use Rattle.debug_session.specs.declared.session.Session.{Session}
use Rattle.debug_session.proofs.Sending.{slice_talked}
use Rattle.debug_session.proofs.session.Session.go_on.Goals as goal

pub returns-clause-talk : goal.returns-clause-talk
returns-clause-talk g c =
    let session : Session = record { framer = c.args.self.now.framer; state = c.in_ok-self.field-0 } in
    slice_talked c.args.host.now.guests.cells.items c.args.guest c.args.self.now session c.args.seat.now c.run_on.new.seat (string_bytes c.args.out.now) (string_bytes c.run_on.new.out)
    c.requires.running refl c.in_ok-self.ensures.ok
