use Rattle.std.proofs.Common.{[], codes, append-nil, sym, Ok, Result}
use Rattle.std.specs.declared.alloc.AllocError.{AllocError}
use Rattle.std.specs.Prelude.{string_bytes}
use Rattle.debugline.specs.Lines.{ended}
use Rattle.debug_session.specs.declared.state.State.{State}
use Rattle.debug_session.specs.declared.state.State.TheVariants as state
use Rattle.debug_session.proofs.Sending.{obeys_is, writes_is, says_adds, says_ok}
use Rattle.debug_session.proofs.obeying.obey.Goals as goal

pub returns-in-Set-clause-ok : goal.returns-in-Set-clause-ok
returns-in-Set-clause-ok g c = obeys_is _ _ _ _ _ c.ask-in-Set.new.seat _ _ _ c.in-Set.is c.ask-in-Set.ensures.ok

pub returns-in-Read-clause-ok : goal.returns-in-Read-clause-ok
returns-in-Read-clause-ok g c = obeys_is _ _ _ _ _ c.ask-in-Read.new.seat _ _ _ c.in-Read.is c.ask-in-Read.ensures.ok

pub returns-in-Write-clause-ok : goal.returns-in-Write-clause-ok
returns-in-Write-clause-ok g c =
    let out = string_bytes c.args.out.now in
    let out' = string_bytes c.ask-in-Write.new.out in
    obeys_is c.args.host.now.guests.cells.items c.args.guest c.args.seat.now _ _ c.ask-in-Write.new.seat out out' c.ask-in-Write.result c.in-Write.is
    (writes_is c.args.host.now.guests.cells.items c.args.guest c.args.seat.now c.in-Write.address c.from_vec.result c.in-Write.bytes.items c.ask-in-Write.new.seat out out' c.ask-in-Write.result
    c.from_vec.ensures c.ask-in-Write.ensures.ok)

pub returns-in-Cont-clause-ok : goal.returns-in-Cont-clause-ok
returns-in-Cont-clause-ok g c = obeys_is _ _ _ _ _ c.run_on.new.seat _ _ _ c.in-Cont.is c.run_on.ensures.ok

pub returns-in-Step-clause-ok : goal.returns-in-Step-clause-ok
returns-in-Step-clause-ok g c = obeys_is _ _ _ _ _ c.step.new.seat _ _ _ c.in-Step.is c.step.ensures.ok

pub returns-in-Break-clause-ok : goal.returns-in-Break-clause-ok
returns-in-Break-clause-ok g c = obeys_is _ _ _ _ _ c.ask-in-Break.new.seat _ _ _ c.in-Break.is c.ask-in-Break.ensures.ok

pub returns-in-Detach-clause-ok : goal.returns-in-Detach-clause-ok
returns-in-Detach-clause-ok g c =
    let out = string_bytes c.args.out.now in
    obeys_is c.args.host.now.guests.cells.items c.args.guest c.args.seat.now _ _ c.args.seat.now out (string_bytes c.detach.new.out) _ c.in-Detach.is
    (says_ok c.args.host.now.guests.cells.items c.args.guest c.args.seat.now state.Detached out (string_bytes c.detach.new.out) (ended (codes "ok")) c.detach.result c.detach.ensures.state c.detach.ensures.said)

pub returns-in-End-clause-ok : goal.returns-in-End-clause-ok
returns-in-End-clause-ok g c =
    let out = string_bytes c.args.out.now in
    let ok : Result State AllocError = Ok state.Ended in
    obeys_is c.args.host.now.guests.cells.items c.args.guest c.args.seat.now _ _ c.args.seat.now out out ok c.in-End.is
    (says_adds c.args.host.now.guests.cells.items c.args.guest c.args.seat.now state.Ended out out [] (sym (append-nil out)))
