use Rattle.std.proofs.Common.{Some, None, Ok, Result, ap, sym, ◌∙◌}
use Rattle.std.specs.declared.alloc.AllocError.{AllocError}
use Rattle.std.specs.Prelude.{option_map, string_bytes}
use Rattle.debugline.specs.Lines.{ended}
use Rattle.debugline.specs.Replies.{error_text}
use Rattle.debugline.specs.Views.{command_view, line_view}
use Rattle.debug_session.specs.declared.state.State.{State}
use Rattle.debug_session.specs.declared.state.State.TheVariants as state
use Rattle.debug_session.proofs.Ranging.{in_range}
use Rattle.debug_session.proofs.Sending.{answers_is, says_adds}
use Rattle.debug_session.proofs.obeying.answer.Goals as goal

pub obey-requires-clause-range : goal.obey-requires-clause-range
obey-requires-clause-range g c =
    in_range c.a_line_says_its_row.ensures (line_view c.args.line.now) (command_view c.in-Some.command) (sym (ap (option_map command_view) c.in-Some.is) ∙ c.in_ok-command.ensures.command)

pub returns-in-Some-clause-ok : goal.returns-in-Some-clause-ok
returns-in-Some-clause-ok g c =
    answers_is c.args.host.now.guests.cells.items c.args.guest c.args.seat.now (Some (command_view c.in-Some.command)) _ c.obey.new.seat (string_bytes c.args.out.now) (string_bytes c.obey.new.out) c.obey.result
    (sym (ap (option_map command_view) c.in-Some.is) ∙ c.in_ok-command.ensures.command) c.obey.ensures.ok

pub returns-in_ok-tell-in-None-clause-ok : goal.returns-in_ok-tell-in-None-clause-ok
returns-in_ok-tell-in-None-clause-ok g c =
    let ok : Result State AllocError = Ok state.Ready in
    answers_is c.args.host.now.guests.cells.items c.args.guest c.args.seat.now None _ c.args.seat.now (string_bytes c.args.out.now) (string_bytes c.tell.new.out) ok
    (sym (ap (option_map command_view) c.in-None.is) ∙ c.in_ok-command.ensures.command)
    (says_adds c.args.host.now.guests.cells.items c.args.guest c.args.seat.now state.Ready (string_bytes c.args.out.now) (string_bytes c.tell.new.out) (ended (error_text 1)) c.in_ok-tell-in-None.ensures.ok)
