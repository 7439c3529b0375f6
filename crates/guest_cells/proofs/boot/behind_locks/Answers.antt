use Rattle.std.proofs.Common.{rules, ◌≡◌, length, sym, ◌∙◌}
use Rattle.guest_cells.proofs.Housing.{housed_count, ready_count, asked_handles}
use Rattle.guest_cells.proofs.boot.behind_locks.Goals as goal

pub with_auditor-requires-clause-handles : goal.with_auditor-requires-clause-handles
with_auditor-requires-clause-handles g c =
    asked_handles c.args.log_runs c.args.waiting.asked.items c.house_all-done.new.housed.cells.items c.house_all-done.new.housed.handles.items c.in-Ok.ensures.as_asked

pub with_auditor-requires-clause-count : goal.with_auditor-requires-clause-count
with_auditor-requires-clause-count g c =
    let count : length c.house_all-done.new.housed.cells.items ≡ length c.args.waiting.guests.items =
    sym (housed_count c.args.log_runs c.args.waiting.asked.items c.house_all-done.new.housed.cells.items c.house_all-done.new.housed.handles.items c.in-Ok.ensures.as_asked)
    ∙ ready_count c.args.log_runs c.args.waiting.asked.items c.args.waiting.guests.items c.requires.ready in
    search rules

pub with_auditor-requires-clause-some : goal.with_auditor-requires-clause-some
with_auditor-requires-clause-some g c =
    let count : length c.house_all-done.new.housed.cells.items ≡ length c.args.waiting.guests.items =
    sym (housed_count c.args.log_runs c.args.waiting.asked.items c.house_all-done.new.housed.cells.items c.house_all-done.new.housed.handles.items c.in-Ok.ensures.as_asked)
    ∙ ready_count c.args.log_runs c.args.waiting.asked.items c.args.waiting.guests.items c.requires.ready in
    search rules

pub with_auditor-requires-clause-few : goal.with_auditor-requires-clause-few
with_auditor-requires-clause-few g c =
    let count : length c.house_all-done.new.housed.cells.items ≡ length c.args.waiting.guests.items =
    sym (housed_count c.args.log_runs c.args.waiting.asked.items c.house_all-done.new.housed.cells.items c.house_all-done.new.housed.handles.items c.in-Ok.ensures.as_asked)
    ∙ ready_count c.args.log_runs c.args.waiting.asked.items c.args.waiting.guests.items c.requires.ready in
    search rules

pub with_auditor-requires-clause-room : goal.with_auditor-requires-clause-room
with_auditor-requires-clause-room g c =
    let count : length c.house_all-done.new.housed.cells.items ≡ length c.args.waiting.guests.items =
    sym (housed_count c.args.log_runs c.args.waiting.asked.items c.house_all-done.new.housed.cells.items c.house_all-done.new.housed.handles.items c.in-Ok.ensures.as_asked)
    ∙ ready_count c.args.log_runs c.args.waiting.asked.items c.args.waiting.guests.items c.requires.ready in
    search rules

pub returns-in-Ok-clause-guests : goal.returns-in-Ok-clause-guests
returns-in-Ok-clause-guests g c = c.with_auditor.ensures.guests c.args.log_runs c.args.waiting.asked.items c.in-Ok.ensures.as_asked
