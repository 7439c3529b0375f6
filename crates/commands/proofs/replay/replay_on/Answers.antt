use Rattle.std.proofs.Common.{subst, sym}
use Rattle.logfile.specs.Versions.{HasEntriesAs}
use Rattle.commands.proofs.Reports.{replay_of_files}
use Rattle.commands.proofs.replay.replay_on.Goals as goal

pub returns-in-Ok-clause-replay : goal.returns-in-Ok-clause-replay
returns-in-Ok-clause-replay c =
    replay_of_files c.args.image.items c.args.log.now c.args.order c.args.header.profile c.args.header.pages c.in_ok-image.image c.deref.result.now c.in_ok-flat.flat c.replay_entries.new.flat c.in-Ok.steps _
    c.requires.header c.in_ok-image.ensures.stands (subst (HasEntriesAs c.args.log.now) (sym c.deref.ensures.value) c.in_ok-entries.ensures.ok) (rw c.in_ok-flat.ensures.given at c.boot.ensures)
    c.in-Ok.ensures.run c.in-Ok.ensures.accepted c.in-Ok.ensures.count (c.in_ok-dump-in-Ok.ensures c.replay_entries.new.flat c.view.ensures.cpu c.view.ensures.devices)
