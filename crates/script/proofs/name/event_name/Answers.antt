use Rattle.std.proofs.Common.{sym}
use Rattle.script.specs.Names.{event_names, event_name_of}
use Rattle.script.proofs.Named.{unnamed}
use Rattle.script.proofs.name.event_name.Goals as goal

pub returns-in_default : goal.returns-in_default
unfolding event_name_of
returns-in_default c =
    sym (unnamed event_names c.args.word.now (c.in_default.not-step, (c.in_default.not-run, (c.in_default.not-in, (c.in_default.not-drain, (c.in_default.not-target, (c.in_default.not-poke, (c.in_default.not-write, (c.in_default.not-probe, (c.in_default.not-fault, (c.in_default.not-scan, (c.in_default.not-evict, (c.in_default.not-sample, (c.in_default.not-level, (c.in_default.not-audit, (c.in_default.not-dump, (c.in_default.not-stats, (c.in_default.not-damage, (c.in_default.not-repeat, (c.in_default.not-end, tt))))))))))))))))))))
