use Rattle.std.proofs.Common.{sym}
use Rattle.script.specs.Names.{header_names, header_name_of}
use Rattle.script.proofs.Named.{unnamed}
use Rattle.script.proofs.name.header_name.Goals as goal

pub returns-in_default : goal.returns-in_default
unfolding header_name_of
returns-in_default c =
    sym (unnamed header_names c.args.word.now (c.in_default.not-frames, (c.in_default.not-slots, (c.in_default.not-seed, (c.in_default.not-guest, (c.in_default.not-fail, (c.in_default.not-admit, (c.in_default.not-profile, tt))))))))
