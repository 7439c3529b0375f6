use Rattle.std.proofs.Common.{ap, rules, arith}
use Rattle.commands.proofs.Reading.{whole_file}
use Rattle.commands.proofs.image_file.raw_bytes.Goals as goal

pub returns-then-is_raw-clause-bytes : goal.returns-then-is_raw-clause-bytes
returns-then-is_raw-clause-bytes g c =
    let raw = c.is_raw.ensures.0 (search rules) in
    whole_file (g.F.Read.remaining c.args.file) (g.F.Read.remaining c.take.result.inner) c.take.result.limit c.args.room c.new-bytes.result.items _
    (ap g.F.Read.remaining c.take.ensures.inner) c.take.ensures.limit c.new-bytes.ensures.items c.in_ok-read_to_end.ensures.bytes
    (grind (arith, raw.most, c.len.ensures))
