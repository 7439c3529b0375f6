use Rattle.std.proofs.Common.{ap}
use Rattle.fuzz_command.proofs.Trials.{held_input}
use Rattle.fuzz_command.proofs.files.first_bytes.Goals as goal

pub returns : goal.returns
returns g c =
    held_input c.take.result.limit (g.F.Read.remaining c.args.file) (g.F.Read.remaining c.take.result.inner) c.new-bytes.result.items _ (ap g.F.Read.remaining c.take.ensures.inner)
    c.take.ensures.limit c.new-bytes.ensures.items c.in_ok-read_to_end.ensures.bytes
