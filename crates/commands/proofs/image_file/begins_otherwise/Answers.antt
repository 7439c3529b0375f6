use Rattle.commands.proofs.Reading.{begins_otherwise}
use Rattle.commands.proofs.image_file.begins_otherwise.Goals as goal

pub returns-then-first-ge-HEADER_BYTES-clause-refused : goal.returns-then-first-ge-HEADER_BYTES-clause-refused
returns-then-first-ge-HEADER_BYTES-clause-refused g c =
    begins_otherwise (g.B.Read.remaining c.args.file.now) c.in-Ok.first.now c.starts_with.result c.in-Ok.ensures.front c.if-first-ge-HEADER_BYTES.true c.starts_with.ensures.value
