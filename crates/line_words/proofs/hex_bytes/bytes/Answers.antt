use Rattle.std.proofs.Common.{sym}
use Rattle.line_words.proofs.Pairs.{bytes_decoded}
use Rattle.line_words.proofs.hex_bytes.bytes.Goals as goal

pub returns-in-Ok-clause-bytes : goal.returns-in-Ok-clause-bytes
returns-in-Ok-clause-bytes c = sym (bytes_decoded c.args.word.now c.in-Ok.bytes.items (sym c.if-not-are_bytes.ensures) c.in-Ok.ensures.ok)
