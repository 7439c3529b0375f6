use Rattle.std.proofs.Common.{ap, ◌∙◌}
use Rattle.word32.specs.Words.{with_word}
use Rattle.elf32.proofs.Bytes.{header_made}
use Rattle.elf32.proofs.writer.header_bytes.Goals as goal

pub returns : goal.returns
returns c =
    header_made c.args.entry c.args.entries _ _ _ _ _ _ _ _ _ c.identified-bytes.ensures c.put_half.ensures.after c.put_half-2.ensures.after c.put_word.ensures.after c.put_word-2.ensures.after (c.put_word-3.ensures.after ∙ ap (λ n. with_word c.put_word-2.new.bytes 28 n) c.from.ensures) c.put_half-3.ensures.after c.put_half-4.ensures.after c.put_half-5.ensures.after
