use Rattle.std.proofs.Common.{rules}
use Rattle.elf32.proofs.Bytes.{program_header_made}
use Rattle.elf32.proofs.writer.program_header_bytes.Goals as goal

pub returns : goal.returns
returns c =
    program_header_made c.args.offset _ c.args.segment.now _ _ _ _ _ (search rules) c.put_word.ensures.after c.put_word-2.ensures.after c.put_word-3.ensures.after c.put_word-4.ensures.after c.put_word-5.ensures.after
