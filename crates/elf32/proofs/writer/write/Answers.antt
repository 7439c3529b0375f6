use Rattle.std.proofs.Common.{◌≡◌, ◌∙◌, length, arith, rules}
use Rattle.elf32.proofs.Bytes.{same_header}
use Rattle.elf32.proofs.writer.write.Goals as goal

pub returns : goal.returns
returns c =
    let image = c.args.image.now in
    let header = c.header_bytes.ensures ∙ same_header image.entry c.low_half-entries.result (length image.segments.items) (omega (arith, image.segments.ok.0)) in
    let items : c.extend_from_slice.new.self.items ≡ c.header_bytes.result = search rules in
    cc (c.in_ok-write_table.ensures, c.in_ok-write_contents.ensures, c.deref.ensures.value, c.deref-2.ensures.value)
