use Rattle.std.proofs.Common.{◌≡◌, ◌+◌, ◌*◌, ◌%◌, ◌^◌, ◌++◌, length, ap, ◌∙◌, arith, rules}
use Rattle.elf32.proofs.Bytes.{same_table, table_more}
use Rattle.elf32.proofs.writer.write_table.Goals as goal

pub loop-segment-init : goal.loop-segment-init
loop-segment-init c =
    let segments = c.args.segments.now in
    let offset = (c.low_word.result * c.from.result % 2 ^ 32 + c.from-2.result) % 2 ^ 32 in
    let product : c.low_word.result * c.from.result ≡ c.low_word.result * 32 = ap (λ n. c.low_word.result * n) c.from.ensures in
    let table = same_table offset (52 + 32 * length segments) segments (omega arith) in
    cc

pub loop-segment-preserved : goal.loop-segment-preserved
loop-segment-preserved c =
    let segment = c.segment-item.result in
    let items : c.extend_from_slice.new.self.items ≡ c.loop-segment.file.items ++ c.program_header_bytes.result = search rules in
    table_more c.loop-segment.file.items _ c.loop-segment.offset _ c.loop-segment.segment-index c.args.segments.now segment _ c.loop-segment-test.true c.segment-item.is (items ∙ ap (λ b. c.loop-segment.file.items ++ b) c.program_header_bytes.ensures) (omega (arith, segment.bytes.ok.0)) c.loop-segment.invariant
