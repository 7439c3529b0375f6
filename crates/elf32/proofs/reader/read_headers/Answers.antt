use Rattle.std.proofs.Common.{◌+◌, ◌*◌, arith}
use Rattle.std.proofs.lemmas.List.FromFn.{map-range_with_len_more}
use Rattle.elf32.specs.Headers.{program_header}
use Rattle.elf32.proofs.reader.read_headers.Goals as goal

pub loop-k-preserved : goal.loop-k-preserved
loop-k-preserved c =
    let k = c.loop-k.k in
    let more = map-range_with_len_more (λ k. program_header c.args.file.now (c.args.header.now.table + 32 * k)) 0 k k (omega arith) in
    cc (c.in_ok-push.ensures.items, c.place.ensures, c.at.ensures)
