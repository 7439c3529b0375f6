use Rattle.std.proofs.Common.{arith}
use Rattle.masm.proofs.DisassemblyLines.{word_more}
use Rattle.masm.proofs.disassembly.push_segment.Goals as goal

pub loop-rest-preserved : goal.loop-rest-preserved
loop-rest-preserved c =
    word_more c.loop-rest.at c.from_le_bytes.result c.loop-rest.rest.now _ _ _ (omega (arith, c.loop-rest.auto.at-fits)) c.in-len4-up.len_at_least c.from_le_bytes.ensures c.in_ok-push_word.ensures c.loop-rest.invariant
