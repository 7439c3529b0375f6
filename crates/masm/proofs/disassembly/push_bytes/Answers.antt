use Rattle.std.proofs.Common.{arith}
use Rattle.masm.proofs.DisassemblyLines.{byte_more}
use Rattle.masm.proofs.disassembly.push_bytes.Goals as goal

pub loop-byte-preserved : goal.loop-byte-preserved
loop-byte-preserved c =
    byte_more c.loop-byte.at c.loop-byte.byte-index c.args.bytes.now _ _ _ (omega (arith, c.loop-byte.auto.at-fits)) (omega (arith, c.loop-byte-test.true)) c.requires c.in_ok-push_byte.ensures c.loop-byte.invariant
