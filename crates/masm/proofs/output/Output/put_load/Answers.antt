use Rattle.std.proofs.Common.{◌++◌, refl}
use Rattle.std.specs.Int.{to_le_bytes, w32}
use Rattle.masm.specs.Meanings.{loaded}
use Rattle.masm.proofs.OutputItems.{data_pushed}
use Rattle.masm.proofs.output.Output.put_load.Goals as goal

pub returns : goal.returns
returns c output is =
    data_pushed c.push_pair.result c.args.self.now c.push_pair.new.bytes output (to_le_bytes w32 c.encode.result ++ to_le_bytes w32 c.encode-2.result) (loaded c.args.rt c.args.number) c.push_pair.ensures is
    (c.encode.result, c.encode-2.result, refl, c.encode.ensures.reads, c.encode-2.ensures.reads)
