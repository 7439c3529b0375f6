use Rattle.std.proofs.Common.{refl, flat_map}
use Rattle.masm.specs.Meanings.{Bytes}
use Rattle.masm_lines.specs.Lists.{parts, byte_of}
use Rattle.masm.proofs.OutputItems.{data_pushed}
use Rattle.masm.proofs.output.Output.put_bytes.Goals as goal

pub returns : goal.returns
returns c output is =
    let bytes = flat_map byte_of (parts c.args.list.now.text.now) in
    data_pushed c.push_bytes.result c.args.self.now c.push_bytes.new.bytes output bytes (Bytes bytes) c.push_bytes.ensures is refl
