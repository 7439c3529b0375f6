use Rattle.std.proofs.Common.{refl, flat_map}
use Rattle.masm.specs.Meanings.{Bytes}
use Rattle.masm_lines.specs.Lists.{parts, half_bytes}
use Rattle.masm.proofs.OutputItems.{data_pushed}
use Rattle.masm.proofs.output.Output.put_halves.Goals as goal

pub returns : goal.returns
returns c output is =
    let bytes = flat_map half_bytes (parts c.args.list.now.text.now) in
    data_pushed c.push_halves.result c.args.self.now c.push_halves.new.bytes output bytes (Bytes bytes) c.push_halves.ensures is refl
