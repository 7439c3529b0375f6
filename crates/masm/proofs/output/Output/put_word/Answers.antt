use Rattle.masm.specs.Images.{StandFor}
use Rattle.masm.proofs.OutputItems.{bytes_pushed}
use Rattle.masm.proofs.output.Output.put_word.Goals as goal

pub returns : goal.returns
returns c output item is stands =
    let same : StandFor c.to_le_bytes.result item = rw c.to_le_bytes.ensures stands in
    bytes_pushed c.extend_from_slice.result c.args.self.now c.extend_from_slice.new.self output c.to_le_bytes.result c.args.self.now.bytes.items item c.extend_from_slice.ensures.items is same
