use Rattle.std.proofs.Common.{refl}
use Rattle.masm.specs.Meanings.{Bytes}
use Rattle.masm_lines.specs.Texts.{bytes_in, ended}
use Rattle.masm.proofs.OutputItems.{data_pushed}
use Rattle.masm.proofs.output.Output.put_text.Goals as goal

pub returns : goal.returns
returns c output is =
    let bytes = ended c.args.zero (bytes_in c.args.text.now.text.now) in
    data_pushed c.push_text.result c.args.self.now c.push_text.new.bytes output bytes (Bytes bytes) c.push_text.ensures is refl
