use Rattle.std.proofs.Common.{◌≡◌, refl, rules, length, vec_len}
use Rattle.word32.specs.Zeros.{zeros}
use Rattle.masm.specs.Meanings.{Bytes}
use Rattle.masm.proofs.OutputItems.{bytes_pushed}
use Rattle.masm.proofs.OutputWords.{zeros_behind}
use Rattle.masm.proofs.output.Output.put_zeros.Goals as goal

pub returns : goal.returns
unfolding zeros
returns c output is =
    let length_is : c.len.result ≡ length c.args.self.now.bytes.items = search rules in
    let same_length : vec_len c.args.self.now.bytes ≡ length c.args.self.now.bytes.items = search rules in
    bytes_pushed c.resize.result c.args.self.now c.resize.new.self output (zeros c.args.count) c.args.self.now.bytes.items (Bytes (zeros c.args.count))
    (rw (zeros_behind c.args.self.now.bytes.items c.len.result c.args.count (vec_len c.args.self.now.bytes) length_is same_length) at c.resize.ensures.items) is refl
