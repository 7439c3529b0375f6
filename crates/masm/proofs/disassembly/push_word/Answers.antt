use Rattle.std.proofs.Common.{◌≡◌, [], ap, ◌∙◌, option_to_list}
use Rattle.mips_isa.specs.Table.{readings}
use Rattle.masm.specs.Disassembly as spec
use Rattle.masm.proofs.disassembly.push_word.Goals as goal

pub returns-in-None : goal.returns-in-None
unfolding spec.word_line
returns-in-None c =
    let none : readings c.args.word ≡ [] = c.decode.ensures ∙ ap option_to_list c.in-None.is in
    rw none c.writeln-in-None.ensures.bytes
