use Rattle.masm_lines.specs.Views.{list_values}
use Rattle.masm.proofs.OutputSteps.{words_follow}
use Rattle.masm.proofs.output.Output.put_words.Goals as goal

pub returns : goal.returns
returns c known output knows is =
    words_follow known c.push_words.result (list_values c.args.list.now) c.args.self.now c.push_words.new.bytes output is (c.push_words.ensures known knows)
