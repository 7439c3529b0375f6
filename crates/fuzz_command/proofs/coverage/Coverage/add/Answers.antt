use Rattle.fuzz_command.proofs.Firsts.{first_more}
use Rattle.fuzz_command.proofs.coverage.Coverage.add.Goals as goal

pub loop-word-preserved : goal.loop-word-preserved
loop-word-preserved c =
    first_more c.args.name.now c.args.words.now c.loop-word.word-index c.args.self.now c.loop-word.self c.add_word.new.self c.loop-word-test.true c.loop-word.invariant c.in_ok-add_word.ensures
