use Rattle.run_command.proofs.Words.{cut_some, cut_none}
use Rattle.run_command.proofs.word.cut.Goals as goal

pub returns-clause-cut : goal.returns-clause-cut
returns-clause-cut c = cut_some c.args.text.now c.split_once.result c.split_once.ensures.cases

pub returns-clause-whole : goal.returns-clause-whole
returns-clause-whole c = cut_none c.args.text.now c.split_once.result c.split_once.ensures.cases
