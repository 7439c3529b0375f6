use Rattle.std.proofs.lemmas.List.Splits.{join_with_byte-slice_split}
use Rattle.line_words.specs.Words.{blank}
use Rattle.line_words.proofs.Parts.{one_without_blank, more_behind_blank}
use Rattle.line_words.proofs.laws.words_make_the_line.Goals as goal

pub returns-clause-joined : goal.returns-clause-joined
returns-clause-joined c = join_with_byte-slice_split blank

pub returns-clause-one : goal.returns-clause-one
returns-clause-one c = one_without_blank

pub returns-clause-more : goal.returns-clause-more
returns-clause-more c = more_behind_blank
