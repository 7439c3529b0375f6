use Rattle.std.proofs.Common.{sym}
use Rattle.line_words.proofs.Parts.{four_words}
use Rattle.line_words.proofs.words.words_of.Goals as goal

pub returns-in_default-Some : goal.returns-in_default-Some
returns-in_default-Some c =
    sym (four_words c.args.line.now c.first_word.result.0.now c.first_word-2.result.0.now c.first_word-3.result.0.now
    c.first_word.result.1 c.first_word-2.result.1 c.first_word-3.result.1 c.in-Some.rest c.in-Some-rest.rest c.in_default-Some.field-0-1
    c.first_word.ensures c.in-Some.is c.first_word-2.ensures c.in-Some-rest.is c.first_word-3.ensures c.in_default-Some.is-1)
