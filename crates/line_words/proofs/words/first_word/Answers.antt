use Rattle.std.proofs.Common.{◌≡◌, ◌+◌, ◌-◌, arith, length, take, drop}
use Rattle.std.proofs.lemmas.Grind.{common_steps}
use Rattle.line_words.proofs.Parts.{first_word_ends, one_word}
use Rattle.line_words.proofs.words.first_word.Goals as goal

pub returns-then-end-text : goal.returns-then-end-text
returns-then-end-text c =
    let text = c.args.text.now in
    let end = c.first_blank-end.result in
    let to_end : take (length text - (end + 1)) (drop (end + 1) text) ≡ drop (end + 1) text = grind (arith, common_steps) in
    rw to_end (first_word_ends text end c.first_blank-end.ensures.value c.if-end-text.true)

pub returns-else-end-text : goal.returns-else-end-text
returns-else-end-text c = one_word c.args.text.now (omega (arith, c.if-end-text.false, c.first_blank-end.ensures.value))
