use Rattle.std.proofs.Common.{◌<◌, arith, length, ◌∙◌}
use Rattle.std.proofs.lemmas.Bool.Decides.{nat_tests}
use Rattle.line_words.proofs.Pairs.{bytes_in_even_digits}
use Rattle.line_words.proofs.hex_bytes.are_bytes.Goals as goal

pub returns : goal.returns
returns c =
    let full = c.if-is_empty.ensures in
    let some : 0 < length c.args.word.now = grind (arith, nat_tests, full) in
    c.are_digits.ensures ∙ bytes_in_even_digits c.args.word.now some (omega (arith, c.if-word-eq1.false))
