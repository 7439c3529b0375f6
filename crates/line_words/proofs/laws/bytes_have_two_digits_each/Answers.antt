use Rattle.line_words.proofs.Pairs.{two_digits_each, one_at_least, each_is_a_byte}
use Rattle.line_words.proofs.laws.bytes_have_two_digits_each.Goals as goal

pub returns-clause-digits : goal.returns-clause-digits
returns-clause-digits c = two_digits_each

pub returns-clause-some : goal.returns-clause-some
returns-clause-some c = one_at_least

pub returns-clause-bytes : goal.returns-clause-bytes
returns-clause-bytes c = each_is_a_byte
