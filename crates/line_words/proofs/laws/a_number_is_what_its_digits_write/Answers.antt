use Rattle.line_words.proofs.Written.{written, read, written_by_few, read_from_few}
use Rattle.line_words.proofs.laws.a_number_is_what_its_digits_write.Goals as goal

pub returns-clause-decimal : goal.returns-clause-decimal
returns-clause-decimal c = λ text n. (written 10 text n, λ h. read 10 text n h.0 h.1)

pub returns-clause-hexadecimal : goal.returns-clause-hexadecimal
returns-clause-hexadecimal c = λ text n. (written_by_few text n, λ h. read_from_few text n h.0 h.1)
