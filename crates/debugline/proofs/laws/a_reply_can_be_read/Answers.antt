use Rattle.hex.proofs.HexLemmas.{decode_of-encode_lower}
use Rattle.debugline.proofs.ReadBack.{eight_digits, word_again}
use Rattle.debugline.proofs.laws.a_reply_can_be_read.Goals as goal

pub returns-clause-eight : goal.returns-clause-eight
returns-clause-eight c = eight_digits

pub returns-clause-word : goal.returns-clause-word
returns-clause-word c = word_again

pub returns-clause-bytes : goal.returns-clause-bytes
returns-clause-bytes c = decode_of-encode_lower
