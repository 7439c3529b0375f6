use Rattle.masm.proofs.OneImage.{one_image, one_entry}
use Rattle.masm.proofs.laws.listing_has_one_image.Goals as goal

pub returns-clause-entry : goal.returns-clause-entry
returns-clause-entry c = one_entry

pub returns-clause-segments : goal.returns-clause-segments
returns-clause-segments c = one_image c.one_word_encodes_an_instruction.ensures
