use Rattle.masm.proofs.OneImage.{listing_printed, one_disassembly}
use Rattle.masm.proofs.laws.listing_is_disassembly_of_the_executable.Goals as goal

pub returns-clause-listing : goal.returns-clause-listing
returns-clause-listing c = listing_printed c.one_word_encodes_an_instruction.ensures

pub returns-clause-only : goal.returns-clause-only
returns-clause-only c = one_disassembly
