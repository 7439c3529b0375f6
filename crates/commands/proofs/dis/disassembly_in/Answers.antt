use Rattle.commands.proofs.dis.disassembly_in.Goals as goal

pub returns-clause-lines : goal.returns-clause-lines
returns-clause-lines c = record { image = c.in_ok-image.image; stands = c.in_ok-image.ensures.stands; whole = c.in_ok-disassembly_of.ensures }
