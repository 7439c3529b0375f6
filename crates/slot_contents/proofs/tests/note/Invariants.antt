use Rattle.slot_contents.proofs.tests.note.Given as goal

abbrev pub ghosts-note_as : goal.ghosts-note_as
ghosts-note_as g a = record { bytes = a.bytes.now }
