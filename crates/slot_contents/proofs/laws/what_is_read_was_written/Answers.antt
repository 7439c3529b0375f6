use Rattle.slot_contents.proofs.Writings.{holds_written}
use Rattle.slot_contents.proofs.laws.what_is_read_was_written.Goals as goal

pub returns-clause-held : goal.returns-clause-held
returns-clause-held c = holds_written
