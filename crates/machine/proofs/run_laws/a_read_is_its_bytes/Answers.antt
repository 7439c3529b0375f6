use Rattle.machine.proofs.Replies.{read_byte}
use Rattle.machine.proofs.run_laws.a_read_is_its_bytes.Goals as goal

pub returns-clause-each : goal.returns-clause-each
returns-clause-each c = read_byte
