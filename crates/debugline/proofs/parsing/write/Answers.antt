use Rattle.std.proofs.Common.{arith}
use Rattle.debugline.proofs.Writes.{a_write}
use Rattle.debugline.proofs.parsing.write.Goals as goal

pub returns-in-Err-clause-only_a_write : goal.returns-in-Err-clause-only_a_write
returns-in-Err-clause-only_a_write c = a_write c.args.address.now c.args.digits.now c.in-Some.address c.in-Some.ensures (omega arith) c.in-Err.ensures.only_bytes
