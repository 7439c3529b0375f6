use Rattle.std.proofs.Common.{arith}
use Rattle.monitor.proofs.Inputs.{an_input}
use Rattle.monitor.proofs.parsing.input.Goals as goal

pub returns-in-Err : goal.returns-in-Err
returns-in-Err c = an_input c.args.guests c.in-Some.guest c.args.guest.now c.args.digits.now c.in-Some.ensures (omega arith) c.in-Err.ensures.only_bytes
