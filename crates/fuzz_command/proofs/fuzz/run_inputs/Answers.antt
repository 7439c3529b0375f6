use Rattle.fuzz_command.specs.Settings.{setting_of}
use Rattle.fuzz_command.proofs.Orders.{none_begun}
use Rattle.fuzz_command.proofs.fuzz.run_inputs.Goals as goal

pub returns-in-Err-clause-begun : goal.returns-in-Err-clause-begun
returns-in-Err-clause-begun g c = λ not_output.
    none_begun (setting_of c.args.setting.now) c.args.order.now.inputs.items (g.I.Read.remaining c.args.input.now) (g.O.Write.contents c.args.out.now)
