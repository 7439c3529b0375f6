use Rattle.std.proofs.Common.{◌≡◌, arith}
use Rattle.runs.specs.Runs.{after_steps}
use Rattle.fuzz_command.proofs.Readiness.{comes_first, steps_alone}
use Rattle.fuzz_command.proofs.ready.come_to.Goals as goal

pub returns-then-pc-address-clause-comes : goal.returns-then-pc-address-clause-comes
returns-then-pc-address-clause-comes c =
    let m = c.args.machine.now.machine in
    let now = c.run-ran.new.machine.machine in
    let ran = c.run-ran.result in
    let pc : c.pc.result ≡ c.args.address = omega (arith, c.if-pc-address.true) in
    let there : now.cpu.pc ≡ c.args.address = cc in
    let made : now ≡ after_steps ran.steps m = steps_alone ran m now c.run-ran.ensures.state in
    comes_first c.in_ok-until.until m now ran c.args.address c.in_ok-until.ensures c.run-ran.ensures.first made there
