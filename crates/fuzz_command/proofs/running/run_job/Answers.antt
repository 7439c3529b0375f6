use Rattle.fuzz_command.specs.Jobs.{known_by}
use Rattle.fuzz_command.proofs.Handing.{known_wider}
use Rattle.fuzz_command.proofs.running.run_job.Goals as goal

pub returns-in-Ok-clause-known : goal.returns-in-Ok-clause-known
returns-in-Ok-clause-known c =
    known_wider c.in-Ok.machine.coverage.reached (known_by c.args.used) (known_by c.run_on.result) c.run_on.new.job c.in-Ok.ensures.known c.run_on.ensures.known
