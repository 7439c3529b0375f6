use Rattle.commands.specs.Hosted.{hosted_of}
use Rattle.commands.proofs.Hosting.{may_stop}
use Rattle.commands.proofs.hosted.HostedGuestRunnable.steps.Goals as goal

pub returns-clause-reason : goal.returns-clause-reason
returns-clause-reason c = may_stop (hosted_of c.make_steps.new.world.tenants).log c.make_steps.result.1 c.make_steps.ensures.full
