use Rattle.std.proofs.Common.{sym, ◌∙◌, append-nil}
use Rattle.world.proofs.All.{guests_sampled, log_at}
use Rattle.world.proofs.Sampling.{sampled_logs}
use Rattle.world.proofs.world.World.apply_sample.Goals as goal

pub returns-clause-answered : goal.returns-clause-answered
returns-clause-answered g c = λ tax. (record { words = g.R.Rng.stream c.args.rng.now; sampled = c.sample.ensures.sampled; beside = c.sample.ensures.beside }, c.sample.ensures.around)

pub returns-clause-logs : goal.returns-clause-logs
returns-clause-logs g c = λ h. sampled_logs c.args.self.now.tenants c.sample.new.self.tenants c.sample.ensures.beside h ∙ sym (append-nil (log_at c.args.self.now.tenants h))

pub returns-clause-guests : goal.returns-clause-guests
returns-clause-guests g c = guests_sampled c.sample.ensures.beside
