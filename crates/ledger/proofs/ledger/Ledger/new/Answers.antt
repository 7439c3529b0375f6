use Rattle.ledger.proofs.Steps.{begins}
use Rattle.ledger.proofs.ledger.Ledger.new.Goals as goal

pub of_words-requires : goal.of_words-requires
of_words-requires g c = begins _ _ _ (g.met.R.SoundRule.begins c.args.key.now)
