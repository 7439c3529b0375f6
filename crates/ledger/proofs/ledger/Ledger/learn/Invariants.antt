use Rattle.ledger.proofs.ledger.Ledger.learn.Given as goal

abbrev pub ghosts-learn_of : goal.ghosts-learn_of
ghosts-learn_of g a = record { says = g.R.Rule.exact a.word.now.key }
