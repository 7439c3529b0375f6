use Rattle.monitor_answers.proofs.Setting.{kept_lasts, kept_holds}
use Rattle.monitor_answers.proofs.hearing.obey.Goals as goal

pub returns-in-Quit-clause-lasts : goal.returns-in-Quit-clause-lasts
returns-in-Quit-clause-lasts g c = kept_lasts c.args.hands.now

pub returns-in-Quit-clause-lasts_with_store : goal.returns-in-Quit-clause-lasts_with_store
returns-in-Quit-clause-lasts_with_store g c = λ store. kept_holds c.args.hands.now
