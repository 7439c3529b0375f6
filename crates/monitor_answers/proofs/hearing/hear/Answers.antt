use Rattle.monitor_answers.proofs.Setting.{kept_lasts, kept_holds}
use Rattle.monitor_answers.proofs.hearing.hear.Goals as goal

pub returns-in-Err-clause-lasts : goal.returns-in-Err-clause-lasts
returns-in-Err-clause-lasts g c = kept_lasts c.args.hands.now

pub returns-in-Err-clause-lasts_with_store : goal.returns-in-Err-clause-lasts_with_store
returns-in-Err-clause-lasts_with_store g c = λ store. kept_holds c.args.hands.now
