use Rattle.std.proofs.Common.{ℕ, subst}
use Rattle.monitor.specs.Views.{order_view}
use Rattle.monitor_answers.specs.Orders.{IsOrderOf}
use Rattle.monitor_answers.proofs.Ordering.{order_is_of}
use Rattle.monitor_answers.proofs.Setting.{kept_lasts, kept_holds}
use Rattle.monitor_answers.proofs.hearing.hear_text.Goals as goal

pub obey-requires-clause-order : goal.obey-requires-clause-order
obey-requires-clause-order g c =
    subst (λ (n : ℕ). IsOrderOf n (order_view c.in-Ok.order)) c.count.ensures.value (order_is_of c.count.result c.args.text.now (order_view c.in-Ok.order) c.in-Ok.ensures)

pub returns-in-Err-clause-lasts : goal.returns-in-Err-clause-lasts
returns-in-Err-clause-lasts g c = kept_lasts c.args.hands.now

pub returns-in-Err-clause-lasts_with_store : goal.returns-in-Err-clause-lasts_with_store
returns-in-Err-clause-lasts_with_store g c = λ store. kept_holds c.args.hands.now
