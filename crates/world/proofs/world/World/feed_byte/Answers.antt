use Rattle.std.proofs.Common.{ℕ, ◌++◌, List, Err, ap, ◌∙◌}
use Rattle.world.proofs.All.{In, Item, input_items, input_logs, item_for, log_at, same_logs, some_tenant}
use Rattle.world.proofs.world.World.feed_byte.Goals as goal

pub unreachable-requires : goal.unreachable-requires
unreachable-requires g c =
    c.input.ensures.its_page c.in-Err-Away.field-0-0 (c.in-Err-Away.is ∙ ap Err c.in-Err-Away.field-0-is) (some_tenant c.args.self.now.tenants c.args.g c.requires)

pub returns-in-Ok-clause-taken : goal.returns-in-Ok-clause-taken
returns-in-Ok-clause-taken g c = λ h.
    let ts = c.args.self.now.tenants in
    let item : Item = record { seat = c.runner.result; what = In c.args.byte } in
    input_logs c.args.g ts c.input.new.self.tenants item c.input.result c.requires c.input.ensures.adds c.input.ensures.unchanged h
    ∙ ap (λ (xs : List Item). log_at ts h ++ xs) (ap (input_items h c.args.g item) c.in-Ok.is)
    ∙ ap (λ (n : ℕ). log_at ts h ++ item_for h c.args.g (record { seat = n; what = In c.args.byte })) c.runner.ensures

pub returns-in-Err-Machine-clause-not_taken : goal.returns-in-Err-Machine-clause-not_taken
returns-in-Err-Machine-clause-not_taken g c = same_logs c.args.g c.args.self.now.tenants c.input.new.self.tenants c.requires c.in-Err-Machine.ensures.unchanged

pub returns-in-Err-Stop-clause-not_taken : goal.returns-in-Err-Stop-clause-not_taken
returns-in-Err-Stop-clause-not_taken g c = same_logs c.args.g c.args.self.now.tenants c.input.new.self.tenants c.requires c.in-Err-Stop.ensures.unchanged
