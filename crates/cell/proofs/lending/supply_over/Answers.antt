use Rattle.std.proofs.Common.{◌<◌, ℕ, sym, subst}
use Rattle.cell.proofs.Lent.{moved_written, written_right}
use Rattle.cell.proofs.lending.supply_over.Goals as goal

pub returns-clause-written : goal.returns-clause-written
returns-clause-written g c trust written =
    moved_written c.args.stake.now c.supply-done.new.stake c.args.guest.now c.supply-done.new.pages c.supply-done.ensures.rest (c.supply-done.ensures.kept trust) written

pub returns-clause-right : goal.returns-clause-right
returns-clause-right g c trust written =
    written_right c.supply-done.new.stake c.supply-done.new.pages c.args.page (subst (λ (n : ℕ). c.args.page < n) (sym c.supply-done.ensures.count) c.requires.there)
    (moved_written c.args.stake.now c.supply-done.new.stake c.args.guest.now c.supply-done.new.pages c.supply-done.ensures.rest (c.supply-done.ensures.kept trust) written)
