use Rattle.std.proofs.Common.{◌∷◌, Some, ap, sym, ◌∙◌}
use Rattle.atomic_table.specs.Table.{rest}
use Rattle.keyed_lock.proofs.table.carry_off.Goals as goal

pub exchange-requires : goal.exchange-requires
exchange-requires g c = let t = c.requires.taken in (c.requires.table, (Some t.0, t.1 ∙ ap (λ l. (0, Some t.0) ∷ rest l) (sym t.1)))
