use Rattle.std.proofs.Common.{rules, arith}
use Rattle.keyed_lock.proofs.Steps.{arrives}
use Rattle.keyed_lock.proofs.table.take_or_mark.Goals as goal

pub swap_new_seat-found-requires : goal.swap_new_seat-found-requires
swap_new_seat-found-requires g c = (search rules, arrives _ _ _ c.args.table.now.key (λ none. omega arith))

pub carry_off-requires-clause-taken : goal.carry_off-requires-clause-taken
carry_off-requires-clause-taken g c = c.swap_new_seat-found.ensures.1 c.if-found-ne0.false
