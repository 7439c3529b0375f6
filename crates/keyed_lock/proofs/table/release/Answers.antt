use Rattle.std.proofs.Common.{rules, arith, ap}
use Rattle.keyed_lock.proofs.Steps.{releases}
use Rattle.keyed_lock.proofs.table.release.Goals as goal

pub swap-requires : goal.swap-requires
swap-requires g c =
    (search rules, search rules, releases _ _ _ _ _ _ (let one = c.requires.table.1 in omega arith) (ap (λ x. x.1) c.exchange.ensures.3) c.requires.fits)
