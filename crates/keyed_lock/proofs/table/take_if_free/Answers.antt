use Rattle.std.proofs.Common.{rules, arith}
use Rattle.keyed_lock.proofs.Steps.{enters, asks, taken_fits}
use Rattle.keyed_lock.specs.declared.rule.Held.{Held}
use Rattle.keyed_lock.proofs.table.take_if_free.Goals as goal

pub load_new_seat-seen-requires : goal.load_new_seat-seen-requires
load_new_seat-seen-requires g c = (search rules, enters _ _ c.args.table.now.key)

pub compare_exchange-found-requires : goal.compare_exchange-found-requires
compare_exchange-found-requires g c =
    let seat = c.load_new_seat-seen.ensures in
    (seat.0, search rules, asks (λ key (held : Held _). g.T.Fits.fits key held.value) _ _ c.args.mark _ _ seat.1 seat.2 c.requires.mark)

pub carry_off-requires-clause-taken : goal.carry_off-requires-clause-taken
carry_off-requires-clause-taken g c =
    taken_fits (λ key (held : Held _). g.T.Fits.fits key held.value) _ _ c.compare_exchange-found.new.seat.me c.load_new_seat-seen.ensures.2 (c.compare_exchange-found.ensures.2 c.if-found-ne0.false)
