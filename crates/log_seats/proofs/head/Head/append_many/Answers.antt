use Rattle.std.proofs.Common.{sym, ap, ◌∙◌}
use Rattle.log_seats.proofs.Copies.{own_copies_of}
use Rattle.log_seats.proofs.Seats.{legal_own}
use Rattle.log_seats.proofs.head.Head.append_many.Goals as goal

pub returns-clause-after : goal.returns-clause-after
returns-clause-after c =
    let e = c.append_copies.ensures in
    let own = c.requires.own ∙ sym (ap (λ s. s.number) c.seat.view_is) in
    rw (e.pen, e.seat) (legal_own _ _ _ _ _ e.legal (own_copies_of c.args.item.now _ c.args.times own))
