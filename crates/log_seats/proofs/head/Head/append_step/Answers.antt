use Rattle.log_seats.proofs.Copies.{own_copies}
use Rattle.log_seats.proofs.Seats.{legal_own}
use Rattle.log_seats.proofs.head.Head.append_step.Goals as goal

pub returns-clause-after : goal.returns-clause-after
returns-clause-after c =
    let e = c.append_step.ensures in
    rw (e.pen, e.seat) (legal_own _ _ _ _ _ e.legal (own_copies _ 1))
