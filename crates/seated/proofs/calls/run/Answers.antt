use Rattle.std.proofs.Common.{arith, ◌≡◌, List, sym, ap, ◌∙◌, subst}
use Rattle.items.specs.declared.item.Item.{Item}
use Rattle.items.specs.Entries.{steps_of}
use Rattle.log_seats.specs.Heads.{SeatIs}
use Rattle.log_seats.specs.Legal.{Legal}
use Rattle.page_moves.specs.Faith.{Kept}
use Rattle.guest.specs.Guests.{GuestIs, view_of}
use Rattle.guest.specs.Views.{pages_seen}
use Rattle.seated.specs.Acts.{Acts}
use Rattle.seated.proofs.Seeing.{acts_some, acts_none}
use Rattle.seated.proofs.calls.run.Goals as goal
use Rattle.seated.proofs.calls.run.Goals.{then-progress-eq0, else-progress-eq0}

pub returns-clause-acts : goal.returns-clause-acts
returns-clause-acts c =
    let seat = c.args.seat.now in
    let before = c.args.guest.now.log.items in
    let count = c.run-progress.result.steps in
    let mid = c.run-progress.new.self in
    let same : before ≡ c.log_room.new.self.log.items = sym c.log_room.ensures.taken.items in
    elim c.if-progress-eq0.branch [
      | then-progress-eq0 w ↦
          let none = c.run-progress.ensures.unchanged w.if-progress-eq0.true in
          let items : mid.log.items ≡ before = ap (λ (g : GuestIs). g.log.items) none.0 ∙ sym same in
          let e = w.settle-then-progress-eq0.ensures in
          acts_none seat c.if-progress-eq0.seat before count w.if-progress-eq0.true
          (w.seat-is ∙ e.seat ∙ ap (λ (t : SeatIs). record t { saw = mid.log.items }) none.1 ∙ ap (λ (xs : List Item). record seat { saw = xs }) items)
          (subst (λ (xs : List Item). Legal xs seat.number seat.saw seat.made) items (subst (λ (t : SeatIs). Legal mid.log.items t.number t.saw t.made) none.1 e.legal))
      | else-progress-eq0 w ↦
          let some = w.if-progress-eq0.false in
          subst (Acts seat before (steps_of seat.number count)) (sym w.seat-is)
          (acts_some c.log_room.new.self mid seat c.run-progress.new.seat before count same (c.run-progress.ensures.logs (omega (arith, some))))
    ]

pub returns-clause-kept : goal.returns-clause-kept
returns-clause-kept c = λ intact held k.
    let room = c.log_room.ensures in
    let ran = c.run-progress.ensures.kept (room.intact intact) held (room.kept held k) in
    let KeptBy : GuestIs → Type 0 = λ g. Kept held (pages_seen (view_of g)) g.bus.pages in
    elim c.if-progress-eq0.branch [
      | then-progress-eq0 w ↦ subst KeptBy (sym (w.guest-is ∙ w.settle-then-progress-eq0.ensures.guest)) ran
      | else-progress-eq0 w ↦ subst KeptBy (sym w.guest-is) ran
    ]
