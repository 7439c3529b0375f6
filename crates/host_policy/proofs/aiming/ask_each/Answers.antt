use Rattle.std.proofs.Common.{◌≡◌, ℕ, ◌<◌, length, get_or, arith, ◌∙◌}
use Rattle.std.proofs.lemmas.List.{get_or_read, get_or_default}
use Rattle.cell.specs.declared.seat.Seat.{Seat}
use Rattle.reclaim.specs.declared.turn.Action.{Action}
use Rattle.reclaim.specs.Plans.{no_action}
use Rattle.host_policy.specs.declared.aiming.Aim.{Aim}
use Rattle.host_policy.specs.Turns.{IsAimed, IsTurned}
use Rattle.host_policy.proofs.Places.{done_more, done_both, left_more}
use Rattle.host_policy.proofs.Turned.{aimed_at, turned_at}
use Rattle.host_policy.proofs.aiming.ask_each.Goals as goal

pub loop-g-preserved : goal.loop-g-preserved
loop-g-preserved g c =
    let is_true = g.S.SwapStore.true_to_digests in
    let cells = c.args.cells.now in
    let actions = c.args.actions.now in
    let seats = c.args.seats.now in
    let i : ℕ = c.loop-g.g in
    let was = c.index-cells-g.result in
    let new : Seat = c.set_aim.new.seat in
    let aim : Aim = c.set_aim.result in
    let in_cells : i < length cells = omega arith in
    let in_actions : i < length actions = omega arith in
    let in_seats : i < length c.loop-g.seats = omega arith in
    let in_aims : i < length c.loop-g.aims = omega arith in
    let asked : Action = get_or actions i no_action in
    let sat : Seat = get_or c.loop-g.seats i c.index-seats-g.result in
    let its_action = λ (a : Action). get_or_default actions i no_action a in_actions in
    let its_seat = λ (s : Seat). get_or_default c.loop-g.seats i c.index-seats-g.result s in_seats ∙ c.loop-g.invariant.left i s (omega arith) in
    record {
      aimed = λ k cell a s s' m below.
          done_both (λ (j : ℕ) (x : Aim) (y : Seat). IsAimed (get_or cells j cell).front (get_or actions j a).balloon (get_or seats j s) x y) c.loop-g.aims c.loop-g.seats i aim new in_aims in_seats
          (λ j d e h. c.loop-g.invariant.aimed j cell a s e d h)
          (aimed_at was (get_or cells i cell) asked (get_or actions i a) sat (get_or seats i s) new aim
          (get_or_read cells i was in_cells c.index-cells-g.is cell) (its_action a) (its_seat s) c.set_aim.ensures.aimed)
          k m s' below;
      turned = λ k cell s s' below.
          let same : was ≡ get_or cells i cell = get_or_read cells i was in_cells c.index-cells-g.is cell in
          done_more (λ (j : ℕ) (y : Seat). IsTurned is_true (get_or cells j cell).front (get_or seats j s) y) c.loop-g.seats i new in_seats
          (λ j e h. c.loop-g.invariant.turned j cell s e h)
          (turned_at is_true was (get_or cells i cell) asked sat (get_or seats i s) new aim same (its_seat s) (c.requires.most i no_action cell in_cells)
          c.set_aim.ensures.its c.set_aim.ensures.lasts c.set_aim.ensures.lasts_with_store
          (aimed_at was (get_or cells i cell) asked asked sat (get_or seats i s) new aim same (its_action no_action) (its_seat s) c.set_aim.ensures.aimed))
          k s' below;
      left = left_more seats c.loop-g.seats i new c.loop-g.invariant.left;
    }
