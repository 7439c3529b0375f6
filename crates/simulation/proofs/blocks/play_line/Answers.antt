use Rattle.std.proofs.Common.{ℕ, List, All, length, refl, subst, sym}
use Rattle.script.specs.Courses.{action_events, line_events}
use Rattle.script.specs.Events.{Event}
use Rattle.script.specs.Views.{line_view}
use Rattle.simulation.specs.Acts.{IsFor}
use Rattle.simulation.proofs.Playing.{events_for, outcome_none}
use Rattle.simulation.proofs.blocks.play_line.Goals as goal

pub returns-in_err-events : goal.returns-in_err-events
returns-in_err-events g c =
    let w = c.args.world.now in
    let words = g.R.Rng.stream c.args.rng.now in
    outcome_none g.S.SwapStore c.args.numbered c.args.guests (g.S.SwapStore.slots w.store) words words w w (line_events c.args.guests (line_view c.args.line.now)) (g.W.Write.contents c.args.out.now)
    c.from_residual.result _ c.from_residual.ensures.1 refl refl

pub play_events-requires : goal.play_events-requires
play_events-requires g c =
    let slots = g.S.SwapStore.slots c.args.world.now.store in
    subst (λ (l : List Event). All (IsFor (length c.args.world.now.tenants) slots) l) (sym c.in_ok-events.ensures)
    (subst (λ (n : ℕ). All (IsFor n slots) (action_events c.args.guests (line_view c.args.line.now).action)) (sym c.requires.guests) (events_for c.args.guests slots (line_view c.args.line.now).action c.requires.can))
