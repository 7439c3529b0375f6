use Rattle.std.proofs.Common.{◌≡◌, ℕ, suc, ◌++◌, ◌∷◌, [], All, List, length, refl, sym, ap, subst, ◌∙◌, append_assoc, arith, map}
use Rattle.std.specs.Vec.Iter.{into_iter_items}
use Rattle.script.specs.Courses.{LineEvent}
use Rattle.script.specs.Views.{event_view}
use Rattle.script.specs.declared.event.Event.{Event}
use Rattle.simulation.specs.Acts.{IsFor}
use Rattle.simulation.proofs.Playing.{broken, next, nothing_played, of_line, of_line_more}
use Rattle.simulation.proofs.blocks.play_events.Goals as goal

pub loop-event-init : goal.loop-event-init
loop-event-init g c =
    let gives = c.into_iter-event-iterator.ensures.into_iter_gives in
    let w = c.args.world.now in
    let guests = length w.tenants in
    let slots = g.S.SwapStore.slots w.store in
    record {
      order = refl;
      left = omega (arith, gives.1, ap length gives.0);
      each = subst (λ (l : List Event). All (IsFor guests slots) (map event_view l)) (sym gives.0) c.requires;
      guests = refl;
      slots = refl;
      played = nothing_played g.S.SwapStore c.args.numbered guests slots (g.R.Rng.stream c.args.rng.now) w (g.W.Write.contents c.args.out.now) (g.W.Write.contents c.args.out.now) refl;
    }

pub play_event-requires : goal.play_event-requires
play_event-requires g c =
    let at = c.loop-event in
    let e = c.in-Some.event in
    let guests = length c.args.world.now.tenants in
    let slots = g.S.SwapStore.slots c.args.world.now.store in
    let each : All (IsFor guests slots) (map event_view (e ∷ into_iter_items c.next.new.self)) =
    subst (λ (l : List Event). All (IsFor guests slots) (map event_view l)) c.in-Some.ensures.steps.0 at.invariant.each in
    subst (λ (n : ℕ). IsFor n (g.S.SwapStore.slots at.world.store) (event_view e)) (sym at.invariant.guests)
    (subst (λ (n : ℕ). IsFor guests n (event_view e)) (sym at.invariant.slots) (each 0 (event_view e) (omega arith)))

pub loop-event-preserved : goal.loop-event-preserved
loop-event-preserved g c =
    let at = c.loop-event in
    let e = c.in-Some.event in
    let s = g.S.SwapStore in
    let guests = length c.args.world.now.tenants in
    let slots = s.slots c.args.world.now.store in
    let rest = into_iter_items c.next.new.self in
    let steps : into_iter_items at.event-iterator ≡ e ∷ rest = c.in-Some.ensures.steps.0 in
    let gone = c.in-Some.ensures.steps.1 in
    let each : All (IsFor guests slots) (map event_view (e ∷ rest)) = subst (λ (l : List Event). All (IsFor guests slots) (map event_view l)) steps at.invariant.each in
    let then =
    next s c.args.numbered guests slots at.invariant.played at.invariant.guests at.invariant.slots c.in_ok-play_event.ensures at.invariant.guests at.invariant.slots
    (of_line_more c.args.line at.yielded (e ∷ [])) in
    record {
      order = append_assoc at.yielded (e ∷ []) rest ∙ ap (λ (l : List Event). at.yielded ++ l) (sym steps) ∙ at.invariant.order;
      left = omega (arith, at.invariant.left, gone, ap length steps);
      each = λ k d h. each (suc k) d (omega (arith, h));
      guests = then.guests;
      slots = then.slots;
      played = then.played;
    }

pub returns-in_err-play_event : goal.returns-in_err-play_event
returns-in_err-play_event g c =
    let at = c.loop-event in
    let e = c.in-Some.event in
    let s = g.S.SwapStore in
    let w = c.args.world.now in
    let line = of_line c.args.line in
    let rest = into_iter_items c.next.new.self in
    let items : c.args.events.items ≡ (at.yielded ++ e ∷ []) ++ rest =
    sym c.into_iter-event-iterator.ensures.into_iter_gives.0 ∙ sym at.invariant.order ∙ ap (λ (l : List Event). at.yielded ++ l) c.in-Some.ensures.steps.0 ∙ sym (append_assoc at.yielded (e ∷ []) rest) in
    broken s c.args.numbered (length w.tenants) (s.slots w.store) at.invariant.played at.invariant.guests at.invariant.slots _ c.from_residual.result c.in_err-play_event.ensures
    at.invariant.guests at.invariant.slots
    (ap line items ∙ of_line_more c.args.line (at.yielded ++ e ∷ []) rest ∙ ap (λ (l : List LineEvent). l ++ line rest) (of_line_more c.args.line at.yielded (e ∷ []))) c.from_residual.ensures.1
    refl refl
