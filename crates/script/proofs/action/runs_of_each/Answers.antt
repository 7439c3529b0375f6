use Rattle.std.proofs.Common.{ℕ, ◌≡◌, ◌∙◌, ◌++◌, ◌∷◌, [], List, ap, sym, arith, map}
use Rattle.std.proofs.lemmas.List.{map-append}
use Rattle.std.proofs.lemmas.List.FromFn.{map-range_with_len_more}
use Rattle.script.specs.Events.{Event, Run}
use Rattle.script.specs.Views.{event_view}
use Rattle.script.proofs.action.runs_of_each.Goals as goal

pub loop-guest-preserved : goal.loop-guest-preserved
loop-guest-preserved c =
    ap (map event_view) c.in_ok-push.ensures.items
    ∙ map-append event_view _ _
    ∙ ap (λ (guest : ℕ). map event_view c.loop-guest.events.items ++ Run guest c.args.count ∷ []) c.new-guest.ensures
    ∙ ap (λ (events : List Event). events ++ Run c.loop-guest.guest c.args.count ∷ []) c.loop-guest.invariant
    ∙ sym (map-range_with_len_more (λ g. Run g c.args.count) 0 c.loop-guest.guest c.loop-guest.guest (omega arith))
