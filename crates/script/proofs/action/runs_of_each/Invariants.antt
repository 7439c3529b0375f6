use Rattle.std.proofs.Common.{◌≡◌, map}
use Rattle.script.specs.Courses.{of_each}
use Rattle.script.specs.Events.{Run}
use Rattle.script.specs.Views.{event_view}
use Rattle.script.proofs.action.runs_of_each.Given as goal

-- an event of each guest so far
abbrev pub invariant-loop-guest : goal.invariant-loop-guest
invariant-loop-guest l = map event_view l.events.items ≡ of_each l.guest (λ g. Run g l.count)
