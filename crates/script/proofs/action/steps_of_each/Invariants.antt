use Rattle.std.proofs.Common.{◌≡◌, map}
use Rattle.script.specs.Courses.{of_each}
use Rattle.script.specs.Events.{Step}
use Rattle.script.specs.Views.{event_view}
use Rattle.script.proofs.action.steps_of_each.Given as goal

-- an event of each guest so far
abbrev pub invariant-loop-guest : goal.invariant-loop-guest
invariant-loop-guest l = map event_view l.events.items ≡ of_each l.guest (λ g. Step g l.count)
