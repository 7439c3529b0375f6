use Rattle.std.proofs.Common.{◌≡◌, ◌+◌, ◌≤◌, ◌++◌, true, length, vec_capacity}
use Rattle.crossbeam_queue.specs.Passes.{view, IsPassOf, ruled_capacity}
use Rattle.console_queue.specs.Rule.{log}
use Rattle.console_queue.proofs.ring.empty_into.Given as goal

abbrev pub invariant-loop : goal.invariant-loop
invariant-loop g l =
    IsPassOf l.ring l.pass × (view l.pass ≡ log true true (view l.fn.pass).put ((view l.fn.pass).taken ++ l.waiting.items)) × (ruled_capacity l.ring ≤ vec_capacity l.waiting)
    × (length (view l.fn.pass).put ≤ length (view l.fn.pass).taken + ruled_capacity l.ring)
