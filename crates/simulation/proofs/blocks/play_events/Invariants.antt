use Rattle.std.proofs.Common.{◌≡◌, ◌++◌, All, length, map}
use Rattle.std.specs.Vec.Iter.{into_iter_items, into_iter_len}
use Rattle.script.specs.Views.{event_view}
use Rattle.simulation.specs.Acts.{IsFor}
use Rattle.simulation.specs.Playing.{HasPlayed}
use Rattle.simulation.proofs.Playing.{of_line}
use Rattle.simulation.proofs.blocks.play_events.Given as goal

-- the events so far are done, and the replies to them are written
abbrev pub invariant-loop-event : goal.invariant-loop-event
invariant-loop-event g l = record {
  order : l.yielded ++ into_iter_items l.event-iterator ≡ into_iter_items l.initial.event-iterator;
  left : into_iter_len l.event-iterator ≡ length (into_iter_items l.event-iterator);
  each : All (IsFor (length l.fn.world.tenants) (g.S.SwapStore.slots l.fn.world.store)) (map event_view (into_iter_items l.event-iterator));
  guests : length l.world.tenants ≡ length l.fn.world.tenants;
  slots : g.S.SwapStore.slots l.world.store ≡ g.S.SwapStore.slots l.fn.world.store;
  played : HasPlayed g.S.SwapStore l.numbered (length l.fn.world.tenants) (g.S.SwapStore.slots l.fn.world.store) (g.R.Rng.stream l.fn.rng) l.fn.world (of_line l.line l.yielded)
      (g.R.Rng.stream l.rng) l.world (g.W.Write.contents l.fn.out) (g.W.Write.contents l.out);
}
