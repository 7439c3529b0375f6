use Rattle.std.proofs.Common.{◌≡◌, length}
use Rattle.reset_machine.specs.Watched.{IsWatched}
use Rattle.reset_machine.proofs.bus.reload.Given as goal

-- the pages that are put back are marked no more
abbrev pub invariant-loop-page : goal.invariant-loop-page
invariant-loop-page l = record {
  watched : IsWatched l.flat.memory l.marks.marked l.home.board.memory;
  devices : l.flat.devices ≡ l.initial.flat.devices;
}

abbrev pub decreases-loop-page : goal.decreases-loop-page
decreases-loop-page l = length l.marks.list
