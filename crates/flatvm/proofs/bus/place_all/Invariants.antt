use Rattle.std.proofs.Common.{◌≡◌, length, fold, drop}
use Rattle.machine.specs.Boot.{placed}
use Rattle.flatvm.proofs.bus.place_all.Given as goal

-- what is left to place leads to the memory that is wanted
abbrev pub invariant-loop-segment : goal.invariant-loop-segment
invariant-loop-segment l =
    (length l.memory ≡ length l.fn.memory) × (fold placed l.memory (drop l.segment-index l.segments) ≡ fold placed l.fn.memory l.segments)
