use Rattle.std.proofs.Common.{◌≡◌, ◌≤◌, ◌+◌, ◌-◌, length, take}
use Rattle.runs.specs.Runs.{fed}
use Rattle.runs.proofs.feeding.feed_all.Given as goal

-- the bytes up to here were fed, and the others have room
abbrev pub invariant-loop-byte : goal.invariant-loop-byte
invariant-loop-byte g l = record {
  taken : l.taken ≡ l.byte-index;
  few : l.byte-index ≤ length l.bytes;
  state : g.M.Runnable.state l.machine ≡ fed (take l.byte-index l.bytes) (g.M.Runnable.state l.fn.machine);
  kept : g.M.Runnable.kept l.machine ≡ g.M.Runnable.kept l.fn.machine;
  covered : g.M.Runnable.coverage l.machine ≡ g.M.Runnable.coverage l.fn.machine;
  room : length (g.M.Runnable.state l.machine).board.devices.console.input + (length l.bytes - l.byte-index) ≤ 256;
}
