use Rattle.std.proofs.Common.{◌≡◌, ◌≤◌, ◌<◌, vec_len, vec_capacity}
use Rattle.run_command.proofs.boot.open_doors.Given as goal

-- a door for each guest so far
abbrev pub invariant-loop-guest : goal.invariant-loop-guest
invariant-loop-guest g l = record {
  so_far : vec_len l.doors ≡ l.guest;
  few : l.guest ≤ vec_len l.order.guests;
  room : vec_len l.order.guests ≤ vec_capacity l.doors;
  some : 0 < l.order.port;
}
