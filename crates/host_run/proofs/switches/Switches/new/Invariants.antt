use Rattle.std.proofs.Common.{◌≡◌, ◌≤◌, vec_len}
use Rattle.std.specs.Prelude.{vec_capacity}
use Rattle.host_run.proofs.switches.Switches.new.Given as goal

abbrev pub invariant-loop : goal.invariant-loop
invariant-loop l = record {
  stops : vec_len l.stops ≡ l.counter;
  runners : vec_len l.runners ≡ l.counter;
  stops_room : l.guests ≤ vec_capacity l.stops;
  runners_room : l.guests ≤ vec_capacity l.runners;
}
