use Rattle.std.proofs.Common.{◌≡◌, ◌≤◌, length, map, take, vec_len, vec_capacity}
use Rattle.std.specs.List.{All}
use Rattle.commands.specs.Sims.{numbers_of}
use Rattle.run_command.specs.Faults.{order_numbers}
use Rattle.run_command.proofs.files.load_guests.Given as goal

-- the guests of the orders so far, with as many digests
abbrev pub invariant-loop-order : goal.invariant-loop-order
invariant-loop-order g l = record {
  of_profile : All (λ guest. guest.profile ≡ l.profile) l.guests.items;
  loaded : map numbers_of l.guests.items ≡ map order_numbers (take l.order-index l.orders);
  guests_so_far : vec_len l.guests ≡ l.order-index;
  digests_so_far : vec_len l.digests ≡ l.order-index;
  few : l.order-index ≤ length l.orders;
  room : length l.orders ≤ vec_capacity l.guests;
  digests_room : length l.orders ≤ vec_capacity l.digests;
}
