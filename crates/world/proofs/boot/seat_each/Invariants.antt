use Rattle.std.proofs.Common.{◌≡◌, ◌+◌, ℕ, length, map, take, drop, vec_len, vec_capacity}
use Rattle.booting.specs.Boots.{AreAtBoot}
use Rattle.world.proofs.All.{AreBooted, guest_in, into_iter_items, into_iter_len, with_seats}
use Rattle.world.proofs.boot.seat_each.Given as goal

-- the guests so far have their seats
abbrev pub invariant-loop-new : goal.invariant-loop-new
invariant-loop-new l = record {
  left : into_iter_items l.rest ≡ drop l.new-index l.fn.guests.items;
  size : into_iter_len l.rest + l.new-index ≡ length l.asked;
  guests : map guest_in l.tenants.items ≡ map with_seats (take l.new-index l.fn.guests.items);
  booted : (runs : ℕ) → AreAtBoot runs l.asked l.fn.guests.items → AreBooted runs (take l.new-index l.asked) l.tenants.items;
  len : vec_len l.tenants ≡ l.new-index;
  room : vec_capacity l.tenants ≡ vec_capacity l.fn.tenants;
}
