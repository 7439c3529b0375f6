use Rattle.std.proofs.Common.{◌≡◌, ℕ, ◌+◌, ◌≤◌, ◌++◌, All, length, map, vec_len, vec_capacity}
use Rattle.world.proofs.All.{AllHappen, IsProper, LimitsStay, StoreStays, boot_of, into_iter_items, into_iter_len, log_at, own}
use Rattle.world.proofs.world.World.run.Given as goal

-- the logs have the items of the events so far
abbrev pub invariant-loop-event : goal.invariant-loop-event
invariant-loop-event g l = record {
  order : l.yielded ++ into_iter_items l.event-iterator ≡ into_iter_items l.initial.event-iterator;
  left : into_iter_len l.event-iterator ≡ length (into_iter_items l.event-iterator);
  proper : All IsProper (into_iter_items l.event-iterator);
  logs : (h : ℕ) → log_at l.self.tenants h ≡ log_at l.fn.self.tenants h ++ own h l.yielded l.answers.items;
  happen : AllHappen g.S.SwapStore l.tax.percent (g.R.Rng.stream l.fn.rng) l.fn.self l.yielded l.answers.items (g.R.Rng.stream l.rng) l.self;
  count : length l.answers.items ≡ length l.yielded;
  len : vec_len l.answers ≡ length l.answers.items;
  room : vec_len l.answers + into_iter_len l.event-iterator ≤ vec_capacity l.answers;
  boots : map boot_of l.self.tenants ≡ map boot_of l.fn.self.tenants;
  limits : LimitsStay l.fn.self.tenants l.self.tenants;
  frames : l.self.frames ≡ l.fn.self.frames;
  store : StoreStays g.S.SwapStore l.fn.self.store l.self.store;
}
