use Rattle.std.proofs.Common.{◌≡◌, ◌≤◌, All, length, map, take, vec_len, vec_capacity}
use Rattle.booting.specs.declared.asked.NewGuest.{NewGuest}
use Rattle.commands.specs.Sims.{line_numbers, numbers_of}
use Rattle.commands.proofs.sim.load_guests.Given as goal

-- the guests of the lines so far
abbrev pub invariant-loop-line : goal.invariant-loop-line
invariant-loop-line g l = record {
  loaded : map numbers_of l.guests.items ≡ map line_numbers (take l.line-index l.lines);
  profiles : All (λ (g : NewGuest). g.profile ≡ l.profile) l.guests.items;
  len : vec_len l.guests ≡ l.line-index;
  few : l.line-index ≤ length l.lines;
  room : length l.lines ≤ vec_capacity l.guests;
}
