use Rattle.std.proofs.Common.{◌≡◌, ℕ, suc, ◌+◌, ◌%◌, ◌^◌, is_some, true}
use Rattle.machine.specs.Step.{machine_with}
use Rattle.machine.specs.Replies.{bytes_at}
use Rattle.guest_bus.specs.Buses.{board_of}
use Rattle.guest.specs.Guests.{LiesIn}
use Rattle.guest.proofs.placed.first_and_last.Given as goal

-- the bytes so far have places, and the last of them lies in the page
abbrev pub invariant-loop-k : goal.invariant-loop-k
invariant-loop-k l = record {
  placed : is_some (bytes_at (machine_with l.cpu (board_of l.bus)) l.address l.k) ≡ true;
  last : (j : ℕ) → suc j ≡ l.k → LiesIn (machine_with l.cpu (board_of l.bus)) ((l.address + j) % 2 ^ 32) l.last;
}
