use Rattle.std.proofs.Common.{◌≡◌, ◌+◌, ◌<◌, ◌++◌, length, map, take, drop, vec_len, vec_capacity}
use Rattle.guest_pages.specs.Outline.{outline}
use Rattle.accounts.specs.declared.account.Account.TheVariants.{Guest, Frame}
use Rattle.machine_memory.specs.Dealt.{guest_part, Each, IsFound}
use Rattle.machine_memory.specs.Memories.{IsPassOf, AreLevel}
use Rattle.machine_memory.proofs.memory.MachineMemory.hand_out.Given as goal

-- each guest so far has its stake, and the accounts of the others are left
abbrev pub invariant-loop-guest : goal.invariant-loop-guest
invariant-loop-guest g l = record {
  stakes : AreLevel l.self l.stakes.items (take l._guest-index (map g.P.Pages.pages l.guests));
  accounts : l.accounts ≡ record {
    ledger = l.self.books.id;
    parts = drop l._guest-index (map (λ x. Guest (outline (g.P.Pages.pages x))) l.guests ++ map Frame l.free.free);
  };
  written : l.written ≡ record { ledger = l.self.contents.id; parts = drop l._guest-index (map (λ x. guest_part (g.S.SwapStore.held l.self.first) (g.P.Pages.pages x)) l.guests) };
  contents : Each (IsFound (g.S.SwapStore.held l.self.first)) l.stakes.items (take l._guest-index (map g.P.Pages.pages l.guests));
  pass : IsPassOf l.self l.pass;
  put : l.pass.hand.put ≡ l.fn.pass.hand.put;
  parts : length l.guests < l.pass.hand.parts + l._guest-index;
  length : vec_len l.stakes ≡ l._guest-index;
  room : vec_capacity l.stakes ≡ vec_capacity l.fn.stakes;
}
