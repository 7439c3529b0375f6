use Rattle.std.proofs.Common.{◌<◌, length, arith, ap, ◌∙◌, refl, map}
use Rattle.guest_pages.specs.Outline.{outline}
use Rattle.accounts.specs.declared.account.Account.TheVariants.{Guest, Frame}
use Rattle.shared_pool.specs.Pools.{PassIs}
use Rattle.machine_memory.specs.declared.stake.Stake.{Stake}
use Rattle.machine_memory.specs.Memories.{IsLevel}
use Rattle.machine_memory.proofs.Passing.{pass_with}
use Rattle.slot_contents.specs.Shares.{its_written}
use Rattle.machine_memory.specs.Dealt.{guest_part, IsFound}
use Rattle.machine_memory.proofs.Dealing.{dealt_part, part_written, dealt_written, dealt_each}
use Rattle.machine_memory.proofs.Stakes.{dealt_stakes, dealt_accounts, dealt_share}
use Rattle.machine_memory.proofs.memory.MachineMemory.hand_out.Goals as goal

pub loop-guest-preserved : goal.loop-guest-preserved
loop-guest-preserved g c =
    let i = c.loop-guest._guest-index in
    let at = c.loop-guest.invariant in
    let m = c.args.self.now in
    let guests = c.args.guests.now in
    let free = map (λ x. Frame x) c.args.free.now.free in
    let pages = g.P.Pages.pages in
    let x = c._guest-item.result in
    let inside : i < length guests = omega (arith, c.loop-guest-test.true, c.loop-guest.auto._guest-index-end) in
    let held = g.S.SwapStore.held m.first in
    let part = dealt_part m.contents.id held pages guests i x c.loop-guest.written c.part-contents.result inside c._guest-item.is at.written c.part-contents.ensures.part in
    let stake : Stake = record { share = c.part-share.result; pass = c.another-pass.result; contents = c.part-contents.result } in
    let level : IsLevel m stake (pages x) = record {
      share = dealt_share m.books.id pages guests free i x c.loop-guest.accounts c.part-share.result inside c._guest-item.is at.accounts c.part-share.ensures.part;
      pass = pass_with m c.loop-guest.pass c.another-pass.result at.pass _ c.another-pass.ensures.new refl refl;
      contents = part_written m.contents.id held c.part-contents.result (pages x) part;
    } in
    record {
      stakes = dealt_stakes m pages guests i x c.loop-guest.stakes.items c.push_reserved.new.self.items stake inside c._guest-item.is at.stakes c.push_reserved.ensures.items level;
      accounts = dealt_accounts m.books.id (λ z. Guest (outline (pages z))) guests free i c.loop-guest.accounts c.part-share.new.from at.accounts c.part-share.ensures.from;
      written = dealt_written m.contents.id (λ z. guest_part held (pages z)) guests i c.loop-guest.written c.part-contents.new.from at.written c.part-contents.ensures.from;
      contents = dealt_each (IsFound held) pages guests i x c.loop-guest.stakes.items c.push_reserved.new.self.items stake inside c._guest-item.is at.contents c.push_reserved.ensures.items (ap its_written part);
      pass = pass_with m c.loop-guest.pass c.another-pass.new.pass at.pass _ c.another-pass.ensures.pass refl refl;
      put = ap (λ (p : PassIs). p.hand.put) c.another-pass.ensures.pass ∙ at.put;
      parts = omega (arith, at.parts, inside, ap (λ (p : PassIs). p.hand.parts) c.another-pass.ensures.pass);
      length = omega (arith, c.push_reserved.ensures.len, at.length);
      room = c.push_reserved.ensures.capacity ∙ at.room;
    }
