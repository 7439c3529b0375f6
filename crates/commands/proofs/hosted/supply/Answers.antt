use Rattle.std.proofs.Common.{length, ap, arith}
use Rattle.swapstore.specs.Memories.{sound_are_told}
use Rattle.world.specs.Worlds.{PagesMove}
use Rattle.commands.specs.Hosted.{HostedIs}
use Rattle.commands.proofs.Hosting.{alone_after, frame_free, moved, moved_count, one_left, supplied}
use Rattle.commands.proofs.hosted.supply.Goals as goal

pub unreachable-requires : goal.unreachable-requires
unreachable-requires c =
    let alone = c.requires.alone in
    frame_free _ _ _ _ _ _ _ _ alone.one (sound_are_told c.args.world.now.store alone.sound) alone.room c.is_sound.ensures c.shared_frames_are_named.ensures
    (rw c.in-Err-NoFrame.field-0-is at c.in-Err-NoFrame.ensures.err)

pub unreachable-requires-in-Err-SwapRead : goal.unreachable-requires-in-Err-SwapRead
unreachable-requires-in-Err-SwapRead c = let failed = rw c.in-Err-SwapRead.field-0-is at c.in-Err-SwapRead.ensures.err in absurd (omega (arith, failed.1))

pub unreachable-requires-in-Err-SwapDamaged : goal.unreachable-requires-in-Err-SwapDamaged
unreachable-requires-in-Err-SwapDamaged c = let damaged = rw c.in-Err-SwapDamaged.field-0-is at c.in-Err-SwapDamaged.ensures.err in damaged.1.dishonest c.requires.alone.sound

pub returns-in-Ok-clause-alone : goal.returns-in-Ok-clause-alone
returns-in-Ok-clause-alone c =
    let ts = c.args.world.now.tenants in
    let ts' = c.supply.new.self.tenants in
    let alone = c.requires.alone in
    alone_after c.args.world.now c.supply.new.self alone (one_left PagesMove ts ts' alone.one c.supply.ensures.moves)
    (ap (λ (h : HostedIs). length h.machine.board.memory) (moved ts ts' alone.one c.supply.ensures.moves)) c.supply.ensures.around.frames c.supply.ensures.around.store.slots
    (c.supply.ensures.around.store.honest.1 alone.sound)

pub returns-in-Ok-clause-same : goal.returns-in-Ok-clause-same
returns-in-Ok-clause-same c = moved c.args.world.now.tenants c.supply.new.self.tenants c.requires.alone.one c.supply.ensures.moves

pub returns-in-Ok-clause-count : goal.returns-in-Ok-clause-count
returns-in-Ok-clause-count c = moved_count c.args.world.now.tenants c.supply.new.self.tenants c.requires.alone.one c.supply.ensures.moves

pub returns-in-Ok-clause-one_more : goal.returns-in-Ok-clause-one_more
returns-in-Ok-clause-one_more c =
    supplied c.args.world.now.tenants c.supply.new.self.tenants c.args.page c.requires.alone.one c.requires.lacking c.supply.ensures.moves c.in-Ok.ensures.private c.supply.ensures.others
