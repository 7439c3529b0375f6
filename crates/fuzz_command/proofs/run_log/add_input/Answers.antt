use Rattle.std.proofs.Common.{arith}
use Rattle.fuzz_command.proofs.RunLogs.{logged_more}
use Rattle.fuzz_command.proofs.run_log.add_input.Goals as goal

pub loop-byte-preserved : goal.loop-byte-preserved
loop-byte-preserved c =
    logged_more c.loop-byte.byte-index c.args.bytes.now c.args.log.now.items _ _ _ c.runner.result (omega (arith, c.loop-byte-test.true)) c.loop-byte.invariant c.in_ok-make_item_room.ensures.taken.items
    c.runner.ensures c.add.ensures.items
