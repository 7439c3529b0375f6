use Rattle.std.proofs.Common.{◌≡◌, ◌++◌, take}
use Rattle.fuzz_command.specs.Jobs.{input_items}
use Rattle.fuzz_command.proofs.run_log.add_input.Given as goal

-- the bytes up to here are items of the log
abbrev pub invariant-loop-byte : goal.invariant-loop-byte
invariant-loop-byte l = l.log.items ≡ l.fn.log.items ++ input_items (take l.byte-index l.bytes)
