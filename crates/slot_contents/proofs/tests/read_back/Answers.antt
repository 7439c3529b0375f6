use Rattle.std.proofs.Common.{ap, ◌∙◌}
use Rattle.slot_contents.specs.Contents.{written_to}
use Rattle.slot_contents.specs.Shares.{its_written}
use Rattle.slot_contents.proofs.Writings.{reads_written}
use Rattle.slot_contents.proofs.tests.read_back.Goals as goal

pub returns-clause-bytes : goal.returns-clause-bytes
returns-clause-bytes g c true_result trust last is same =
    reads_written (g.S.SwapStore.held c.args.swap.now.store) (its_written c.args.owner.now) c.number-number.result last _ c.meet.ensures.holds
    (ap (written_to (its_written c.args.owner.now)) c.number-number.ensures ∙ is) (c.read_slot-is_read.ensures.known true_result trust) (c.read_slot-is_read.ensures.read true_result trust) same
