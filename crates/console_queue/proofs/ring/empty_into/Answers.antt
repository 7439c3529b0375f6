use Rattle.std.proofs.Common.{ap}
use Rattle.console_queue.proofs.Moving.{takes_rest, learns_both}
use Rattle.console_queue.proofs.ring.empty_into.Goals as goal

pub len_as-count-requires-clause-rule : goal.len_as-count-requires-clause-rule
len_as-count-requires-clause-rule g c = learns_both _ _ (ap (λ v. v.puts) c.requires.both) (ap (λ v. v.takes) c.requires.both)

pub pop_as-requires-clause-rule : goal.pop_as-requires-clause-rule
pop_as-requires-clause-rule g c =
    let puts = ap (λ v. v.puts) c.loop.invariant.1 in
    let takes = ap (λ v. v.takes) c.loop.invariant.1 in
    (takes_rest _ _ puts takes, learns_both _ _ puts takes)
