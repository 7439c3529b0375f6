use Rattle.std.proofs.Common.{ap, ◌∙◌}
use Rattle.std.specs.List.{flat_map}
use Rattle.ledger.specs.Shares.{ShareIs}
use Rattle.accounts.specs.declared.account.Account.{Account}
use Rattle.machine_memory.specs.Memories.{MemoryIs}
use Rattle.machine_memory.specs.Gathered.{GatheredIs, pages_in}
use Rattle.machine_memory.proofs.Auditing.{count_by}
use Rattle.machine_memory.proofs.memory.MachineMemory.books.Goals as goal

pub returns-clause-counts : goal.returns-clause-counts
returns-clause-counts g c all is =
    count_by c.self.inside.extent c.args.self.now.books.key (flat_map pages_in c.learn_all.new.gathered.parts) all c.counted-counts.result
    (c.self.invariant.3 ∙ ap (λ (m : MemoryIs _). m.books.key) c.self.view_is)
    (ap (λ (s : ShareIs Account). flat_map pages_in s.parts) c.learn_all.ensures.gathered ∙ (ap (λ (v : GatheredIs). v.pages) c.gathered.view_is ∙ is)) c.counted-counts.ensures
