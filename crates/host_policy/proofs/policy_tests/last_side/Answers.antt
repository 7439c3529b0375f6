use Rattle.machine_memory.proofs.Stakes.{level_popped}
use Rattle.host_policy.proofs.policy_tests.last_side.Goals as goal

pub returns : goal.returns
returns g c =
    (level_popped c.args._memory.now (λ m. m) c.args.stakes.now.items c.pop.new.self.items c.in-Some.stake c.args.maps.now.items c.pop-2.new.self.items c.in-Some-pop.pages c.requires c.in-Some.ensures.items c.in-Some-pop.ensures.items).0
