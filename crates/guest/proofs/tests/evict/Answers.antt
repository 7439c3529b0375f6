use Rattle.std.proofs.Common.{arith}
use Rattle.guest.proofs.tests.evict.Goals as goal

pub evict_in-requires-clause-covered : goal.evict_in-requires-clause-covered
evict_in-requires-clause-covered g c = λ k. omega (arith, c.requires k)
