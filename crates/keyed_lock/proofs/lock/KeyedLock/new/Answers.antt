use Rattle.std.proofs.Common.{rules}
use Rattle.keyed_lock.proofs.Steps.{begins}
use Rattle.keyed_lock.proofs.lock.KeyedLock.new.Goals as goal

pub new-requires : goal.new-requires
new-requires g c = begins _ _ _ _ (search rules) c.requires.fits
