use Rattle.std.proofs.Common.{vec_len}
use Rattle.booting.proofs.booted.Booted.close.Given as goal

abbrev pub decreases-loop-guest : goal.decreases-loop-guest
decreases-loop-guest g l = vec_len l.guests
