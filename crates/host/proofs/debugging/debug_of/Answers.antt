use Rattle.host.specs.declared.stops.Stop.TheVariants as stop
use Rattle.host.proofs.Guests.{err_again}
use Rattle.host.proofs.Rooms.{frame_lacks, swap_lacks}
use Rattle.host.proofs.debugging.debug_of.Goals as goal

pub returns-in-Read-clause-no_frame : goal.returns-in-Read-clause-no_frame
returns-in-Read-clause-no_frame g c = λ e. c.read.ensures.lacking stop.NoFrame e

pub returns-in-Read-clause-no_swap : goal.returns-in-Read-clause-no_swap
returns-in-Read-clause-no_swap g c = λ e. c.read.ensures.lacking stop.NoSwap e

pub returns-in-Write-clause-no_frame : goal.returns-in-Write-clause-no_frame
returns-in-Write-clause-no_frame g c = λ e. c.in-Err.ensures.lacking stop.NoFrame frame_lacks (err_again _ _ e)

pub returns-in-Write-clause-no_swap : goal.returns-in-Write-clause-no_swap
returns-in-Write-clause-no_swap g c = λ e. c.in-Err.ensures.lacking stop.NoSwap swap_lacks (err_again _ _ e)
