use Rattle.logfile.proofs.SecondVersion.{no_fault_as}
use Rattle.logfile.proofs.version_laws.right_header_has_no_fault.Goals as goal

pub returns : goal.returns
returns c = no_fault_as
