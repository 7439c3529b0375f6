use Rattle.accounts.proofs.Settled.{scan_moved}
use Rattle.accounts.proofs.laws.scans_settle.Goals as goal

pub returns : goal.returns
returns c = scan_moved
