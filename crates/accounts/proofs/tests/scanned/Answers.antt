use Rattle.std.proofs.Common.{[]}
use Rattle.accounts.proofs.tests.scanned.Goals as goal

pub scan_in-scan-requires-clause-covered : goal.scan_in-scan-requires-clause-covered
scan_in-scan-requires-clause-covered g c = c.meet_table.ensures.covered _ [] c.requires.guest

pub scan_in-scan-requires-clause-own_once : goal.scan_in-scan-requires-clause-own_once
scan_in-scan-requires-clause-own_once g c = c.meet_table.ensures.own_once _ [] c.requires.guest
