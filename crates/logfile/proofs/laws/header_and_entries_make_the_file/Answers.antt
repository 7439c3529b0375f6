use Rattle.logfile.proofs.Headers.{stands, has_header, has_entries}
use Rattle.logfile.proofs.laws.header_and_entries_make_the_file.Goals as goal

pub returns-clause-stands : goal.returns-clause-stands
returns-clause-stands c = stands

pub returns-clause-header : goal.returns-clause-header
returns-clause-header c = has_header

pub returns-clause-entries : goal.returns-clause-entries
returns-clause-entries c = has_entries
