use Rattle.logfile.proofs.SecondVersion.{has_header_as, has_entries_as, one_list}
use Rattle.logfile.proofs.version_laws.written_file_reads_back.Goals as goal

pub returns-clause-header : goal.returns-clause-header
returns-clause-header c = has_header_as

pub returns-clause-entries : goal.returns-clause-entries
returns-clause-entries c = has_entries_as

pub returns-clause-one : goal.returns-clause-one
returns-clause-one c = one_list
