use Rattle.logfile.proofs.Headers.{no_header_fault}
use Rattle.logfile.proofs.laws.log_file_has_no_fault.Goals as goal

pub returns-clause-header : goal.returns-clause-header
returns-clause-header c = no_header_fault

pub returns-clause-body : goal.returns-clause-body
returns-clause-body c = λ file digest pages header none.
    record { fails = none; first = λ f earlier. no_header_fault file digest pages f header earlier }

pub returns-clause-none : goal.returns-clause-none
returns-clause-none c = λ file digest entries has none. none entries has
