use Rattle.std.proofs.Common.{ap, sym, ◌∙◌}
use Rattle.items.specs.Entries.{items_of}
use Rattle.logfile.specs.Runs.{file_entries}
use Rattle.logfile.proofs.Bodies.{same_entries}
use Rattle.logfile.proofs.Headers.{has_entries}
use Rattle.logfile.proofs.Kept.{all_kept}
use Rattle.logfile.proofs.laws.written_log_reads_back.Goals as goal

pub returns-clause-entries : goal.returns-clause-entries
returns-clause-entries c = λ file digest pages entries back for has.
    let written = has_entries file digest pages entries for in
    same_entries back entries has.each written.each (sym has.bytes ∙ written.bytes)

pub returns-clause-items : goal.returns-clause-items
returns-clause-items c = λ file digest pages entries back for has.
    ap items_of (returns-clause-entries c file digest pages (file_entries entries) back for has) ∙ all_kept entries
