use Rattle.std.proofs.Common.{◌≡◌, length, sym, ◌∙◌, ℕ, false, List, [], ◌∷◌, Some, None, rules}
use Rattle.std.specs.List.{list_any}
use Rattle.elf32.specs.declared.fault.Fault.TheVariants as fault
use Rattle.elf32.specs.Headers.{file_header, program_headers, ranges}
use Rattle.elf32.specs.Faults.{is_short, has_wrong_identification, has_wrong_header, has_wrong_table, has_wrong_contents, header_faults, range_faults, segment_faults, first_fault_of}
use Rattle.elf32.specs.declared.image.Image.{Image}
use Rattle.elf32.specs.Files.{StandsFor}
use Rattle.elf32.proofs.Fitting.{stands_fit}
use Rattle.elf32.proofs.Firsts.{first_before, first_after, first_passed, both_passed}
use Rattle.elf32.proofs.reader.read.Goals as goal

-- a header without a fault has its table within the file
table_passed : (file : List ℕ) → first_fault_of (header_faults file) ≡ None → has_wrong_table (length file) (file_header file) ≡ false
table_passed file none =
    let table = (has_wrong_table (length file) (file_header file), fault.Table) ∷ [] in
    let kind = (has_wrong_header (file_header file), fault.Header) ∷ table in
    let begin = (has_wrong_identification file, fault.Identification) ∷ kind in
    let a = both_passed (is_short file) fault.Short begin none in
    let b = both_passed (has_wrong_identification file) fault.Identification kind a.1 in
    let d = both_passed (has_wrong_header (file_header file)) fault.Header table b.1 in
    (both_passed (has_wrong_table (length file) (file_header file)) fault.Table [] d.1).0

pub returns-in-Some-clause-refused : goal.returns-in-Some-clause-refused
returns-in-Some-clause-refused c =
    let file = c.args.file.now in
    first_before (header_faults file) (segment_faults file c.args.pages) c.in-Some.fault (sym c.in-Some.ensures)

pub read_headers-requires-clause-within : goal.read_headers-requires-clause-within
read_headers-requires-clause-within c =
    let file = c.args.file.now in
    let passed = table_passed file (sym c.in_default.ensures) in
    rw c.of-header.ensures passed

pub returns-in-Some-range_fault-clause-refused : goal.returns-in-Some-range_fault-clause-refused
returns-in-Some-range_fault-clause-refused c =
    let file = c.args.file.now in
    let contents : list_any (has_wrong_contents (length file)) (program_headers file) ≡ false = search rules in
    let placed : first_fault_of (range_faults c.args.pages (file_header file).entry (ranges file)) ≡ Some c.in-Some-range_fault.fault = search rules in
    first_after (header_faults file) (segment_faults file c.args.pages) (sym c.in_default.ensures)
    ∙ first_passed _ fault.Contents (range_faults c.args.pages (file_header file).entry (ranges file)) contents
    ∙ placed

pub returns-clause-fits : goal.returns-clause-fits
returns-clause-fits c =
    let image : Image = record { entry = c.of-header.result.entry; segments = c.in_ok-segments.segments } in
    let stands : StandsFor c.args.file.now c.args.pages image = record { sound = search rules; entry = search rules; segments = search rules } in
    stands_fit c.args.file.now c.args.pages image stands
