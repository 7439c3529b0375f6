use Rattle.std.proofs.Common.{◌≡◌, string_bytes, rules}
use Rattle.std.proofs.lemmas.List.Elements.{All-same}
use Rattle.diagnosis.specs.Printable.{IsPrintable, shown}
use Rattle.diagnosis.proofs.Printing.{shown_printable}
use Rattle.diagnosis.proofs.words.Words.of_bytes.Goals as goal

pub invariant_of-result : goal.invariant_of-result
invariant_of-result c =
    let same : string_bytes c.in_ok-printable.field-0 ≡ shown c.args.bytes.now = search rules in
    All-same IsPrintable (string_bytes c.in_ok-printable.field-0) (shown c.args.bytes.now) same (shown_printable c.args.bytes.now)
