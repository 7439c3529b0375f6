use Rattle.std.proofs.Common.{ℕ, List, subst}
use Rattle.elf32.specs.Files.{StandsFor, IsRefusal}
use Rattle.load_and_go.specs.Errors.{IsErrorOf, of_reading}
use Rattle.load_and_go.proofs.Told.{error_told, refusal_told}
use Rattle.load_and_go.proofs.boot.image_of_text.Goals as goal

pub returns-in_err-read-clause-refused : goal.returns-in_err-read-clause-refused
returns-in_err-read-clause-refused c =
    let text = c.args.text.now in
    let file = c.in_ok-file.file.items in
    let e = c.in_err-read.field-0.0 in
    error_told (IsErrorOf text c.args.pages) c.from_residual-in_err-read.result (of_reading e) c.from_residual-in_err-read.ensures.1
    (refusal_told text file c.args.pages e c.in_ok-file.ensures.file (subst (λ (b : List ℕ). IsRefusal b c.args.pages e) c.deref.ensures.value c.in_err-read.ensures.refused))

pub returns-clause-read : goal.returns-clause-read
returns-clause-read c = record {
  file = c.in_ok-file.file.items;
  executable = c.in_ok-file.ensures.file;
  stands = subst (λ (b : List ℕ). StandsFor b c.args.pages c.in_ok-read.field-0) c.deref.ensures.value c.in_ok-read.ensures.ok;
}

pub returns-clause-holds : goal.returns-clause-holds
returns-clause-holds c =
    let is = c.in_ok-file.ensures.file in
    let stands = subst (λ (b : List ℕ). StandsFor b c.args.pages c.in_ok-read.field-0) c.deref.ensures.value c.in_ok-read.ensures.ok in (
      is.listing,
      is.means,
      λ profile.
          c.booted_machine_holds_its_listing.ensures is.listing is.image c.in_ok-read.field-0 c.in_ok-file.file.items profile c.args.pages is.assembled is.written stands,
    )
