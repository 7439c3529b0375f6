use Rattle.std.proofs.Common.{◌≡◌, ap, ◌∙◌, sym, Some, List, false, true, slice_get, unwrap_or, Option, ℕ}
use Rattle.elf32.specs.declared.image.Segment.{Segment}
use Rattle.masm.proofs.OutputImage.{image_fault, image_gives, is_entry, not_aligned, entry_is}
use Rattle.masm.proofs.output.Output.image.Goals as goal
use Rattle.masm.proofs.output.Output.image.Goals.{then-entry-ne0-via-then-entry-ne0, then-entry-ne0-via-else-entry-ne0+then-not-is_within}

pub returns-then-entry-ne0 : goal.returns-then-entry-ne0
returns-then-entry-ne0 c output is =
    let done = c.in_ok-begin.ensures output is in
    let first : Some c.in-Some.first.now ≡ slice_get c.begin.new.self.earlier.items 0 = c.in-Some.ensures.value ∙ ap (λ (l : List Segment). slice_get l 0) c.deref.ensures.value in
    let no : is_entry c.unwrap_or-entry.result c.begin.new.self.earlier.items ≡ false = elim c.then-entry-ne0.branch [
      | then-entry-ne0-via-then-entry-ne0 w ↦ not_aligned c.unwrap_or-entry.result c.begin.new.self.earlier.items w.if-entry-ne0.true
      | then-entry-ne0-via-else-entry-ne0+then-not-is_within w ↦ ap (is_entry c.unwrap_or-entry.result) (sym w.deref-else-entry-ne0.ensures.value) ∙ entry_is c.unwrap_or-entry.result w.deref-else-entry-ne0.result.now false w.if-entry-ne0.false w.if-not-is_within.ensures
    ] in
    image_fault output c.begin.new.self.earlier.items c.in-Some.first.now c.unwrap_or-entry.result done.earlier first (c.unwrap_or-entry.ensures ∙ ap (λ (o : Option ℕ). unwrap_or o c.in-Some.first.now.address) done.entry) no

pub returns : goal.returns
returns c output is =
    let done = c.in_ok-begin.ensures output is in
    let first : Some c.in-Some.first.now ≡ slice_get c.begin.new.self.earlier.items 0 = c.in-Some.ensures.value ∙ ap (λ (l : List Segment). slice_get l 0) c.deref.ensures.value in
    image_gives output (record { entry = c.unwrap_or-entry.result; segments = c.begin.new.self.earlier }) c.in-Some.first.now done.earlier first (c.unwrap_or-entry.ensures ∙ ap (λ (o : Option ℕ). unwrap_or o c.in-Some.first.now.address) done.entry)
    (ap (is_entry c.unwrap_or-entry.result) (sym c.deref-else-entry-ne0.ensures.value) ∙ entry_is c.unwrap_or-entry.result c.deref-else-entry-ne0.result.now true c.if-entry-ne0.false c.if-not-is_within.ensures)
