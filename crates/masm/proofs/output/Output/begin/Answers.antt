use Rattle.std.proofs.Common.{◌≡◌, [], refl, ◌∙◌, ap, List, sym, subst, rules}
use Rattle.elf32.specs.declared.image.Segment.{Segment}
use Rattle.masm.specs.Images.{AreSegmentsOf, AreBytesOf, IsSegmentOf}
use Rattle.masm.specs.Listings.{parts_of}
use Rattle.masm.specs.declared.output.Output.{Output}
use Rattle.masm.proofs.OutputItems.{parts_pushed, parts_kept}
use Rattle.masm.proofs.output.Output.begin.Goals as goal
use Rattle.masm.proofs.output.Output.begin.Goals.{then-not-is_empty+in_ok-push, else-not-is_empty}

pub returns : goal.returns
returns c output is =
    let old : AreBytesOf c.replace-bytes.result.items output.current.items = rw c.replace-bytes.ensures.value is.bytes in
    let emptied : c.replace-bytes.new.dest.items ≡ [] = cc (c.replace-bytes.ensures.after, c.new.ensures.items) in
    elim c.if-not-is_empty.branch [
      | then-not-is_empty+in_ok-push w ↦
          let segment : IsSegmentOf output.current (record { address = c.args.self.now.address; bytes = c.replace-bytes.result; size = w.len-size.result }) = record { address = is.address; bytes = old; size = search rules } in
          record {
            earlier = subst (λ (x : List Segment). AreSegmentsOf (parts_of output) x) (sym (ap (λ (o : Output). o.earlier.items) w.self-is ∙ w.in_ok-push.ensures.items)) (parts_pushed output c.args.self.now.earlier.items _ is.earlier segment (search rules));
            address = refl;
            bytes = ap (λ (o : Output). o.bytes.items) w.self-is ∙ emptied;
            entry = ap (λ (o : Output). o.entry) w.self-is ∙ is.entry;
          }
      | else-not-is_empty w ↦ record {
        earlier = subst (λ (x : List Segment). AreSegmentsOf (parts_of output) x) (sym (ap (λ (o : Output). o.earlier.items) w.self-is)) (parts_kept output c.args.self.now.earlier.items c.replace-bytes.result.items is.earlier old (search rules));
        address = refl;
        bytes = ap (λ (o : Output). o.bytes.items) w.self-is ∙ emptied;
        entry = ap (λ (o : Output). o.entry) w.self-is ∙ is.entry;
      }
    ]
