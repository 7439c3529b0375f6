use Rattle.std.proofs.Common.{ℕ, suc, ◌≡◌, ◌+◌, List, ◌∷◌, length, drop, sym, ap, subst, ◌∙◌, add-one, drop-cons}
use Rattle.elf32.specs.declared.image.Segment.{Segment}
use Rattle.elf32.specs.Images.{IsWithin}
use Rattle.guest.proofs.BootPages.{Loads, loads_more}
use Rattle.guest.proofs.loading.load_segments.Goals as goal

pub loop-segment-preserved : goal.loop-segment-preserved
loop-segment-preserved c =
    let segments = c.args.segments.now in
    let k = c.loop-segment.segment-index in
    let s = c.segment-item.result in
    let here = drop-cons segments k s c.loop-segment-test.true ∙ ap (λ (first : Segment). first ∷ drop (suc k) segments) (sym c.segment-item.is) in
    let next : drop (k + 1) segments ≡ drop (suc k) segments = ap (λ (n : ℕ). drop n segments) (add-one k) in
    record {
      long = c.load_segment.ensures.length;
      parts = λ memory inside within is.
          let within_here : IsWithin (length memory) s = subst (λ (x : Segment). IsWithin (length memory) x) (sym c.segment-item.is) (within k s c.loop-segment-test.true) in
          subst (λ (left : List Segment). Loads c.args.p memory segments left c.load_segment.new.bytes) (sym next)
          (loads_more c.args.p memory c.loop-segment.bytes c.load_segment.new.bytes segments (drop (suc k) segments) s within_here c.load_segment.ensures.part inside
          (subst (λ (left : List Segment). Loads c.args.p memory segments left c.loop-segment.bytes) here (c.loop-segment.invariant.parts memory inside within is)));
    }
