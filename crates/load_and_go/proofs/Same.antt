-- Images that show the same.
use Rattle.std.proofs.Common.{◌≡◌, ℕ, List, [], ◌∷◌, map, length, sym, ap, subst, ◌∙◌}
use Rattle.elf32.specs.declared.image.Segment.{Segment}
use Rattle.elf32.specs.Headers.{LoadedSegment, shown}
use Rattle.masm.specs.Listings.{Part}
use Rattle.masm.specs.Images.{AreBytesOf, IsSegmentOf, AreSegmentsOf}

-- a segment that shows the same as one of a part is one of the part
segment_same : (part : Part) (s t : Segment) → shown s ≡ shown t → IsSegmentOf part s → IsSegmentOf part t
segment_same part s t same is =
    let bytes : s.bytes.items ≡ t.bytes.items = ap (λ (l : LoadedSegment). l.bytes) same in
    record {
      address = sym (ap (λ (l : LoadedSegment). l.address) same) ∙ is.address;
      bytes = subst (λ (b : List ℕ). AreBytesOf b part.items) bytes is.bytes;
      size = sym (ap (λ (l : LoadedSegment). l.size) same) ∙ is.size ∙ ap length bytes;
    }

-- the same of segments
pub segments_same : (parts : List Part) (ss ts : List Segment) → map shown ss ≡ map shown ts → AreSegmentsOf parts ss → AreSegmentsOf parts ts
segments_same [] [] [] same all = tt
segments_same [] [] (t ∷ ts) same all = cc
segments_same [] (s ∷ ss) ts same all = absurd all
segments_same (part ∷ parts) [] ts same all = absurd all
segments_same (part ∷ parts) (s ∷ ss) [] same all = cc
segments_same (part ∷ parts) (s ∷ ss) (t ∷ ts) same all =
    let head : shown s ≡ shown t = cc in
    let rest : map shown ss ≡ map shown ts = cc in
    (segment_same part s t head all.0, segments_same parts ss ts rest all.1)
