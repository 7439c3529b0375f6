-- A segment at the start of a memory of zeros.
use Rattle.std.proofs.Common.{ℕ, ◌≡◌, ◌-◌, ◌≤◌, ◌+◌, List, ◌++◌, length, drop, take, ap, ◌∙◌, arith}
use Rattle.std.proofs.lemmas.List.{drop-replicate}
use Rattle.word32.specs.Zeros.{zeros}
use Rattle.elf32.specs.declared.image.Segment.{Segment}
use Rattle.machine.specs.Boot.{placed}

drop-zeros : (n k : ℕ) → drop k (zeros n) ≡ zeros (n - k)
unfolding zeros
drop-zeros n k = drop-replicate k n 0

pub placed_first : (s : Segment) (size : ℕ) → s.address ≡ 0x80000000 → length s.bytes.items ≤ size → placed (zeros size) s ≡ s.bytes.items ++ zeros (size - length s.bytes.items)
placed_first s size e h =
    let bytes = s.bytes.items in
    let start : s.address - 0x80000000 ≡ 0 = omega arith in
    let end : 0 + length bytes ≡ length bytes = omega arith in
    ap (λ (k : ℕ). take k (zeros size) ++ bytes ++ drop (k + length bytes) (zeros size)) start
    ∙ ap (λ (k : ℕ). bytes ++ drop k (zeros size)) end
    ∙ ap (λ (rest : List ℕ). bytes ++ rest) (drop-zeros size (length bytes))
