use Rattle.std.proofs.Common.{ℕ, ◌≡◌, ◌+◌, ◌-◌, ◌*◌, ◌≤◌, List, length, take, drop, max, min, ap, ◌∙◌, arith}
use Rattle.word32.specs.Words.{patched}
use Rattle.guest.proofs.PartOfPage.{no_part, loaded_part}
use Rattle.guest.proofs.loading.load_segment.Goals as goal

abbrev limit : ℕ
limit = 18446744073709551615

pub returns-then-first-end-clause-part : goal.returns-then-first-end-clause-part
returns-then-first-end-clause-part c = λ memory inside within is.
    let p = c.args.p in
    let s = c.args.segment.now in
    let at = c.starts-at.result.0 in
    let first = c.max-first.result in
    let end = c.min-end.result in
    let page : c.starts-at.result.1 ≡ p * 4096 = c.starts-at.ensures.page in
    let begins : first ≡ max at (p * 4096) = c.max-first.ensures ∙ ap (max at) page in
    let len : length c.as_slice-file.result.now ≡ length s.bytes.items = ap length c.as_slice-file.ensures.value in
    let ends : end ≡ min (min (at + length s.bytes.items) limit) (p * 4096 + 4096) = omega (arith, c.min-end.ensures, c.saturating_add.ensures, len, page) in
    let far : p * 4096 + 4096 ≤ limit = omega (arith, c.starts-at.ensures.small) in
    let part = c.part_of.ensures.part ∙ ap (λ (bytes : List ℕ). take (end - at - (first - at)) (drop (first - at) bytes)) c.as_slice-file.ensures.value in
    c.put.ensures.bytes
    ∙ (λ i. patched (is i) (first - page i) c.part_of.result.now (length c.part_of.result.now))
    ∙ loaded_part p at first end limit memory s c.starts-at.ensures.segment begins ends far inside within c.part_of.result.now c.if-first-end.true part

pub returns-else-first-end-clause-part : goal.returns-else-first-end-clause-part
returns-else-first-end-clause-part c = λ memory inside within is.
    let p = c.args.p in
    let s = c.args.segment.now in
    let at = c.starts-at.result.0 in
    let page : c.starts-at.result.1 ≡ p * 4096 = c.starts-at.ensures.page in
    let begins : c.max-first.result ≡ max at (p * 4096) = c.max-first.ensures ∙ ap (max at) page in
    let len : length c.as_slice-file.result.now ≡ length s.bytes.items = ap length c.as_slice-file.ensures.value in
    let ends : c.min-end.result ≡ min (min (at + length s.bytes.items) limit) (p * 4096 + 4096) = omega (arith, c.min-end.ensures, c.saturating_add.ensures, len, page) in
    let far : p * 4096 + 4096 ≤ limit = omega (arith, c.starts-at.ensures.small) in
    is ∙ no_part p at c.max-first.result c.min-end.result limit memory s c.starts-at.ensures.segment begins ends far inside within c.if-first-end.false
