use Rattle.std.proofs.Common.{◌≡◌, ℕ, ◌+◌, ◌<◌, ◌≤◌, ◌⊎◌, inl, inr, false, IsTrue, Any, List, length, get_or, sym, ap, subst, ◌∙◌, arith}
use Rattle.std.proofs.lemmas.Bool.{cases_lt}
use Rattle.std.proofs.lemmas.List.{get_or_default}
use Rattle.elf32.specs.declared.image.Segment.{Segment}
use Rattle.guest.specs.Loading.{segment_reaches}
use Rattle.guest.proofs.loading.reaches.Goals as goal

pub returns-then-segment_reaches-clause-reached : goal.returns-then-segment_reaches-clause-reached
returns-then-segment_reaches-clause-reached c = λ is.
    subst (λ (segments : List Segment). Any (λ s. IsTrue (segment_reaches c.args.p s)) segments) c.as_slice-segments.ensures.value
    (c.loop-k.k, c.index-segments-k.result, c.loop-k-test.true, sym c.index-segments-k.is, sym c.segment_reaches.ensures ∙ c.if-segment_reaches.true)

pub loop-k-preserved : goal.loop-k-preserved
loop-k-preserved c = λ j d h. by_place j d h (cases_lt j c.loop-k.k)
  where
    segments : List Segment
    segments = c.as_slice-segments.result.now

    here : segment_reaches c.args.p c.index-segments-k.result ≡ false
    here = sym c.segment_reaches.ensures ∙ c.if-segment_reaches.false

    by_place : (j : ℕ) (d : Segment) → j < c.loop-k.k + 1 → (j < c.loop-k.k) ⊎ (c.loop-k.k ≤ j) → segment_reaches c.args.p (get_or segments j d) ≡ false
    by_place j d h (inl below) = c.loop-k.invariant j d below
    by_place j d h (inr from) =
        let same : j ≡ c.loop-k.k = omega arith in
        let at : get_or segments j d ≡ c.index-segments-k.result =
        ap (λ (i : ℕ). get_or segments i d) same
        ∙ get_or_default segments c.loop-k.k d c.index-segments-k.result c.loop-k-test.true
        ∙ sym c.index-segments-k.is in
        ap (segment_reaches c.args.p) at ∙ here

pub returns-clause-beside : goal.returns-clause-beside
returns-clause-beside c = λ is.
    subst (λ (segments : List Segment). (j : ℕ) (d : Segment) → j < length segments → segment_reaches c.args.p (get_or segments j d) ≡ false) c.as_slice-segments.ensures.value
    (λ j d h. c.loop-k.invariant j d (omega (arith, h, c.loop-k-test.false)))
