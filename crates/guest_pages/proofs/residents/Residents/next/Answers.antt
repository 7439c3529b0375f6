use Rattle.std.proofs.Common.{ap, sym, ◌∙◌, arith}
use Rattle.std.specs.Int.{bit_at}
use Rattle.guest_pages.specs.Marks.{bit_in}
use Rattle.guest_pages.proofs.Marking.{empty_word, passed}
use Rattle.guest_pages.proofs.residents.Residents.next.Goals as goal

pub unreachable-requires : goal.unreachable-requires
unreachable-requires c =
    let empty = empty_word c.word-2.result c.word-2.type_inv c.in-None.ensures.none in
    omega (arith, empty, c.word-2.ensures, c.self.invariant.sums c.in-Some-next.word, c.in-Some-next.ensures.set)

pub returns-clause-first : goal.returns-clause-first
returns-clause-first c = λ p h below.
    ap (λ words. bit_in words p) (sym c.self.view_is)
    ∙ passed c.self.inside.pages c.self.inside.words c.args.from c.in-Some-next.word c.in-Some-first_bit.bit c.self.invariant (c.in-Some-first_bit.ensures.within.1)
    (λ j from below. ap (λ word. bit_at word j) (sym c.word.ensures) ∙ c.in_default.ensures.none j from below)
    c.in-Some-next.ensures.first
    (λ j from below. ap (λ word. bit_at word j) (sym c.word-2.ensures) ∙ c.in-Some-first_bit.ensures.first j from below)
    p h below
