use Rattle.std.proofs.Common.{ℕ, ◌≡◌, ◌-◌, ◌/◌, ◌^◌, ◌<◌, ◌∙◌, sym, arith, w64}
use Rattle.std.specs.Int.{bit_at, trailing_zeros}
use Rattle.std.proofs.lemmas.Nat.{shr_le}
use Rattle.std.proofs.lemmas.Nat.Bits.{bit_at-trailing_zeros}
use Rattle.guest_pages.proofs.Marking.{bit_moved, bit_from, none_left, within_word}
use Rattle.guest_pages.proofs.bits.first_bit.Goals as goal

-- the lowest bit of what is left of a word
found : (word from : ℕ) → word < 2 ^ 64 → 0 < word / 2 ^ from → (trailing_zeros w64 (word / 2 ^ from) < 64) × (bit_at (word / 2 ^ from) (trailing_zeros w64 (word / 2 ^ from)) ≡ 1) × ((i : ℕ) → i < trailing_zeros w64 (word / 2 ^ from) → bit_at (word / 2 ^ from) i ≡ 0)
found word from small some = bit_at-trailing_zeros w64 (word / 2 ^ from) some (omega (arith, shr_le word from))

pub returns-then-rest-eq0-clause-none : goal.returns-then-rest-eq0-clause-none
returns-then-rest-eq0-clause-none c = λ j h below. none_left c.args.word c.args.from j c.if-rest-eq0.true h

pub returns-else-rest-eq0-clause-set : goal.returns-else-rest-eq0-clause-set
returns-else-rest-eq0-clause-set c =
    let lowest = found c.args.word c.args.from c.ranges.word.fits (omega (arith, c.if-rest-eq0.false)) in
    sym (bit_moved c.args.word c.args.from (trailing_zeros w64 (c.args.word / 2 ^ c.args.from))) ∙ lowest.1

pub returns-else-rest-eq0-clause-within : goal.returns-else-rest-eq0-clause-within
returns-else-rest-eq0-clause-within c = (omega arith, within_word c.args.word _ c.ranges.word.fits (returns-else-rest-eq0-clause-set c))

pub returns-else-rest-eq0-clause-first : goal.returns-else-rest-eq0-clause-first
returns-else-rest-eq0-clause-first c =
    let lowest = found c.args.word c.args.from c.ranges.word.fits (omega (arith, c.if-rest-eq0.false)) in
    λ j h below. bit_from c.args.word c.args.from j h ∙ lowest.2 (j - c.args.from) (omega arith)
