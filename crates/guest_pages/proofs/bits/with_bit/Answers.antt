use Rattle.std.proofs.Common.{sym, ap, ◌∙◌, w64}
use Rattle.std.proofs.lemmas.Nat.Bits.{bit_at_set_same, bit_at_set_other, bit_at_clear_same, bit_at_clear_other}
use Rattle.guest_pages.specs.Marks.{bit_of}
use Rattle.guest_pages.proofs.bits.with_bit.Goals as goal

pub returns-then-bit-clause-same : goal.returns-then-bit-clause-same
returns-then-bit-clause-same c = bit_at_set_same w64 c.args.word c.args.place c.requires ∙ sym (ap bit_of c.if-bit.true)

pub returns-then-bit-clause-others : goal.returns-then-bit-clause-others
returns-then-bit-clause-others c = λ i h apart. bit_at_set_other w64 c.args.word c.args.place c.requires i apart

pub returns-else-bit-clause-same : goal.returns-else-bit-clause-same
returns-else-bit-clause-same c = bit_at_clear_same w64 c.args.word c.args.place c.requires ∙ sym (ap bit_of c.if-bit.false)

pub returns-else-bit-clause-others : goal.returns-else-bit-clause-others
returns-else-bit-clause-others c = λ i h apart. bit_at_clear_other w64 c.args.word c.args.place c.requires i h apart
