use Rattle.std.proofs.Common.{◌+◌, ◌*◌, ◌<◌, arith, ◌∙◌, ap, subst, min, ◌^◌}
use Rattle.std.specs.Char.{digit_value}
use Rattle.masm_lines.proofs.Digits.{value_step, digit_step}
use Rattle.masm_lines.proofs.numbers.natural.Goals as goal

pub loop-c-preserved : goal.loop-c-preserved
loop-c-preserved c = record {
  small = omega (arith, c.with_digit-value.ensures);
  digits = digit_step c.args.radix c.args.digits.now c.loop-c.c-index (omega arith) c.loop-c.invariant.digits (subst (λ x. digit_value x < c.args.radix) c.from.ensures c.in_ok-digit.ensures.value.0);
  value = value_step c.args.radix c.loop-c.value c.with_digit-value.result c.args.digits.now c.loop-c.c-index c.requires (omega arith) (c.with_digit-value.ensures ∙ ap (λ d. min (c.loop-c.value * c.args.radix + d) (2 ^ 40)) (c.in_ok-digit.ensures.value.1 ∙ ap digit_value c.from.ensures)) ∙ c.loop-c.invariant.value;
}
