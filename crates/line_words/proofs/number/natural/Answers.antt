use Rattle.std.proofs.Common.{◌≡◌, ◌≤◌, ◌<◌, ◌+◌, ◌*◌, ◌^◌, ◌∙◌, sym, ap, subst, arith, get_or, drop}
use Rattle.std.specs.Char.{digit_value}
use Rattle.std.specs.Str.Parse.{digits_value_after}
use Rattle.line_words.proofs.Digits.{reached, too_large, value_step, digit_step}
use Rattle.line_words.proofs.number.natural.Goals as goal

pub returns-in_err-checked_mul : goal.returns-in_err-checked_mul
returns-in_err-checked_mul c =
    let least = reached c.args.radix c.loop-c.value c.args.digits.now c.loop-c.c-index (omega arith) c.requires c.loop-c.invariant.value in
    let large : 2 ^ 32 ≤ c.loop-c.value * c.args.radix = omega (arith, c.in_err-checked_mul.ensures) in
    c.from_residual-in_err-checked_mul.ensures ∙ sym (too_large c.args.radix c.args.digits.now (omega arith))

pub returns-in_err-value : goal.returns-in_err-value
returns-in_err-value c =
    let least = reached c.args.radix c.loop-c.value c.args.digits.now c.loop-c.c-index (omega arith) c.requires c.loop-c.invariant.value in
    let digit : c.in_ok-digit.digit ≡ digit_value (get_or c.args.digits.now c.loop-c.c-index 0) = c.in_ok-digit.ensures.value.1 ∙ ap digit_value c.from.ensures in
    let large : 2 ^ 32 ≤ c.in_ok-checked_mul.field-0 + c.in_ok-digit.digit = omega (arith, c.in_err-value.ensures) in
    let product : c.in_ok-checked_mul.field-0 ≡ c.loop-c.value * c.args.radix = c.in_ok-checked_mul.ensures.1 in
    c.from_residual-in_err-value.ensures ∙ sym (too_large c.args.radix c.args.digits.now (omega arith))

pub loop-c-preserved : goal.loop-c-preserved
loop-c-preserved c =
    let digit : c.in_ok-digit.digit ≡ digit_value (get_or c.args.digits.now c.loop-c.c-index 0) = c.in_ok-digit.ensures.value.1 ∙ ap digit_value c.from.ensures in
    let value : c.in_ok-value.value ≡ c.loop-c.value * c.args.radix + digit_value (get_or c.args.digits.now c.loop-c.c-index 0) = omega (arith, c.in_ok-value.ensures.1, c.in_ok-checked_mul.ensures.1, digit) in
    record {
      small = omega (arith, c.in_ok-value.ensures.0, c.in_ok-value.ensures.1);
      digits = digit_step c.args.radix c.args.digits.now c.loop-c.c-index (omega arith) c.loop-c.invariant.digits (subst (λ x. digit_value x < c.args.radix) c.from.ensures c.in_ok-digit.ensures.value.0);
      value = ap (λ v. digits_value_after c.args.radix v (drop (c.loop-c.c-index + 1) c.args.digits.now)) value ∙ value_step c.args.radix c.loop-c.value c.args.digits.now c.loop-c.c-index (omega arith) ∙ c.loop-c.invariant.value;
    }
