-- The order of fractions.
use Rattle.std.proofs.Common.{ℕ, ◌*◌, ◌<◌, ◌≤◌, inl, inr, zero, suc, ap, arith}
use Rattle.std.proofs.Math.Nat.{mul-le-mul_right, mul-lt-mul_of_pos_right, eq_of_mul-eq-mul_right}
use Rattle.std.proofs.lemmas.Bool.{cases_lt}
use Rattle.taxpolicy.specs.Ratio.{Fraction, RatioLess, SameRatio}

-- a product that is not 0 has no factor 0
factor_pos : (a b n : ℕ) → n < a * b → 0 < b
factor_pos a zero n h = omega (arith, h)
factor_pos a (suc b) n h = omega arith

pub less_less : (a b c : Fraction) → RatioLess a b → RatioLess b c → RatioLess a c
less_less a b c h k =
    elim (cases_lt (a.numerator * c.denominator) (c.numerator * a.denominator)) [
      | inl less ↦ less
      | inr not_less ↦
          let weak : a.numerator * b.denominator ≤ b.numerator * a.denominator = omega arith in
          let one = mul-le-mul_right c.denominator weak in
          let two = mul-lt-mul_of_pos_right k (factor_pos b.numerator a.denominator _ h) in
          let three = mul-le-mul_right b.denominator not_less in
          absurd (omega (arith, one, two, three))
    ]

pub same_less : (a b c : Fraction) → 0 < a.denominator → SameRatio a b → RatioLess b c → RatioLess a c
same_less a b c pos h k =
    elim (cases_lt (a.numerator * c.denominator) (c.numerator * a.denominator)) [
      | inl less ↦ less
      | inr not_less ↦
          let one = ap (λ n. n * c.denominator) h in
          let two = mul-lt-mul_of_pos_right k pos in
          let three = mul-le-mul_right b.denominator not_less in
          absurd (omega (arith, one, two, three))
    ]

pub less_same : (a b c : Fraction) → 0 < c.denominator → RatioLess a b → SameRatio b c → RatioLess a c
less_same a b c pos h k =
    elim (cases_lt (a.numerator * c.denominator) (c.numerator * a.denominator)) [
      | inl less ↦ less
      | inr not_less ↦
          let one = mul-lt-mul_of_pos_right h pos in
          let two = ap (λ n. n * a.denominator) k in
          let three = mul-le-mul_right b.denominator not_less in
          absurd (omega (arith, one, two, three))
    ]

pub same_same : (a b c : Fraction) → 0 < b.denominator → SameRatio a b → SameRatio b c → SameRatio a c
same_same a b c pos h k =
    let one = ap (λ n. n * c.denominator) h in
    let two = ap (λ n. n * a.denominator) k in
    eq_of_mul-eq-mul_right b.denominator pos (a.numerator * c.denominator) (c.numerator * a.denominator) (omega (arith, one, two))
