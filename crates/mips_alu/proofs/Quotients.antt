-- What the code's division of signed words gives.
use Rattle.std.proofs.Common.{◌≡◌, ℕ, ℤ, pos, negsuc, zero, suc, ◌-◌, ◌^◌, ◌⊎◌, inl, inr, ap, refl, sym, ◌∙◌, FitsSigned, int_div, int_rem, w32, arith, rules, ◌*◌, ◌/◌, ◌<◌, ◌≤◌, ◌+ℤ◌, ◌*ℤ◌, ◌==◌, ◌&&◌, false}
use Rattle.std.specs.Int.{cast_signed, cast_unsigned}
use Rattle.std.proofs.lemmas.Int.{quot_is, rem_is, ints, to_z-of_z, of_z-to_z, quot-rem}
use Rattle.std.proofs.Math.Facts.{sfits_to_z}
use Rattle.std.proofs.lemmas.Bool.{cases_eq}
use lib.Signed.{mag_rem}
use Rattle.std.proofs.Math.Nat.{div-le_self, div-mul-le_self}
use Rattle.mips_alu.specs.Signed.{signed_value}
use Rattle.mips_alu.specs.Dividing.{divide_result, Overflows}
use Rattle.mips_alu.specs.declared.multiplying.Signedness.TheVariants.{Signed}

pub quotient_word : (x y : ℤ) → FitsSigned w32 x → FitsSigned w32 y → FitsSigned w32 (int_div x y) → cast_unsigned w32 (cast_signed w32 (cast_unsigned w32 (int_div (cast_signed w32 (cast_unsigned w32 x)) (cast_signed w32 (cast_unsigned w32 y))))) ≡ cast_unsigned w32 (int_div x y)
quotient_word x y a b c = ap (cast_unsigned w32) (quot_is w32 x y a b c)

pub remainder_word : (x y : ℤ) → FitsSigned w32 x → FitsSigned w32 y → cast_unsigned w32 (cast_signed w32 (cast_unsigned w32 (int_rem (cast_signed w32 (cast_unsigned w32 x)) (cast_signed w32 (cast_unsigned w32 y))))) ≡ cast_unsigned w32 (int_rem x y)
remainder_word x y a b = ap (cast_unsigned w32) (rem_is w32 x y a b)

-- a quotient fits a word but where -2^31 is divided by -1
quotient_fits : (x y : ℤ) → FitsSigned w32 x → (y ≡ negsuc 0 → x ≡ negsuc (2 ^ 31 - 1) → ⊥) → FitsSigned w32 (int_div x y)
quotient_fits (pos a) (pos b) f apart = omega (arith, ints, div-le_self a b)
quotient_fits (pos a) (negsuc b) f apart = omega (arith, ints, div-le_self a (suc b))
quotient_fits (negsuc a) (pos b) f apart = omega (arith, ints, div-le_self (suc a) b)
quotient_fits (negsuc a) (negsuc zero) f apart =
    let other : a ≡ 2 ^ 31 - 1 → ⊥ = λ e. apart refl (ap negsuc e) in
    let whole : suc a / 1 ≤ suc a = div-le_self (suc a) 1 in
    let bound : a < 2 ^ 31 = omega (arith, ints) in
    omega (arith, ints)
quotient_fits (negsuc a) (negsuc (suc b)) f apart =
    let q : ℕ = suc a / suc (suc b) in
    let whole : q * suc (suc b) ≤ suc a = div-mul-le_self (suc a) (suc (suc b)) in
    let half : q * 2 ≤ q * suc (suc b) = omega arith in
    omega (arith, ints)

apart_from : (a b : ℕ) → a < 2 ^ 32 → b < 2 ^ 32 → ¬ (Overflows a b) → signed_value b ≡ negsuc 0 → signed_value a ≡ negsuc (2 ^ 31 - 1) → ⊥
apart_from a b p q apart e f =
    let divisor : b ≡ 2 ^ 32 - 1 = sym (of_z-to_z w32 b q) ∙ ap (cast_unsigned w32) e in
    let dividend : a ≡ 2 ^ 31 = sym (of_z-to_z w32 a p) ∙ ap (cast_unsigned w32) f in
    apart (dividend, divisor)

pub not_both : (a b : ℕ) → ¬ (Overflows a b) → (a == 2 ^ 31 && b == 2 ^ 32 - 1) ≡ false
not_both a b apart = go (cases_eq a (2 ^ 31)) (cases_eq b (2 ^ 32 - 1))
  where
    go : (a ≡ 2 ^ 31) ⊎ (a ≡ 2 ^ 31 → ⊥) → (b ≡ 2 ^ 32 - 1) ⊎ (b ≡ 2 ^ 32 - 1 → ⊥) → (a == 2 ^ 31 && b == 2 ^ 32 - 1) ≡ false
    go (inl e) (inl f) = absurd (apart (e, f))
    go (inl e) (inr f) = grind arith
    go (inr e) f = grind arith

pub multiplies_back : (a b : ℕ) → a < 2 ^ 32 → b < 2 ^ 32 → 0 < b → ¬ (Overflows a b) → ((signed_value (divide_result Signed a b).lo *ℤ signed_value b) +ℤ signed_value (divide_result Signed a b).hi) ≡ signed_value a
multiplies_back a b p q r apart =
    let nonzero : (b == 0) ≡ false = grind arith in
    let x : ℤ = signed_value a in
    let y : ℤ = signed_value b in
    let fits_x : FitsSigned w32 x = sfits_to_z (search rules) in
    let at_least : y ≡ negsuc 0 → x ≡ negsuc (2 ^ 31 - 1) → ⊥ = λ e f. apart_from a b p q apart e f in
    let fits_quotient : FitsSigned w32 (int_div x y) = quotient_fits x y fits_x at_least in
    let fits_remainder : FitsSigned w32 (int_rem x y) = omega (arith, ints, mag_rem x y) in
    rw (nonzero, not_both a b apart, to_z-of_z w32 (int_div x y) fits_quotient, to_z-of_z w32 (int_rem x y) fits_remainder) (quot-rem x y)
