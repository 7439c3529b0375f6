-- The low word of a product.
use Rattle.std.proofs.Common.{◌≡◌, ℕ, ℤ, pos, negsuc, ◌*◌, ◌%◌, ◌^◌, ◌<◌, ◌*ℤ◌, sym, ◌∙◌, ap, refl, arith, unsigned_abs, w32}
use Rattle.std.specs.Int.{cast_signed, cast_unsigned, int_rem_euclid, int_wrap}
use Rattle.std.proofs.lemmas.Int.{of_z-to_z, wrapping_mul-bits}
use Rattle.mips_alu.specs.Signed.{signed_value, modulo}
use Rattle.mips_alu.specs.Multiplying.{product}
use Rattle.mips_alu.specs.declared.multiplying.Signedness.{Signedness}
use Rattle.mips_alu.specs.declared.multiplying.Signedness.TheVariants.{Signed, Unsigned}

-- modulo 2^64 and then modulo 2^32
modulo_twice : (z : ℤ) → modulo z (2 ^ 64) % 2 ^ 32 ≡ modulo z (2 ^ 32)
modulo_twice (pos n) = omega arith
modulo_twice (negsuc n) = omega arith

modulo_is_euclid : (z : ℤ) → unsigned_abs (int_rem_euclid z (pos (2 ^ 32))) ≡ modulo z (2 ^ 32)
modulo_is_euclid (pos n) = refl
modulo_is_euclid (negsuc n) = refl

modulo_below : (z : ℤ) → modulo z (2 ^ 32) < 2 ^ 32
modulo_below (pos n) = omega arith
modulo_below (negsuc n) = omega arith

signed_low : (a b : ℕ) → a < 2 ^ 32 → b < 2 ^ 32 → modulo (signed_value a *ℤ signed_value b) (2 ^ 32) ≡ a * b % 2 ^ 32
unfolding int_wrap
signed_low a b p q =
    let z : ℤ = signed_value a *ℤ signed_value b in
    let wrapped : cast_signed w32 (a * b % 2 ^ 32) ≡ cast_signed w32 (unsigned_abs (int_rem_euclid z (pos (2 ^ 32)))) = wrapping_mul-bits w32 a b p q in
    sym (of_z-to_z w32 (modulo z (2 ^ 32)) (modulo_below z))
    ∙ sym (ap (λ (n : ℕ). cast_unsigned w32 (cast_signed w32 n)) (modulo_is_euclid z))
    ∙ sym (ap (cast_unsigned w32) wrapped)
    ∙ of_z-to_z w32 (a * b % 2 ^ 32) (omega arith)

pub low_word : (s : Signedness) (a b : ℕ) → a < 2 ^ 32 → b < 2 ^ 32 → a * b % 2 ^ 32 ≡ modulo (product s a b) (2 ^ 64) % 2 ^ 32
low_word Signed a b p q = sym (modulo_twice (signed_value a *ℤ signed_value b) ∙ signed_low a b p q)
low_word Unsigned a b p q = sym (modulo_twice (pos (a * b)))
