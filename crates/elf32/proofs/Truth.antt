-- What the answers of several tests say of each.
use Rattle.std.proofs.Common.{◌≡◌, Bool, true, false, ◌||◌, ◌&&◌, not, ◌⊎◌, inl, inr, refl}

pub neither : (b c : Bool) → (b || c) ≡ false → (b ≡ false) × (c ≡ false)
neither true c h = cc
neither false c h = (refl, h)

pub one_of : (b c : Bool) → (b || c) ≡ true → (b ≡ true) ⊎ (c ≡ true)
one_of true c h = inl refl
one_of false c h = inr h

pub both : (b c : Bool) → (b && c) ≡ true → (b ≡ true) × (c ≡ true)
both true c h = (refl, h)
both false c h = cc

pub is_true : (b : Bool) → not b ≡ false → b ≡ true
is_true true h = refl
is_true false h = cc

pub none_of_two : (a some b : Bool) → a ≡ false → b ≡ false → (a || (some && b)) ≡ false
none_of_two true some b x y = cc
none_of_two false true b x y = y
none_of_two false false b x y = refl

pub none_of_three : (a some b rest : Bool) → a ≡ false → b ≡ false → rest ≡ false → (a || (some && b) || rest) ≡ false
none_of_three true some b rest x y z = cc
none_of_three false true b rest x y z = rw (y, z) refl
none_of_three false false b rest x y z = z

pub second_of : (b c : Bool) → b ≡ true → (b && c) ≡ false → c ≡ false
second_of true c t h = h
second_of false c t h = cc
