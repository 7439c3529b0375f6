-- Parts of what was answered.
use Rattle.std.proofs.Common.{◌≡◌, refl, Result, Ok, Err}
use Rattle.masm_lines.specs.Steps.{◌>>=◌}

-- what a first part answered, where a whole answered
pub answered : {A B E : Type 0} (first : Result A E) (next : A → Result B E) (b : B) → (first >>= next) ≡ Ok b → (a : A) × (first ≡ Ok a) × (next a ≡ Ok b)
answered (Ok a) next b h = (a, refl, h)
answered (Err e) next b h = cc
