-- What stands at one place of three lists.
use Rattle.std.specs.Prelude.{List, [], ◌∷◌}

-- the lists are of one length, and what stands at the same place of them is in this relation
abbrev pub AllZip3 : {A B C : Type 0} → (A → B → C → Type 0) → List A → List B → List C → Type 0
AllZip3 R [] [] [] = Unit {0}
AllZip3 R (x ∷ xs) (y ∷ ys) (z ∷ zs) = R x y z × AllZip3 R xs ys zs
AllZip3 R _ _ _ = ⊥
