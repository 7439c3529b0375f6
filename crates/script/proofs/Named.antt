-- A text that is none of a table's.
use Rattle.std.proofs.Common.{◌≡◌, ◌≢◌, ℕ, List, [], ◌∷◌, refl, sym, Bool, true, false, Option, Some, None}
use Rattle.std.specs.Prelude.{if◌then◌else◌}
use Rattle.std.specs.Str.{bytes_eq}
use Rattle.std.proofs.lemmas.Slice.Eq.{bytes_eq-Decides}
use Rattle.script.specs.Names.{named}

-- none of the table's texts is this one
abbrev pub AreOthers : {A : Type 0} → List (List ℕ × A) → List ℕ → Type 0
AreOthers [] text = Unit {0}
AreOthers (row ∷ rows) text = (text ≡ row.0 → ⊥) × AreOthers rows text

untrue : (b : Bool) → (b ≡ true → ⊥) → b ≡ false
untrue true h = absurd (h refl)
untrue false h = refl

pub unequal : (a text : List ℕ) → (text ≡ a → ⊥) → bytes_eq a text ≡ false
unequal a text h = untrue (bytes_eq a text) (λ e. h (sym ((bytes_eq-Decides a text).0 e)))

pub unnamed : {A : Type 0} (rows : List (List ℕ × A)) (text : List ℕ) → AreOthers rows text → named rows text ≡ None
unnamed [] text h = refl
unnamed (row ∷ rows) text h = rw (unequal row.0 text h.0) (unnamed rows text h.1)
