-- The names of the general registers (System V ABI, MIPS supplement, chapter 3).
use Rattle.std.specs.Prelude.{ℕ, List, [], ◌∷◌, codes, find, Option, option_map}
use Rattle.std.specs.Str.{bytes_eq}
use Rattle.masm_names.specs.Mnemonics.{first_of}

-- the number of the first entry with a name
abbrev pub number_in_table : List (List ℕ × ℕ) → List ℕ → Option ℕ
number_in_table table name = option_map (λ entry. entry.1) (find (λ entry. bytes_eq entry.0 name) table)

abbrev pub first_names : List (List ℕ × ℕ)
first_names = (codes "zero", 0) ∷ (codes "at", 1) ∷ (codes "v0", 2) ∷ (codes "v1", 3) ∷ (codes "a0", 4) ∷ (codes "a1", 5) ∷ (codes "a2", 6) ∷ (codes "a3", 7) ∷ []

abbrev pub temporary_names : List (List ℕ × ℕ)
temporary_names = (codes "t0", 8) ∷ (codes "t1", 9) ∷ (codes "t2", 10) ∷ (codes "t3", 11) ∷ (codes "t4", 12) ∷ (codes "t5", 13) ∷ (codes "t6", 14) ∷ (codes "t7", 15) ∷ []

abbrev pub saved_names : List (List ℕ × ℕ)
saved_names = (codes "s0", 16) ∷ (codes "s1", 17) ∷ (codes "s2", 18) ∷ (codes "s3", 19) ∷ (codes "s4", 20) ∷ (codes "s5", 21) ∷ (codes "s6", 22) ∷ (codes "s7", 23) ∷ []

abbrev pub last_names : List (List ℕ × ℕ)
last_names = (codes "t8", 24) ∷ (codes "t9", 25) ∷ (codes "k0", 26) ∷ (codes "k1", 27) ∷ (codes "gp", 28) ∷ (codes "sp", 29) ∷ (codes "fp", 30) ∷ (codes "s8", 30) ∷ (codes "ra", 31) ∷ []

unfoldable pub first_named : List ℕ → Option ℕ
first_named name = number_in_table first_names name

unfoldable pub temporary_named : List ℕ → Option ℕ
temporary_named name = number_in_table temporary_names name

unfoldable pub saved_named : List ℕ → Option ℕ
saved_named name = number_in_table saved_names name

unfoldable pub last_named : List ℕ → Option ℕ
last_named name = number_in_table last_names name

-- the register of a name, which stands behind `$`
unfoldable pub register_named : List ℕ → Option ℕ
register_named name = first_of (first_named name) (first_of (temporary_named name) (first_of (saved_named name) (last_named name)))
