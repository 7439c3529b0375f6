-- The marks of the pages that a guest touches, and the draws of marked ones (Waldspurger, OSDI 2002, section 5.3).
use Rattle.std.specs.Prelude.{ℕ, Bool, false, List, [], ◌∷◌, count_by, slice_index_or, slice_set}

-- whether a page is marked; a page that there isn't is not
abbrev pub is_marked : List Bool → ℕ → Bool
is_marked marks page = slice_index_or marks page false

-- how many of these draws are of a marked page; a page that was drawn twice counts twice
abbrev pub marked_draws : List Bool → List ℕ → ℕ
marked_draws marks draws = count_by (is_marked marks) draws

-- the marks without those of these pages
abbrev pub cleared : List ℕ → List Bool → List Bool
cleared [] marks = marks
cleared (page ∷ pages) marks = cleared pages (slice_set marks page false)
