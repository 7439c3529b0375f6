-- The levels of free memory, which say how pages are reclaimed (Waldspurger, OSDI 2002, section 6.3).
use Rattle.std.specs.Prelude.{◌≡◌, ℕ, zero, suc, ◌*◌, ◌<◌, ◌≤◌, List, nat_le, codes, if◌then◌else◌}
use Rattle.reclaim.specs.declared.level.Level.{Level}
use Rattle.reclaim.specs.declared.level.Level.TheVariants.{High, Soft, Hard, Low}

-- the word for a level
abbrev pub level_name : Level → List ℕ
level_name High = codes "high"
level_name Soft = codes "soft"
level_name Hard = codes "hard"
level_name Low = codes "low"

-- whether there is a move from one level to another, where so many frames of all are free
abbrev pub Moves : ℕ → ℕ → Level → Level → Type 0
Moves free total High Soft = 100 * free < 4 * total
Moves free total Soft Hard = 100 * free < 2 * total
Moves free total Hard Low = 100 * free < 1 * total
Moves free total Low Hard = 2 * total ≤ 100 * free
Moves free total Hard Soft = 4 * total ≤ 100 * free
Moves free total Soft High = 6 * total ≤ 100 * free
Moves free total from to = ⊥

-- so many moves lead from one level to another
abbrev pub Chain : ℕ → ℕ → ℕ → Level → Level → Type 0
Chain free total zero from to = from ≡ to
Chain free total (suc moves) from to = (next : Level) × Moves free total from next × Chain free total moves next to

-- no move applies
abbrev pub IsSettled : ℕ → ℕ → Level → Type 0
IsSettled free total level = (to : Level) → ¬ Moves free total level to

-- a chain of moves leads from one level to another, at which no move applies
pub record LeadsTo (free total : ℕ) (from to : Level) : Type 0 where
  pub moves : ℕ
  pub chain : Chain free total moves from to
  pub settled : IsSettled free total to

-- the level to which the moves from a level lead
abbrev pub next_level_of : ℕ → ℕ → Level → Level
next_level_of free total High =
    if nat_le (4 * total) (100 * free) then High
    else if nat_le (2 * total) (100 * free) then Soft
    else if nat_le (1 * total) (100 * free) then Hard
    else Low
next_level_of free total Soft =
    if nat_le (6 * total) (100 * free) then High
    else if nat_le (2 * total) (100 * free) then Soft
    else if nat_le (1 * total) (100 * free) then Hard
    else Low
next_level_of free total Hard =
    if nat_le (6 * total) (100 * free) then High
    else if nat_le (4 * total) (100 * free) then Soft
    else if nat_le (1 * total) (100 * free) then Hard
    else Low
next_level_of free total Low =
    if nat_le (6 * total) (100 * free) then High
    else if nat_le (4 * total) (100 * free) then Soft
    else if nat_le (2 * total) (100 * free) then Hard
    else Low
