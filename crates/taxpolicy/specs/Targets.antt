-- How many pages each guest may keep (Waldspurger, OSDI 2002, sections 5.2 and 6.3).
use Rattle.std.specs.Prelude.{ℕ, ◌≤◌, ◌⊎◌, zero, suc, ◌+◌, ◌-◌, ◌*◌, ◌/◌, List, [], ◌∷◌, Some, None, nat_le, if◌then◌else◌, map, min, sum}
use Rattle.std.specs.List.{AllZip}
use Rattle.taxpolicy.specs.Victim.{victim_of}
use Rattle.taxpolicy.specs.declared.stat.Stat.{Stat}

-- the frames that guests may fill, of all: six of each hundred stay free, rounded up
abbrev pub frames_to_fill : ℕ → ℕ
frames_to_fill total = total - (6 * total + 99) / 100

abbrev pub residents : List Stat → List ℕ
residents stats = map (λ (s : Stat). s.resident) stats

-- the guests as they are when guest g has lost a page
abbrev pub without_page : ℕ → List Stat → List Stat
without_page g [] = []
without_page zero (s ∷ ss) = record s { resident = s.resident - 1 } ∷ ss
without_page (suc g) (s ∷ ss) = s ∷ without_page g ss

-- the guests after so many steps at most: while they have more resident pages than the limit, the victim loses a page
unfoldable pub reclaimed : ℕ → ℕ → ℕ → List Stat → List Stat
reclaimed tax limit zero stats = stats
reclaimed tax limit (suc pages) stats =
    if nat_le (sum (residents stats)) limit then stats
    else elim (victim_of tax stats) [ None ↦ stats | Some g ↦ reclaimed tax limit pages (without_page g stats) ]

-- the pages that each guest may keep: those that it has once victims lost pages until six of each hundred frames are free,
-- or nobody is eligible. There are no more steps than resident pages
unfoldable pub targets_of : ℕ → ℕ → List Stat → List ℕ
targets_of tax total stats = residents (reclaimed tax (frames_to_fill total) (sum (residents stats)) stats)

-- a target is no more than what the guest has, and no less than what it always keeps
pub record IsTarget (s : Stat) (target : ℕ) : Type 0 where
  pub at_most : target ≤ s.resident
  pub at_least : min s.minimum s.resident ≤ target

abbrev pub AtMinimum : Stat → ℕ → Type 0
AtMinimum s target = target ≤ s.minimum

-- with these targets the guests fill no more frames than they may, or each keeps no more than its minimum
abbrev pub AreLow : ℕ → List Stat → List ℕ → Type 0
AreLow total stats targets = (sum targets ≤ frames_to_fill total) ⊎ AllZip AtMinimum stats targets
