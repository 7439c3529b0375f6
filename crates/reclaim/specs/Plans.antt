-- What is done to each guest at each level (Waldspurger, OSDI 2002, sections 3 and 6.3).
use Rattle.std.specs.Prelude.{ℕ, ◌+◌, ◌-◌, ◌*◌, ◌/◌, min, List, Some, None, map, zip, nat_lt, false, if◌then◌else◌}
use Rattle.taxpolicy.specs.Targets.{targets_of}
use Rattle.taxpolicy.specs.declared.stat.Stat.{Stat}
use Rattle.reclaim.specs.declared.level.Level.{Level}
use Rattle.reclaim.specs.declared.level.Level.TheVariants.{High, Soft, Hard, Low}
use Rattle.reclaim.specs.declared.turn.Action.{Action}

-- the balloon target of a guest that is to keep so many pages: what it has given and what it has above those, but no more
-- than three quarters of the pages that it was promised
abbrev pub balloon_target : Stat → ℕ → ℕ
balloon_target s target = min (s.given + (s.resident - target)) (3 * s.pages / 4)

-- what is done to a guest that is to keep so many pages
abbrev pub action_of : Level → Stat → ℕ → Action
action_of High s target = record { balloon = Some 0; swap_out = 0; blocked = false }
action_of Soft s target = record { balloon = if nat_lt target s.resident then Some (balloon_target s target) else None; swap_out = 0; blocked = false }
action_of Hard s target = record { balloon = None; swap_out = s.resident - target; blocked = false }
action_of Low s target = record { balloon = None; swap_out = s.resident - target; blocked = nat_lt target s.resident }

-- what is done to guests that are to keep these many pages
abbrev pub actions_by : Level → List Stat → List ℕ → List Action
actions_by level stats targets = map (λ (p : Stat × ℕ). action_of level p.0 p.1) (zip stats targets)

-- what is done to guests at a level, of so many frames in all
abbrev pub actions_of : Level → ℕ → ℕ → List Stat → List Action
actions_of level tax total stats = actions_by level stats (targets_of tax total stats)

-- pages are swapped out at the two lowest levels
abbrev pub IsSwapping : Level → Type 0
IsSwapping High = ⊥
IsSwapping Soft = ⊥
IsSwapping Hard = Unit {0}
IsSwapping Low = Unit {0}

-- the resident pages that the guests are left when so many are swapped out
abbrev pub left_of : List Stat → List Action → List ℕ
left_of stats actions = map (λ (p : Stat × Action). p.0.resident - p.1.swap_out) (zip stats actions)

-- nothing is asked of a guest
abbrev pub no_action : Action
no_action = record { balloon = None; swap_out = 0; blocked = false }
