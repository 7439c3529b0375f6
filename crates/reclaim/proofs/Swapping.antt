-- What guests are left when pages are swapped out.
use Rattle.std.proofs.Common.{◌≡◌, ℕ, ◌-◌, ◌≤◌, List, [], ◌∷◌, length, refl, ap, ◌∙◌, suc, arith}
use Rattle.std.specs.List.{AllZip}
use Rattle.taxpolicy.specs.declared.stat.Stat.{Stat}
use Rattle.taxpolicy.specs.Targets.{IsTarget}
use Rattle.reclaim.specs.declared.level.Level.{Level}
use Rattle.reclaim.specs.declared.level.Level.TheVariants.{High, Soft, Hard, Low}
use Rattle.reclaim.specs.Plans.{action_of, actions_by, IsSwapping, left_of}

left_one : (level : Level) (s : Stat) (target : ℕ) → IsSwapping level → target ≤ s.resident → s.resident - (action_of level s target).swap_out ≡ target
left_one High s target swaps within = absurd swaps
left_one Soft s target swaps within = absurd swaps
left_one Hard s target swaps within = omega arith
left_one Low s target swaps within = omega arith

-- each guest is left its target
pub left_all : (level : Level) (ss : List Stat) (targets : List ℕ) → IsSwapping level → AllZip IsTarget ss targets → left_of ss (actions_by level ss targets) ≡ targets
left_all level [] [] swaps h = refl
left_all level [] (t ∷ ts) swaps h = absurd h
left_all level (s ∷ ss) [] swaps h = absurd h
left_all level (s ∷ ss) (t ∷ ts) swaps h =
    ap (λ n. n ∷ left_of ss (actions_by level ss ts)) (left_one level s t swaps h.0.at_most) ∙ ap (λ (ns : List ℕ). t ∷ ns) (left_all level ss ts swaps h.1)

-- there is an action for each guest
pub one_each : (level : Level) (ss : List Stat) (targets : List ℕ) → length targets ≡ length ss → length (actions_by level ss targets) ≡ length ss
one_each level [] targets h = refl
one_each level (s ∷ ss) [] h = h
one_each level (s ∷ ss) (t ∷ ts) h = ap (λ n. suc n) (one_each level ss ts (omega (arith, h)))
