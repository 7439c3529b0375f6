-- The denominators of eligible guests' ratios are positive.
use Rattle.std.proofs.Common.{ℕ, ◌+◌, ◌-◌, ◌*◌, ◌<◌, zero, suc, arith}
use Rattle.taxpolicy.specs.Ratio.{page_cost, ratio}
use Rattle.taxpolicy.specs.Victim.{IsEligible}
use Rattle.taxpolicy.specs.declared.stat.Stat.{Stat}

cost_from : (active sample untaxed : ℕ) → 0 < sample → 0 < untaxed → 0 < active * untaxed + 100 * (sample - active)
cost_from zero sample untaxed some kept = omega arith
cost_from (suc active) sample zero some kept = absurd (omega arith)
cost_from (suc active) sample (suc untaxed) some kept = omega arith

pub product_pos : (a b : ℕ) → 0 < a → 0 < b → 0 < a * b
product_pos zero b p q = absurd (omega arith)
product_pos (suc a) zero p q = absurd (omega arith)
product_pos (suc a) (suc b) p q = omega arith

pub page_cost_pos : (tax : ℕ) (s : Stat) → tax < 100 → 0 < page_cost tax s
page_cost_pos tax s below = cost_from s.active s.sample (100 - tax) s.sampled (omega arith)

pub denominator_pos : (tax : ℕ) (s : Stat) → tax < 100 → IsEligible s → 0 < (ratio tax s).denominator
denominator_pos tax s below eligible = product_pos s.resident (page_cost tax s) (omega arith) (page_cost_pos tax s below)
