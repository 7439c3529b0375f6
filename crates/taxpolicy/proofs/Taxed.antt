-- What a tax does to a ratio.
use Rattle.std.proofs.Common.{◌≡◌, ℕ, ◌+◌, ◌-◌, ◌*◌, ◌<◌, ◌≤◌, sym, ap, ◌∙◌, arith}
use Rattle.std.proofs.Math.Nat.{mul-lt-mul_of_pos_left}
use Rattle.taxpolicy.specs.Ratio.{RatioLess, SameRatio, IsLessActive, page_cost, ratio, shares_per_page, part}
use Rattle.taxpolicy.specs.declared.stat.Stat.{Stat}
use Rattle.taxpolicy.proofs.Positive.{product_pos}

cost_at : (shares sample untaxed resident cost k : ℕ) → cost ≡ sample * k → shares * sample * untaxed * (k * resident) ≡ untaxed * shares * (resident * cost)
cost_at shares sample untaxed resident cost k h =
    let e = ap (λ n. untaxed * shares * (resident * n)) h in
    omega (arith, e)

all_cost : (active sample untaxed : ℕ) → active ≡ sample → active * untaxed + 100 * (sample - active) ≡ sample * untaxed
all_cost active sample untaxed h = omega (arith, ap (λ n. n * untaxed) h)

none_cost : (active sample untaxed : ℕ) → active ≡ 0 → active * untaxed + 100 * (sample - active) ≡ sample * 100
none_cost active sample untaxed h = omega (arith, ap (λ n. n * untaxed) h)

pub untaxed : (s : Stat) → SameRatio (ratio 0 s) (shares_per_page s)
untaxed s =
    let cost : page_cost 0 s ≡ s.sample * 100 = omega (arith, s.touched) in
    let e = ap (λ n. s.shares * (s.resident * n)) cost in
    omega (arith, e)

pub all_active : (tax : ℕ) (s : Stat) → s.active ≡ s.sample → SameRatio (ratio tax s) (shares_per_page s)
all_active tax s all =
    let untaxed = 100 - tax in
    let e = ap (λ n. s.shares * (s.resident * n)) (all_cost s.active s.sample untaxed all) in
    multiplied s.shares s.sample untaxed s.resident ∙ sym e
  where
    multiplied : (a b c d : ℕ) → a * b * c * d ≡ a * (d * (b * c))
    multiplied a b c d = omega arith

pub idle : (tax : ℕ) (s : Stat) → s.active ≡ 0 → SameRatio (ratio tax s) (part (100 - tax) 100 (shares_per_page s))
idle tax s none = cost_at s.shares s.sample (100 - tax) s.resident (page_cost tax s) 100 (none_cost s.active s.sample (100 - tax) none)

pub idle_page : (tax : ℕ) (a b : Stat) → a.sample ≡ b.sample → a.active ≡ 0 → b.active ≡ b.sample → (100 - tax) * page_cost tax a ≡ 100 * page_cost tax b
idle_page tax a b same none all =
    let untaxed = 100 - tax in
    ap (λ n. untaxed * n) (none_cost a.active a.sample untaxed none ∙ ap (λ n. n * 100) same)
    ∙ turned untaxed b.sample
    ∙ ap (λ n. 100 * n) (sym (all_cost b.active b.sample untaxed all))
  where
    turned : (u n : ℕ) → u * (n * 100) ≡ 100 * (n * u)
    turned u n = omega arith

-- more active pages cost less
cost_less : (few many sample untaxed : ℕ) → few < many → many ≤ sample → untaxed < 100 → many * untaxed + 100 * (sample - many) < few * untaxed + 100 * (sample - few)
cost_less few many sample untaxed less within taxed =
    let more = mul-lt-mul_of_pos_left {k = many - few} taxed (omega arith) in
    let split : many * untaxed ≡ few * untaxed + (many - few) * untaxed = ap (λ n. n * untaxed) (let e : many ≡ few + (many - few) = omega arith in e) ∙ spread few (many - few) untaxed in
    omega (arith, more, split)
  where
    spread : (a b c : ℕ) → (a + b) * c ≡ a * c + b * c
    spread a b c = omega arith

product_less : (n p few many : ℕ) → 0 < n → 0 < p → few < many → n * (p * few) < n * (p * many)
product_less n p few many some there less = mul-lt-mul_of_pos_left {k = n} (mul-lt-mul_of_pos_left {k = p} less there) some

pub less_active : (tax : ℕ) (a b : Stat) → 0 < tax → tax < 100 → IsLessActive a b → RatioLess (ratio tax a) (ratio tax b)
less_active tax a b taxed below alike =
    let untaxed = 100 - tax in
    let n = a.shares * a.sample * untaxed in
    let positive : 0 < n = product_pos (a.shares * a.sample) untaxed (product_pos a.shares a.sample alike.some_shares a.sampled) (omega arith) in
    let within : b.active ≤ a.sample = omega (arith, b.touched, alike.sample) in
    let costs = cost_less a.active b.active a.sample untaxed alike.active within (omega arith) in
    rw (← alike.shares, ← alike.resident, ← alike.sample) (product_less n a.resident _ _ positive alike.some_resident costs)
