-- The adjusted shares-per-page ratio of a guest (Waldspurger, OSDI 2002, sections 5.1 and 5.2).
use Rattle.std.specs.Prelude.{◌≡◌, ℕ, ◌+◌, ◌-◌, ◌*◌, ◌<◌, Bool, nat_lt}
use Rattle.taxpolicy.specs.declared.stat.Stat.{Stat}

-- a numerator over a denominator
pub record Fraction : Type 0 where
  pub numerator : ℕ
  pub denominator : ℕ

-- f + k * (1 - f), times sample * (100 - tax): the part f = active / sample of the pages is active, and an idle page costs
-- k = 100 / (100 - tax) times what an active one does
abbrev pub page_cost : ℕ → Stat → ℕ
page_cost tax s = s.active * (100 - tax) + 100 * (s.sample - s.active)

-- S / (P * (f + k * (1 - f))) of S shares and P resident pages, with both parts times sample * (100 - tax)
abbrev pub ratio : ℕ → Stat → Fraction
ratio tax s = record { numerator = s.shares * s.sample * (100 - tax); denominator = s.resident * page_cost tax s }

-- fractions are compared exactly, by cross products
abbrev pub RatioLess : Fraction → Fraction → Type 0
RatioLess a b = a.numerator * b.denominator < b.numerator * a.denominator

abbrev pub SameRatio : Fraction → Fraction → Type 0
SameRatio a b = a.numerator * b.denominator ≡ b.numerator * a.denominator

-- the test of `RatioLess`
abbrev pub is_ratio_less : Fraction → Fraction → Bool
is_ratio_less a b = nat_lt (a.numerator * b.denominator) (b.numerator * a.denominator)

-- S / P, the ratio with no tax
abbrev pub shares_per_page : Stat → Fraction
shares_per_page s = record { numerator = s.shares; denominator = s.resident }

-- numerator / denominator of a fraction
abbrev pub part : ℕ → ℕ → Fraction → Fraction
part numerator denominator f = record { numerator = numerator * f.numerator; denominator = denominator * f.denominator }

-- two guests are alike but for their active pages, of which the first has fewer; they have shares and resident pages
pub record IsLessActive (a b : Stat) : Type 0 where
  pub shares : a.shares ≡ b.shares
  pub resident : a.resident ≡ b.resident
  pub sample : a.sample ≡ b.sample
  pub active : a.active < b.active
  pub some_shares : 0 < a.shares
  pub some_resident : 0 < a.resident
