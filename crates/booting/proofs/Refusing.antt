-- Why guests are refused, and who is admitted.
use Rattle.std.proofs.Common.{ℕ, ◌≡◌, ◌+◌, ◌-◌, ◌<◌, ◌≤◌, All, List, [], ◌∷◌, sum_by, refl, arith}
use Rattle.std.proofs.lemmas.List.Sums.{sum_by-cons}
use Rattle.tenant.specs.Loading.{WhyNotLoaded}
use Rattle.tenant.specs.declared.loading.BootError.{BootError}
use Rattle.tenant.specs.declared.loading.BootError.TheVariants as error
use Rattle.booting.specs.Boots.{AreAdmitted, AreWithinLimits, HasFramesFor, HasSlotsFor, HoldsImage, WhyNotBooted}
use Rattle.booting.specs.declared.asked.Config.{Config}
use Rattle.booting.specs.declared.asked.NewGuest.{NewGuest}

-- the guests pass their limits, their pages hold their images, and they are admitted
abbrev pub ArePassed : Config → ℕ → List NewGuest → Type 0
ArePassed config slots guests = AreWithinLimits config slots guests × All HoldsImage guests × AreAdmitted config slots guests

pub why_of_loading : (failed : Type 0) (config : Config) (slots : ℕ) (guests : List NewGuest) (e : BootError) → ArePassed config slots guests
    → (e ≡ error.Room → config.frames + slots < sum_by (λ (g : NewGuest). g.pages) guests) → WhyNotLoaded failed e → WhyNotBooted config slots guests e
why_of_loading failed config slots guests error.Room is room i = (is.0, is.1, is.2, room refl)
why_of_loading failed config slots guests error.Store is room i = is
why_of_loading failed config slots guests error.Memory is room i = is
why_of_loading failed config slots guests e is room i = absurd i

-- the pages that a guest always keeps and the others are all
all_pages : (guests : List NewGuest) → sum_by (λ (g : NewGuest). g.pages) guests ≤ sum_by (λ (g : NewGuest). g.minimum + 1) guests + sum_by (λ (g : NewGuest). g.pages - g.minimum) guests
all_pages [] = omega arith
all_pages (guest ∷ guests) = omega (
  arith,
  all_pages guests,
  sum_by-cons (λ (g : NewGuest). g.pages) guest guests,
  sum_by-cons (λ (g : NewGuest). g.minimum + 1) guest guests,
  sum_by-cons (λ (g : NewGuest). g.pages - g.minimum) guest guests,
)

-- who is admitted finds room
pub admitted_find_room : (config : Config) (slots : ℕ) (guests : List NewGuest) → HasFramesFor guests config.frames × HasSlotsFor guests slots
    → config.frames + slots < sum_by (λ (g : NewGuest). g.pages) guests → ⊥
admitted_find_room config slots guests has few = omega (arith, has.0, has.1, few, all_pages guests)
