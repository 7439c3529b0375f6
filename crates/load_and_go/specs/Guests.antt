-- The guest that a text becomes, and why a world with it alone is not booted.
use Rattle.std.specs.Prelude.{◌≡◌, ℕ, List, [], ◌∷◌}
use Rattle.mips_cp0.specs.declared.profile.Profile.{Profile}
use Rattle.booting.specs.declared.asked.Config.{Config}
use Rattle.booting.specs.declared.asked.NewGuest.{NewGuest}
use Rattle.world.specs.Boots as world
use Rattle.load_and_go.specs.declared.error.BootError.{BootError}
use Rattle.load_and_go.specs.declared.error.BootError.TheVariants.{Text, World}
use Rattle.load_and_go.specs.Errors.{IsErrorOf}
use Rattle.load_and_go.specs.Executables.{IsReadFrom}

-- a guest of a profile with so many pages and shares and the least minimum, whose image is one that the text's executable stands for
pub record IsGuestOf (profile : Profile) (text : List ℕ) (page_count share_count : ℕ) (guest : NewGuest) : Type 0 where
  pub of_profile : guest.profile ≡ profile
  pub image : IsReadFrom text page_count guest.image.value
  pub pages : guest.pages ≡ page_count
  pub shares : guest.shares ≡ share_count
  pub minimum : guest.minimum ≡ 2

-- Why the program of a text is not booted in a world: the text is refused, or else the world with its guest of this profile alone, whose
-- pages hold its image.
abbrev pub WhyNotBooted : Profile → List ℕ → ℕ → ℕ → Config → ℕ → BootError → Type 0
WhyNotBooted profile text pages shares config slots (Text error) = IsErrorOf text pages error
WhyNotBooted profile text pages shares config slots (World error) =
    (guest : NewGuest) × IsGuestOf profile text pages shares guest × world.HoldsImage guest × world.WhyNotBooted config slots (guest ∷ []) error
