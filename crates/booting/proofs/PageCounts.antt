-- The pages of a guest within its limits.
use Rattle.std.proofs.Common.{ℕ, ◌≤◌, ◌^◌, arith}
use Rattle.mips_cp0.specs.Profiles.{profile_numbers}
use Rattle.mips_cp0.specs.declared.profile.Profile.{Profile}
use Rattle.mips_cp0.specs.declared.profile.Profile.TheVariants.{One, Two}
use Rattle.booting.specs.declared.asked.NewGuest.{NewGuest}
use Rattle.booting.specs.Boots.{IsWithinLimits}

-- no profile has more than 2^20 pages
few : (profile : Profile) (pages : ℕ) → pages ≤ (profile_numbers profile).most_pages → pages ≤ 2 ^ 20
few One pages most = omega (arith, most)
few Two pages most = omega (arith, most)

pub few_pages : (guest : NewGuest) → IsWithinLimits guest → guest.pages ≤ 2 ^ 20
few_pages guest within = few guest.profile guest.pages within.pages.1
