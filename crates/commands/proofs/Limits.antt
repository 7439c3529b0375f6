-- The limits of the number of pages.
use Rattle.std.proofs.Common.{ℕ, ◌≤◌, List, inl, inr, subst, sym, arith}
use Rattle.mips_cp0.specs.Profiles.{profile_numbers}
use Rattle.mips_cp0.specs.declared.profile.Profile.{Profile}
use Rattle.mips_cp0.specs.declared.profile.Profile.TheVariants.{One, Two}
use Rattle.logfile.specs.Versions.{HasHeaderAs}
use Rattle.commands.specs.Raw.{IsPageCount}

-- a machine of either profile has few pages
pub most_few : (profile : Profile) → (profile_numbers profile).most_pages ≤ 32768
most_few One = omega arith
most_few Two = omega arith

-- the header of a log names pages within the limits of its machine's profile
pub header_pages : (file digest : List ℕ) (profile : Profile) (pages : ℕ) → HasHeaderAs file digest profile pages → IsPageCount profile pages
header_pages file digest profile pages (inl has) =
    subst (λ (p : Profile). IsPageCount p pages) (sym has.1.0) (record { least = has.1.1.range.least; most = has.1.1.range.most })
header_pages file digest profile pages (inr has) = record { least = has.1.range.least; most = has.1.range.most }
