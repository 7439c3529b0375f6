-- The number of a machine's pages.
use Rattle.std.proofs.Common.{ℕ, ◌≤◌, ◌^◌, arith}
use Rattle.mips_cp0.specs.declared.profile.Profile.{Profile}
use Rattle.mips_cp0.specs.declared.profile.Profile.TheVariants.{One, Two}
use Rattle.commands.specs.Raw.{IsPageCount}

-- no profile has more than 2^20 pages
pub few_pages : (profile : Profile) (pages : ℕ) → IsPageCount profile pages → pages ≤ 2 ^ 20
few_pages One pages is = omega (arith, is.most)
few_pages Two pages is = omega (arith, is.most)
