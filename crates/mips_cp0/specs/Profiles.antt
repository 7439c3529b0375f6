-- The two profiles of the processor, which differ in the numbers of this table alone: the number of a profile, how many entries its
-- TLB has (a power of two), and the greatest number of pages of a memory.
use Rattle.std.specs.Prelude.{ℕ, ◌-◌}
use Rattle.mips_cp0.specs.declared.profile.Profile.{Profile}
use Rattle.mips_cp0.specs.declared.profile.Profile.TheVariants.{One, Two}
use Rattle.mips_cp0.specs.declared.profile.ProfileNumbers.{ProfileNumbers}

abbrev pub profile_numbers : Profile → ProfileNumbers
profile_numbers One = record { number = 1; entries = 16; most_pages = 16384 }
profile_numbers Two = record { number = 2; entries = 32; most_pages = 32768 }

-- the number of the last TLB entry
abbrev pub last_entry_of : Profile → ℕ
last_entry_of profile = (profile_numbers profile).entries - 1
