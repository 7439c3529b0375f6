-- The entries that a processor has, of those that there is room for.
use Rattle.std.proofs.Common.{ℕ, ◌≡◌, ◌<◌, List, length, slice_set, arith, refl, replicate, take}
use Rattle.std.proofs.Math.Seq.{take-set-lt}
use Rattle.std.proofs.lemmas.List.{length-take}
use Rattle.mips_cp0.specs.Profiles.{profile_numbers}
use Rattle.mips_cp0.specs.declared.profile.Profile.{Profile}
use Rattle.mips_cp0.specs.declared.profile.Profile.TheVariants.{One, Two}
use Rattle.mips_cp0.specs.Registers.{boot_registers}
use Rattle.mips_tlb.specs.Entries.{zero_entry, boot_entries, BelongTogether}

pub zeros_used : (profile : Profile) → take (profile_numbers profile).entries (replicate 32 zero_entry) ≡ boot_entries profile
zeros_used One = refl
zeros_used Two = refl

pub index_used : {X : Type 0} (n i : ℕ) (xs : List X) → i < length (take n xs) → i < length xs
index_used n i xs within = omega (arith, length-take n xs, within)

pub write_used : {X : Type 0} (n i : ℕ) (x : X) (xs : List X) → i < length (take n xs) → take n (slice_set xs i x) ≡ slice_set (take n xs) i x
write_used n i x xs within = take-set-lt n xs i x (omega (arith, length-take n xs, within))

pub boot_together : (profile : Profile) → BelongTogether (boot_entries profile) (boot_registers profile)
boot_together One = refl
boot_together Two = refl
