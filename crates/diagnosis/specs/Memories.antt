-- The memory that an image is read for.
use Rattle.std.specs.Prelude.{ℕ}
use Rattle.mips_cp0.specs.Profiles.{profile_numbers}
use Rattle.diagnosis.specs.declared.memory.Memory.{Memory}
use Rattle.diagnosis.specs.declared.memory.Memory.TheVariants as memory

-- how many pages it has: all of kseg0 where no machine has it
abbrev pub pages_of : Memory → ℕ
pages_of (memory.Exec profile pages) = pages
pages_of (memory.Replay profile pages) = pages
pages_of (memory.Guest profile pages) = pages
pages_of memory.Kseg0 = 131072

-- how many pages one of its kind has at most: those of a machine of its profile, or all of kseg0
abbrev pub most_pages_of : Memory → ℕ
most_pages_of (memory.Exec profile pages) = (profile_numbers profile).most_pages
most_pages_of (memory.Replay profile pages) = (profile_numbers profile).most_pages
most_pages_of (memory.Guest profile pages) = (profile_numbers profile).most_pages
most_pages_of memory.Kseg0 = 131072
