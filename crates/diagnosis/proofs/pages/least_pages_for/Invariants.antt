use Rattle.std.proofs.Common.{◌≡◌, ℕ, ◌-◌, ◌<◌, ◌≤◌, take, slice_index_or}
use Rattle.std.specs.List.{All}
use Rattle.elf32.specs.declared.range.AddressRange.{AddressRange}
use Rattle.diagnosis.specs.Memories.{most_pages_of}
use Rattle.diagnosis.specs.Pages.{IsHeldBy}
use Rattle.diagnosis.proofs.pages.least_pages_for.Given as goal

-- the number so far, which is below the limit, holds the ranges so far, and where it is above 2, one fewer not one of them
abbrev pub invariant-loop-range : goal.invariant-loop-range
invariant-loop-range l = All (IsHeldBy l.pages) (take l.range-index l.ranges) × (l.pages ≤ most_pages_of l.memory)
    × (2 < l.pages → (k : ℕ) × (r : AddressRange) × (k < l.range-index) × (slice_index_or l.ranges k r ≡ r) × (IsHeldBy (l.pages - 1) r → ⊥))
