-- The memory that holds a segment.
use Rattle.std.specs.Prelude.{ℕ, ◌+◌, ◌*◌, ◌≤◌}
use Rattle.elf32.specs.declared.range.AddressRange.{AddressRange}

-- the addresses of a range lie in a memory of so many pages, which begins at 80000000
abbrev pub IsHeldBy : ℕ → AddressRange → Type 0
IsHeldBy pages r = (0x80000000 ≤ r.address) × (r.address + r.size ≤ 0x80000000 + 4096 * pages)
