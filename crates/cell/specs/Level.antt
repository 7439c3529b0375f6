-- The machine memory that a guest's pages move over.
use Rattle.std.specs.Prelude.{◌≡◌}
use Rattle.machine_memory.specs.Memories.{MemoryIs}

-- a machine memory is the one that the guest's pages moved over at first
abbrev pub IsMemoryOf : {Store : Type 0} → MemoryIs Store → MemoryIs Store → Type 0
IsMemoryOf first memory = memory ≡ first
