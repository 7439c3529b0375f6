-- What a host can be asked for at once.
use Rattle.std.specs.Prelude.{ℕ, ◌≤◌, length}
use Rattle.debugline.specs.Commands.{Command, Read, Write}

-- at most 1,024 bytes are read or written
abbrev pub IsInRange : Command → Type 0
IsInRange (Read address count) = count ≤ 1024
IsInRange (Write address bytes) = length bytes ≤ 1024
IsInRange _ = Unit {0}
