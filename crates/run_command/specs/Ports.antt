-- The debugger ports of guests.
use Rattle.std.specs.Prelude.{ℕ, ◌+◌, min}

-- the port of a guest, of the first one's and the guest's number; the last port where there is none so far behind
abbrev pub port_of : ℕ → ℕ → ℕ
port_of first guest = min (first + guest) 65535
