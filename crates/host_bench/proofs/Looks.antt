-- What a seat sees.
use Rattle.std.proofs.Common.{◌≤◌, length}
use Rattle.log_seats.specs.Heads.{SeatIs}
use Rattle.log_seats.proofs.Seats.{prefix_length}
use Rattle.seated.specs.Acts.{Sees}

pub no_less : (s s' : SeatIs) → Sees s s' → length s.saw ≤ length s'.saw
no_less s s' sees = prefix_length s.saw s'.saw sees.begins
