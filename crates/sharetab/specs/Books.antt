-- What a call does to the entries of a table of shared frames.
use Rattle.std.specs.Prelude.{◌≡◌, ℕ, ◌<◌, List, Some, None, IsSome, length, slice_set}
use Rattle.std.specs.Option.{option_to_list}
use Rattle.frames.specs.Frames.{FrameIs, SharedIs}
use Rattle.sharetab.specs.Entries.{EntriesAre, entry_at, count_at, HasBytes, one_ticket_more, one_ticket_less, freed_frame}

-- a frame that is shared, with one ticket out
abbrev pub shared_once : FrameIs → SharedIs
shared_once frame = record { number = frame.number; bytes = frame.bytes; tickets = 1 }

-- a frame comes to the vacant place of its number, with one ticket out
pub record Admits (old : EntriesAre) (frame : FrameIs) (new : EntriesAre) : Type 0 where
  pub there : frame.number < length old
  pub vacant : entry_at old frame.number ≡ None
  pub entries : new ≡ slice_set old frame.number (Some (shared_once frame))

-- one more ticket of the entry at a place is out
pub record Joins (old : EntriesAre) (place : ℕ) (new : EntriesAre) : Type 0 where
  pub there : IsSome (entry_at old place)
  pub entries : new ≡ slice_set old place (one_ticket_more (entry_at old place))

-- a ticket of the entry at a place is back
pub record Leaves (old : EntriesAre) (place : ℕ) (new : EntriesAre) : Type 0 where
  pub out : 0 < count_at old place
  pub entries : new ≡ slice_set old place (one_ticket_less (entry_at old place))

-- an entry of which a ticket is out has the bytes that it had
abbrev pub KeepBytes : EntriesAre → EntriesAre → Type 0
KeepBytes old new = (k : ℕ) (bytes : List ℕ) → 0 < count_at new k → HasBytes bytes (entry_at old k) → HasBytes bytes (entry_at new k)

-- the frame that is free once a ticket of the entry at a place is back, if any
abbrev pub freed_at : EntriesAre → ℕ → List ℕ
freed_at entries place = option_to_list (freed_frame (entry_at entries place))
