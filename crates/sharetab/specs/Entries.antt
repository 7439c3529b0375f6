-- The entries of a table of shared frames: the frame of a number at the place of that number.
use Rattle.std.specs.Prelude.{◌≡◌, ℕ, ◌+◌, ◌-◌, ◌<◌, ◌^◌, nat_lt, if◌then◌else◌, List, Option, Some, None, sum_by, length, slice_index_or}
use Rattle.sha2.specs.Sha256.{sha256}
use Rattle.frames.specs.Frames.{SharedIs}
use Rattle.frames.specs.Counts.{one_at}

-- places, each vacant or with an entry
abbrev pub EntriesAre : Type 0
EntriesAre = List (Option SharedIs)

-- the entry at a place
abbrev pub entry_at : EntriesAre → ℕ → Option SharedIs
entry_at entries k = slice_index_or entries k None

-- ---- what entries have of a number, and in all

abbrev pub tickets_of : Option SharedIs → ℕ
tickets_of None = 0
tickets_of (Some entry) = entry.tickets

-- how many tickets of entry k are out
abbrev pub count_at : EntriesAre → ℕ → ℕ
count_at entries k = tickets_of (entry_at entries k)

-- how often an entry has frame k
abbrev pub frame_in : ℕ → Option SharedIs → ℕ
frame_in k None = 0
frame_in k (Some entry) = one_at k entry.number

-- how often entries have frame k
abbrev pub frames_shared : ℕ → EntriesAre → ℕ
frames_shared k entries = sum_by (frame_in k) entries

-- 1 for an entry, 0 for a vacant place
abbrev pub one_entry : Option SharedIs → ℕ
one_entry None = 0
one_entry (Some entry) = 1

-- how many entries there are
abbrev pub entry_count : EntriesAre → ℕ
entry_count entries = sum_by one_entry entries

-- how many tickets of all entries are out
abbrev pub ticket_count : EntriesAre → ℕ
ticket_count entries = sum_by tickets_of entries

-- ---- the bytes of entries

abbrev pub HasBytes : List ℕ → Option SharedIs → Type 0
HasBytes bytes None = ⊥
HasBytes bytes (Some entry) = entry.bytes ≡ bytes

abbrev pub IsOfDigest : List ℕ → Option SharedIs → Type 0
IsOfDigest digest None = ⊥
IsOfDigest digest (Some entry) = sha256 entry.bytes ≡ digest

-- the bytes of some entry have the digest
abbrev pub HasDigest : EntriesAre → List ℕ → Type 0
HasDigest entries digest = (k : ℕ) × IsOfDigest digest (entry_at entries k)

-- ---- what is true of each entry

-- the entry at place k is that of frame k, and a ticket of it is out
abbrev pub Fits : ℕ → Option SharedIs → Type 0
Fits k None = Unit {0}
Fits k (Some entry) = (entry.number ≡ k) × (0 < entry.tickets)

abbrev pub AllFit : EntriesAre → Type 0
AllFit entries = (k : ℕ) → Fits k (entry_at entries k)

-- no two entries have one digest
abbrev pub OneEntryEach : EntriesAre → Type 0
OneEntryEach entries = (digest : List ℕ) (j k : ℕ) → IsOfDigest digest (entry_at entries j) → IsOfDigest digest (entry_at entries k) → j ≡ k

-- entries, how many they are, and how many tickets of them are out
pub record AreCounted (entries : EntriesAre) (shared tickets : ℕ) : Type 0 where
  pub fit : AllFit entries
  pub in_all : shared ≡ entry_count entries
  pub out : tickets ≡ ticket_count entries
  pub few : length entries < 2 ^ 32

-- ---- what becomes of an entry

-- one more ticket is out
abbrev pub one_ticket_more : Option SharedIs → Option SharedIs
one_ticket_more None = None
one_ticket_more (Some entry) = Some (record entry { tickets = entry.tickets + 1 })

-- one ticket is back; the last takes the entry with it
abbrev pub one_ticket_less : Option SharedIs → Option SharedIs
one_ticket_less None = None
one_ticket_less (Some entry) = if nat_lt 1 entry.tickets then Some (record entry { tickets = entry.tickets - 1 }) else None

-- the frame that is free once a ticket is back
abbrev pub freed_frame : Option SharedIs → Option ℕ
freed_frame None = None
freed_frame (Some entry) = if nat_lt 1 entry.tickets then None else Some entry.number
