-- Which events a header allows.
use Rattle.std.specs.Prelude.{ℕ, Bool, true, false, ◌&&◌, nat_lt, nat_le, List, length, Option, Some, None, slice_get}
use Rattle.std.specs.List.{list_all}
use Rattle.script.specs.Actions.{Action, Single, StepEach, RunEach, ActionLine, Block}
use Rattle.script.specs.Events.{Event, Step, Run, In, Drain, Target, Poke, Write, Probe, Fault, Scan, Evict, Sample, Level, Audit, AuditGuest, Dump, Stats, Damage}
use Rattle.script.specs.Headers.{GuestLine, Header}

-- so many pages are at most the guest's, which there is
abbrev pub has_pages : Option GuestLine → ℕ → Bool
has_pages None count = false
has_pages (Some line) count = nat_le count line.pages

-- The guest, and the slot, must be there. A balloon has at most its guest's pages, registers have the numbers 0 to 37, 1 to
-- 1,024 bytes are written or probed, and a slot has 4,096 bytes. Pages aren't looked at.
unfoldable pub is_allowed : List GuestLine → ℕ → Event → Bool
is_allowed guests slots (Step guest count) = nat_lt guest (length guests)
is_allowed guests slots (Run guest count) = nat_lt guest (length guests)
is_allowed guests slots (In guest bytes) = nat_lt guest (length guests)
is_allowed guests slots (Drain guest) = nat_lt guest (length guests)
is_allowed guests slots (Target guest pages) = has_pages (slice_get guests guest) pages
is_allowed guests slots (Poke guest register value) = nat_lt guest (length guests) && nat_le register 37
is_allowed guests slots (Write guest address bytes) = nat_lt guest (length guests) && (nat_le 1 (length bytes) && nat_le (length bytes) 1024)
is_allowed guests slots (Probe guest address count) = nat_lt guest (length guests) && (nat_le 1 count && nat_le count 1024)
is_allowed guests slots (Fault guest) = nat_lt guest (length guests)
is_allowed guests slots (Scan guest page) = nat_lt guest (length guests)
is_allowed guests slots (Evict guest page) = nat_lt guest (length guests)
is_allowed guests slots Sample = true
is_allowed guests slots Level = true
is_allowed guests slots Audit = true
is_allowed guests slots (AuditGuest guest) = nat_lt guest (length guests)
is_allowed guests slots (Dump guest) = nat_lt guest (length guests)
is_allowed guests slots (Stats guest) = nat_lt guest (length guests)
is_allowed guests slots (Damage slot byte) = nat_lt slot slots && nat_le byte 4095

-- whichever guests there are may all make steps
unfoldable pub may_be_done : List GuestLine → ℕ → Action → Bool
may_be_done guests slots (Single event) = is_allowed guests slots event
may_be_done guests slots (StepEach count) = true
may_be_done guests slots (RunEach count) = true

-- the same of a header, and of the lines of a block
abbrev pub allows : Header → Action → Bool
allows header action = may_be_done header.guests header.slots action

abbrev pub allows_lines : Header → List ActionLine → Bool
allows_lines header lines = list_all (λ line. allows header line.action) lines

abbrev pub allows_block : Header → Block → Bool
allows_block header block = allows_lines header block.lines
