-- The lines of each answer.
use Rattle.std.specs.Prelude.{ℕ, List, [], ◌∷◌, ◌++◌, Option, Some, None, codes, decimal}
use Rattle.std.specs.List.{flat_map}
use Rattle.hex.specs.Hex.{encode_lower}
use Rattle.guest_log.specs.Stops.{stop_number}
use Rattle.machine_memory.specs.declared.audit.BookCounts.{BookCounts}
use Rattle.monitor.specs.Faults.{fault_text}
use Rattle.reclaim.specs.Levels.{level_name}
use Rattle.monitor_answers.specs.declared.answer.Answer.{Answer}
use Rattle.monitor_answers.specs.declared.answer.Answer.TheVariants.{Done, Guests, Books, Level, Log, Put, Output, Room, Help, Stopped, Refused}
use Rattle.monitor_answers.specs.declared.answer.GuestLine.{GuestLine}
use Rattle.monitor_answers.specs.declared.answer.Way.{Way}
use Rattle.monitor_answers.specs.declared.answer.Way.TheVariants as way
use Rattle.monitor_answers.specs.declared.texts.TheConstants.{HELP}

abbrev pub way_text : Way → List ℕ
way_text way.Runs = codes "run"
way_text way.Held = codes "held"
way_text way.Blocked = codes "blocked"
way_text (way.Stopped number) = codes "stop " ++ decimal number

-- a guest and its pages
abbrev pub pages_text : GuestLine → List ℕ
pages_text line =
    codes "guest " ++ decimal line.guest ++ codes " pages " ++ decimal line.pages ++ codes " resident " ++ decimal line.resident ++ codes " given " ++ decimal line.given
    ++ codes " swapped " ++ decimal line.swapped

-- its shares, and whether it makes steps
abbrev pub standing_text : GuestLine → List ℕ
standing_text line = codes " shares " ++ decimal line.shares ++ codes " " ++ way_text line.way ++ codes "\n"

abbrev pub line_text : GuestLine → List ℕ
line_text line = pages_text line ++ standing_text line

abbrev pub books_text : BookCounts → List ℕ
books_text counts =
    codes "frames " ++ decimal counts.frames ++ codes " free " ++ decimal counts.free ++ codes " private " ++ decimal counts.private ++ codes " shared " ++ decimal counts.shared
    ++ codes " refs " ++ decimal counts.references ++ codes " slots " ++ decimal counts.swapped ++ codes " of " ++ decimal counts.slots ++ codes "\n"

-- digits, or that there is no byte
abbrev pub output_digits : List ℕ → List ℕ
output_digits [] = codes "-"
output_digits (byte ∷ bytes) = encode_lower (byte ∷ bytes)

abbrev pub left_text : ℕ → ℕ → List ℕ
left_text frames slots = codes "room frames " ++ decimal frames ++ codes " slots " ++ decimal slots ++ codes "\n"

abbrev pub room_text : Option (ℕ × ℕ) → List ℕ
room_text None = codes "room none\n"
room_text (Some left) = left_text left.0 left.1

abbrev pub answer_text : Answer → List ℕ
answer_text Done = codes "ok\n"
answer_text (Guests lines) = flat_map line_text lines.items ++ codes "end\n"
answer_text (Books counts) = books_text counts
answer_text (Level level) = codes "level " ++ level_name level ++ codes "\n"
answer_text (Log guest items runs) = codes "log " ++ decimal guest ++ codes " items " ++ decimal items ++ codes " runs " ++ decimal runs ++ codes "\n"
answer_text (Put guest count) = codes "in " ++ decimal guest ++ codes " " ++ decimal count ++ codes "\n"
answer_text (Output guest bytes) = codes "drain " ++ decimal guest ++ codes " " ++ output_digits bytes.items ++ codes "\n"
answer_text (Room left) = room_text left
answer_text Help = HELP.now
answer_text (Stopped stop) = codes "error stop " ++ decimal (stop_number stop) ++ codes "\n"
answer_text (Refused fault) = fault_text fault ++ codes "\n"
