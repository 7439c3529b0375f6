-- The first words of lines.
use Rattle.std.specs.Prelude.{ℕ, if◌then◌else◌, List, [], ◌∷◌, codes, Option, Some, None}
use Rattle.std.specs.Str.{bytes_eq}
use Rattle.script.specs.declared.name.HeaderName.{HeaderName}
use Rattle.script.specs.declared.name.HeaderName.TheVariants.{Frames, Slots, Seed, Guest, Fail, Admit, Profile}
use Rattle.script.specs.declared.name.EventName.{EventName}
use Rattle.script.specs.declared.name.EventName.TheVariants.{Step, Run, In, Drain, Target, Poke, Write, Probe, Fault, Scan, Evict, Sample, Level, Audit, Dump, Stats, Damage, Repeat, End}

-- what a table has for a text
abbrev pub named : {A : Type 0} → List (List ℕ × A) → List ℕ → Option A
named [] text = None
named (row ∷ rows) text = if bytes_eq row.0 text then Some row.1 else named rows text

abbrev pub header_names : List (List ℕ × HeaderName)
header_names =
    (codes "frames", Frames) ∷ (codes "slots", Slots) ∷ (codes "seed", Seed) ∷ (codes "guest", Guest)
    ∷ (codes "fail", Fail) ∷ (codes "admit", Admit) ∷ (codes "profile", Profile) ∷ []

abbrev pub event_names : List (List ℕ × EventName)
event_names =
    (codes "step", Step) ∷ (codes "run", Run) ∷ (codes "in", In) ∷ (codes "drain", Drain)
    ∷ (codes "target", Target) ∷ (codes "poke", Poke) ∷ (codes "write", Write) ∷ (codes "probe", Probe)
    ∷ (codes "fault", Fault) ∷ (codes "scan", Scan) ∷ (codes "evict", Evict) ∷ (codes "sample", Sample)
    ∷ (codes "level", Level) ∷ (codes "audit", Audit) ∷ (codes "dump", Dump) ∷ (codes "stats", Stats)
    ∷ (codes "damage", Damage) ∷ (codes "repeat", Repeat) ∷ (codes "end", End) ∷ []

unfoldable pub header_name_of : List ℕ → Option HeaderName
header_name_of text = named header_names text

unfoldable pub event_name_of : List ℕ → Option EventName
event_name_of text = named event_names text
