-- The items of a log file, version 1: a tag byte, a seat byte, and the item's fields. Numbers have their lowest byte first.
use Rattle.std.specs.Prelude.{ℕ, ◌<◌, ◌≤◌, ◌^◌, List, [], ◌∷◌, ◌++◌, length, All, ⊤}
use Rattle.std.specs.List.{flat_map}
use Rattle.std.specs.Int.{to_le_bytes, w16, w32}
use Rattle.items.specs.declared.item.What.{What}
use Rattle.items.specs.declared.item.What.TheVariants as what
use Rattle.items.specs.declared.entry.Entry.{Entry}
use Rattle.items.specs.declared.entry.Entry.TheVariants as entry

abbrev pub half : ℕ → List ℕ
half number = to_le_bytes w16 number

abbrev pub word : ℕ → List ℕ
word number = to_le_bytes w32 number

abbrev pub tag_of : What → ℕ
tag_of what.Step = 1
tag_of (what.In byte) = 2
tag_of what.Drain = 3
tag_of (what.Target pages) = 4
tag_of (what.Poke register value) = 5
tag_of (what.Write address bytes) = 6

-- the fields. Those of a step are the count 1
abbrev pub fields_of : What → List ℕ
fields_of what.Step = word 1
fields_of (what.In byte) = byte ∷ []
fields_of what.Drain = []
fields_of (what.Target pages) = word pages
fields_of (what.Poke register value) = register ∷ word value
fields_of (what.Write address bytes) = word address ++ half (length bytes) ++ bytes

-- one item of the file: steps and their count, or another item
unfoldable pub entry_bytes : Entry → List ℕ
entry_bytes (entry.Steps seat count) = 1 ∷ seat ∷ word count
entry_bytes (entry.One item) = tag_of item.what ∷ item.seat ∷ fields_of item.what

abbrev pub body_bytes : List Entry → List ℕ
body_bytes = flat_map entry_bytes

-- what fits the fields of an item that isn't steps
abbrev pub FitsFields : What → Type 0
FitsFields what.Step = ⊥
FitsFields (what.In byte) = byte < 256
FitsFields what.Drain = ⊤
FitsFields (what.Target pages) = pages < 2 ^ 32
FitsFields (what.Poke register value) = (register < 38) × (value < 2 ^ 32)
FitsFields (what.Write address bytes) = (address < 2 ^ 32) × (length bytes < 2 ^ 16) × All (λ byte. byte < 256) bytes

-- an entry that one item of the file can hold: 1 to 4294967295 steps, or another item, of one of the seats 0 to 3
abbrev pub IsFileEntry : Entry → Type 0
IsFileEntry (entry.Steps seat count) = (seat < 4) × (1 ≤ count) × (count < 2 ^ 32)
IsFileEntry (entry.One item) = (item.seat < 4) × FitsFields item.what
