-- Listings: the instructions and bytes that stand in segments, each at its address, and the entry.
use Rattle.std.specs.Prelude.{ℕ, ◌+◌, ◌%◌, Bool, ◌==◌, ◌&&◌, nat_lt, nat_le, if◌then◌else◌, List, [], ◌∷◌, ◌++◌, sum_by, Option, Some, None, unwrap_or, Result, Ok, Err}
use Rattle.std.specs.List.{list_any}
use Rattle.masm_lines.specs.Statements.{Statement, Org, Entry}
use Rattle.masm.specs.Names.{Names, known_address}
use Rattle.masm.specs.Meanings.{Content, item_size, item_of}
use Rattle.masm_lines.specs.Steps.{◌>>=◌}
use Rattle.masm_lines.specs.declared.fault.AsmFault.{AsmFault}
use Rattle.masm_lines.specs.declared.fault.AsmFault.TheVariants as fault

-- a segment: its first address, and what stands from there on, one after the other
pub record Part : Type 0 where
  pub address : ℕ
  pub items : List Content

pub record Listing : Type 0 where
  pub parts : List Part
  pub entry : ℕ

abbrev pub part_size : Part → ℕ
part_size p = sum_by item_size p.items

-- what the lines so far have put: the non-empty segments before the present one, in the source's order, the present one,
-- and the address of the last `.entry`
pub record Output : Type 0 where
  pub earlier : List Part
  pub current : Part
  pub entry : Option ℕ

abbrev pub part_at : ℕ → Part
part_at address = record { address = address; items = [] }

abbrev pub first_output : Output
first_output = record { earlier = []; current = part_at 0x80000000; entry = None }

-- where the next item stands
abbrev pub next_place : Output → ℕ
next_place o = o.current.address + part_size o.current

-- the non-empty segments
abbrev pub parts_of : Output → List Part
parts_of o = if part_size o.current == 0 then o.earlier else o.earlier ++ o.current ∷ []

abbrev pub with_item : Output → Content → Output
with_item o item = record o { current = record { address = o.current.address; items = o.current.items ++ item ∷ [] } }

-- with a statement: `.org` begins a segment, the last `.entry` counts, and the others put an item
abbrev pub with_statement : Names → Output → Option Statement → Result Output AsmFault
with_statement names o None = Ok o
with_statement names o (Some (Org start)) = Ok (record { earlier = parts_of o; current = part_at start; entry = o.entry })
with_statement names o (Some (Entry name)) = known_address names name >>= λ address. Ok (record o { entry = Some address })
with_statement names o (Some s) = item_of names (next_place o) s >>= λ item. Ok (with_item o item)

abbrev pub has_byte_at : ℕ → Part → Bool
has_byte_at address p = nat_le p.address address && nat_lt address (p.address + part_size p)

-- the entry that is named, or the first segment's start
abbrev pub entry_of : Option ℕ → Part → ℕ
entry_of entry first = unwrap_or entry first.address

-- the listing of all lines: it isn't empty, and the entry is a multiple of 4 in a segment
abbrev pub listing_with : Option ℕ → List Part → Result Listing AsmFault
listing_with entry [] = Err fault.Empty
listing_with entry (first ∷ more) =
    if entry_of entry first % 4 == 0 && list_any (has_byte_at (entry_of entry first)) (first ∷ more)
    then Ok (record { parts = first ∷ more; entry = entry_of entry first }) else Err fault.Entry

abbrev pub listing_of : Output → Result Listing AsmFault
listing_of o = listing_with o.entry (parts_of o)
