-- Reading an item of a log file from the front of some bytes: the item and the bytes behind it, or nothing where the bytes
-- begin with no item.
use Rattle.std.specs.Prelude.{◌≡◌, ℕ, ◌==◌, nat_lt, if◌then◌else◌, List, [], ◌∷◌, length, take, drop, Option, Some, None, Result, Ok, Err}
use Rattle.std.specs.Int.{from_le_bytes, w16, w32}
use Rattle.items.specs.declared.item.What.{What}
use Rattle.items.specs.declared.item.What.TheVariants as what
use Rattle.items.specs.declared.entry.Entry.{Entry}
use Rattle.items.specs.declared.entry.Entry.TheVariants as entry
use Rattle.logfile.specs.declared.fault.LogFault.TheVariants as fault
use Rattle.logfile.specs.declared.fault.ReadError.{ReadError}
use Rattle.logfile.specs.declared.fault.ReadError.TheVariants as error

-- a value and the bytes behind it, where there is one
abbrev pub Read : Type 0 → Type 0
Read A = Option (A × List ℕ)

-- what is read next, with the value before it
infixl 10 ◌>>=◌
abbrev pub ◌>>=◌ : {A B : Type 0} → Read A → (A × List ℕ → Read B) → Read B
(Some x) >>= next = next x
None >>= next = None

abbrev pub byte_at : List ℕ → Read ℕ
byte_at [] = None
byte_at (byte ∷ rest) = Some (byte, rest)

abbrev pub half_at : List ℕ → Read ℕ
half_at bytes = if nat_lt (length bytes) 2 then None else Some (from_le_bytes w16 (take 2 bytes), drop 2 bytes)

abbrev pub word_at : List ℕ → Read ℕ
word_at bytes = if nat_lt (length bytes) 4 then None else Some (from_le_bytes w32 (take 4 bytes), drop 4 bytes)

abbrev pub bytes_at : ℕ → List ℕ → Read (List ℕ)
bytes_at count bytes = if nat_lt (length bytes) count then None else Some (take count bytes, drop count bytes)

unfoldable pub input_at : List ℕ → Read What
input_at bytes = byte_at bytes >>= λ byte. Some (what.In byte.0, byte.1)

unfoldable pub target_at : List ℕ → Read What
target_at bytes = word_at bytes >>= λ pages. Some (what.Target pages.0, pages.1)

unfoldable pub poke_at : List ℕ → Read What
poke_at bytes =
    byte_at bytes >>= λ register.
    if nat_lt register.0 38
    then (word_at register.1 >>= λ value. Some (what.Poke register.0 value.0, value.1))
    else None

unfoldable pub write_at : List ℕ → Read What
write_at bytes =
    word_at bytes >>= λ address.
    half_at address.1 >>= λ count.
    bytes_at count.0 count.1 >>= λ written.
    Some (what.Write address.0 written.0, written.1)

-- the fields behind a tag that isn't that of steps
unfoldable pub what_at : ℕ → List ℕ → Read What
what_at tag bytes =
    if tag == 2 then input_at bytes else
    if tag == 3 then Some (what.Drain, bytes) else
    if tag == 4 then target_at bytes else
    if tag == 5 then poke_at bytes else
    if tag == 6 then write_at bytes else None

-- the fields of steps of a seat
unfoldable pub steps_at : ℕ → List ℕ → Read Entry
steps_at seat bytes =
    word_at bytes >>= λ count. if count.0 == 0 then None else Some (entry.Steps seat count.0, count.1)

-- what stands behind a tag and a seat
unfoldable pub fields_at : ℕ → ℕ → List ℕ → Read Entry
fields_at tag seat bytes =
    if tag == 1 then steps_at seat bytes
    else what_at tag bytes >>= λ read. Some (entry.One (record { seat = seat; what = read.0 }), read.1)

unfoldable pub entry_at : List ℕ → Read Entry
entry_at bytes =
    byte_at bytes >>= λ tag.
    byte_at tag.1 >>= λ seat.
    if nat_lt seat.0 4 then fields_at tag.0 seat.0 seat.1 else None

-- What a function returned, seen by view, is what reading gives, unless memory was wanted.
abbrev pub Refuses : {A : Type 0} → ReadError → Read A → Type 0
Refuses (error.Fault f) read = (read ≡ None) × (f ≡ fault.Body)
Refuses error.Memory read = Unit {0}

abbrev pub Gives : {A X : Type 0} → (X → A × List ℕ) → Result X ReadError → Read A → Type 0
Gives view (Ok x) read = read ≡ Some (view x)
Gives view (Err e) read = Refuses e read
