-- Where each line stands.
use Rattle.std.specs.Prelude.{ℕ, ◌+◌, ◌%◌, Bool, false, not, ◌==◌, ◌&&◌, ◌||◌, nat_lt, nat_le, if◌then◌else◌, List, [], ◌∷◌, ◌++◌, length, Option, Some, None}
use Rattle.std.specs.List.{list_any}
use Rattle.masm.specs.declared.layout.Span.{Span}
use Rattle.masm_lines.specs.Statements.{Statement, Org, size_of, alignment_of}

-- a `Span` is a segment's first address, `start`, and how many bytes it has so far, `size`

-- the non-empty segments before the present one, in the source's order, and the present one
pub record Layout : Type 0 where
  pub earlier : List Span
  pub current : Span

abbrev pub segment_at : ℕ → Span
segment_at start = record { start = start; size = 0 }

-- before the first line
abbrev pub first_layout : Layout
first_layout = record { earlier = []; current = segment_at 0x80000000 }

-- where what follows stands
abbrev pub next_address : Layout → ℕ
next_address l = l.current.start + l.current.size

-- the non-empty segments
abbrev pub spans : Layout → List Span
spans l = if l.current.size == 0 then l.earlier else l.earlier ++ l.current ∷ []

-- the layout after a statement: `.org` begins a segment, and the others lengthen the present one
abbrev pub after_statement : Layout → Option Statement → Layout
after_statement l None = l
after_statement l (Some (Org start)) = record { earlier = spans l; current = segment_at start }
after_statement l (Some s) = record l { current = record l.current { size = l.current.size + size_of s } }

-- some byte is in the span and among the bytes at an address
abbrev pub overlaps : ℕ → ℕ → Span → Bool
overlaps address size span = nat_lt span.start (address + size) && nat_lt address (span.start + span.size)

-- bytes may stand where memory is mapped to no other place: at 80000000 to 9FFFFFFF
abbrev pub is_outside : ℕ → ℕ → Bool
is_outside address size = nat_lt address 0x80000000 || nat_lt 0xa0000000 (address + size)

-- it would be the first content of one segment more than a file may have
abbrev pub is_one_too_many : Layout → Bool
is_one_too_many l = l.current.size == 0 && nat_le 64 (length l.earlier)

-- what has content may not stand here
unfoldable pub is_misplaced : Layout → Statement → Bool
is_misplaced l s =
    nat_lt 0 (size_of s)
    && (not (next_address l % alignment_of s == 0) || (is_outside (next_address l) (size_of s)
    || (list_any (overlaps (next_address l) (size_of s)) l.earlier || is_one_too_many l)))

abbrev pub has_misplaced : Layout → Option Statement → Bool
has_misplaced l None = false
has_misplaced l (Some s) = is_misplaced l s
