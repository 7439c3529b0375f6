-- What an access reaches, and which pages are there for it.
use Rattle.std.proofs.Common.{ℕ, ◌≡◌, ◌⊎◌, inl, inr, ◌+◌, ◌*◌, ◌/◌, ◌%◌, ◌<◌, ◌≤◌, ◌↔◌, nat_lt, nat_le, Bool, true, false, IsTrue, if◌then◌else◌, List, length, Option, Some, None, Ok, refl, sym, ap, ◌∙◌, arith}
use Rattle.std.proofs.lemmas.Bool.{cases_lt, lt-ltb, le-ltb, le-leb, lt-leb, leb-true, leb-false}
use Rattle.word32.specs.Pages.{page_number}
use Rattle.mips_tlb.specs.declared.kind.Kind.{Kind}
use Rattle.mips_tlb.specs.declared.kind.Kind.TheVariants.{Fetch, Store}
use Rattle.machine.specs.declared.access.Why.{Why}
use Rattle.machine.specs.declared.access.Size.{Size}
use Rattle.machine.specs.declared.access.Size.TheVariants.{Byte, Half, Word, Left, Right}
use Rattle.machine.specs.Board.{Board, Reach, reach, is_in_memory, first_byte, bytes_of}
use Rattle.machine.specs.Board.Reach.{InMemory, Nowhere}
use Rattle.machine.specs.Bus.{Lacks, IsReady, ready_answer}
use Rattle.machine.specs.Places.{alignment}
use Rattle.machine.proofs.Boards.{reach_fits}
use Rattle.guest_pages.specs.declared.page.Page.{Page}
use Rattle.guest_pages.specs.declared.page.PageKind.{PageKind}
use Rattle.guest_pages.specs.declared.page.PageKind.TheVariants.{Zero, Given, Private, Shared, Swapped}
use Rattle.guest_pages.specs.Pages.{kind_at}
use Rattle.guest_pages.specs.Outline.{outline}
use Rattle.guest_pages.proofs.Outlines.{outline_kind}
use Rattle.guest_bus.specs.Lacking.{lack_of, lacks_in}

-- an access whose address is a multiple of its size ends in the page that it begins in
ends_inside : (size : Size) (at n : ℕ) → at % alignment size ≡ 0 → at / 4096 < n → first_byte size at + bytes_of size ≤ n * 4096
ends_inside Byte at n aligned h = omega arith
ends_inside Half at n aligned h = omega arith
ends_inside Word at n aligned h = omega arith
ends_inside Left at n aligned h = omega arith
ends_inside Right at n aligned h = omega arith

ends_past : (size : Size) (at n : ℕ) → n ≤ at / 4096 → n * 4096 < first_byte size at + bytes_of size
ends_past Byte at n h = omega arith
ends_past Half at n h = omega arith
ends_past Word at n h = omega arith
ends_past Left at n h = omega arith
ends_past Right at n h = omega arith

-- so its page decides whether it reaches memory
pub in_memory_by_page : (size : Size) (at n bytes : ℕ) → at % alignment size ≡ 0 → bytes ≡ n * 4096 → nat_lt (page_number at) n ≡ nat_le (first_byte size at + bytes_of size) bytes
in_memory_by_page size at n bytes aligned e = elim (cases_lt (at / 4096) n) [
  | inl h ↦ lt-ltb (at / 4096) n h ∙ sym (le-leb (first_byte size at + bytes_of size) bytes (omega (arith, e, ends_inside size at n aligned h)))
  | inr h ↦ le-ltb (at / 4096) n h ∙ sym (lt-leb (first_byte size at + bytes_of size) bytes (omega (arith, e, ends_past size at n h)))
]

-- the aligned word that has an address lies in its page
pub word_of_page : (at : ℕ) → page_number (at / 4 * 4) ≡ page_number at
word_of_page at = omega arith

fetched_inside : (test : Bool) (lack : Option Why) (page : ℕ) → ready_answer (if test then InMemory else Nowhere) lack page ≡ Ok tt → test ≡ true
fetched_inside true lack page e = refl
fetched_inside false lack page e = absurd (cc)

-- a fetch that is answered is of memory
pub fetch_is_inside : (w : Board) (lacks : Lacks) (at n : ℕ) → IsReady w lacks Fetch Word at → length w.memory ≡ n * 4096 → at < n * 4096
fetch_is_inside w lacks at n ready size =
    let inside = leb-true (at + 4) (length w.memory) (fetched_inside (is_in_memory w Word at) (lacks (page_number at) Fetch) (page_number at) ready) in
    omega (arith, inside, size)

no_lack : (test : Bool) (beside : Reach) (lack : Option Why) (page : ℕ) → test ≡ true → ready_answer (if test then InMemory else beside) lack page ≡ Ok tt → lack ≡ None
no_lack true beside None page e ready = refl
no_lack true beside (Some why) page e ready = absurd (cc)
no_lack false beside lack page e ready = absurd (cc)

only_private : (kind : PageKind) → lack_of kind Store ≡ None → kind ≡ Private
only_private Zero e = absurd (cc)
only_private Given e = absurd (cc)
only_private Private e = refl
only_private Shared e = absurd (cc)
only_private Swapped e = absurd (cc)

-- a store to memory that is answered is to a page with a frame of its own
pub stored_is_private : (w : Board) (pages : List Page) (size : Size) (at : ℕ) → IsReady w (lacks_in (outline pages)) Store size at → is_in_memory w size at ≡ true
    → kind_at pages (page_number at) ≡ Private
stored_is_private w pages size at ready inside =
    sym (outline_kind pages (page_number at))
    ∙ only_private (kind_at (outline pages) (page_number at))
    (no_lack (is_in_memory w size at) _ (lacks_in (outline pages) (page_number at) Store) (page_number at) inside ready)

-- an access beside memory reaches no memory
pub beside_memory : (w : Board) (kind : Kind) (size : Size) (at : ℕ) → is_in_memory w size at ≡ false → reach w kind size at ≡ InMemory → ⊥
beside_memory w kind size at beside e =
    let past = leb-false (first_byte size at + bytes_of size) (length w.memory) beside in
    let fits = reach_fits w kind size at e in
    omega (arith, past, fits)
