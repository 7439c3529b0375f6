-- The pages that bytes from a virtual address on lie in.
use Rattle.std.proofs.Common.{ℕ, zero, suc, ◌≡◌, ◌↔◌, ◌+◌, ◌*◌, ◌/◌, ◌%◌, ◌^◌, ◌<◌, ◌≤◌, ◌⊎◌, inl, inr, Bool, true, false, ◌&&◌, ◌||◌, ◌==◌, not, nat_lt, nat_le, is_some, if◌then◌else◌, find, List, length, Option, Some, None, Ok, Err, refl, sym, ap, subst, ◌∙◌, arith}
use Rattle.std.proofs.lemmas.Bool.{cases_lt}
use Rattle.std.proofs.lemmas.Bool.Decides.{nat_tests}
use Rattle.word32.specs.Pages.{page_number}
use Rattle.mips_cp0.specs.Bits.{has_bits}
use Rattle.mips_cp0.specs.Status.{status_erl}
use Rattle.mips_cp0.specs.Registers.{SystemRegisters, current_asid}
use Rattle.mips_cp0.specs.declared.exception.Exc.{Exc}
use Rattle.mips_cp0.specs.declared.exception.Exc.TheVariants.{Modified, TlbLoad}
use Rattle.mips_tlb.specs.declared.tlb.PageHalf.{PageHalf}
use Rattle.mips_tlb.specs.declared.tlb.Entry.{Entry}
use Rattle.mips_tlb.specs.declared.kind.Kind.TheVariants.{Load}
use Rattle.mips_tlb.specs.Entries.{matches}
use Rattle.mips_tlb.specs.Segments.{is_mapped, unmapped_address}
use Rattle.mips_tlb.specs.Translation.{half_of, through_half, through_entry, answer_of, probed}
use Rattle.machine.specs.Processor.{Processor}
use Rattle.machine.specs.Board.{Board}
use Rattle.machine.specs.Step.{Machine, machine_with}
use Rattle.machine.specs.Replies.{in_memory, probe, byte_in, byte_at, with_next, bytes_at, SomePlaceIn}
use Rattle.machine.proofs.Replies.{moved, one_more}
use Rattle.machine.proofs.Bytes.{not_readable}
use Rattle.machine.proofs.Writing.{place_same}
use Rattle.guest.specs.Guests.{GuestIs, view_of, standing, without_pages, Intact, IsSized, LiesIn}
use Rattle.guest.proofs.Happening.{inside, placed_same}
use Rattle.guest.proofs.Showing.{settled_memory}
use Rattle.guest_pages.specs.Pages.{AreWhole}
use Rattle.guest_pages.proofs.Memory.{length_of_memory}
use Rattle.guest_bus.specs.Buses.{GuestBusIs, IsSettled, board_of}

-- ---- addresses of one page lead to one page

below_same : (a b n : ℕ) → (a < n → b < n) → (b < n → a < n) → nat_lt a n ≡ nat_lt b n
below_same a b n f g = grind (arith, nat_tests)

module _ (a b : ℕ) (same : a / 4096 ≡ b / 4096) where
  low_same : nat_lt a 0x80000000 ≡ nat_lt b 0x80000000
  low_same = below_same a b 0x80000000 (λ h. omega (arith, same, h)) (λ h. omega (arith, same, h))

  high_same : nat_le 0xc0000000 a ≡ nat_le 0xc0000000 b
  high_same = grind (arith, nat_tests, same)

  mapped_same : (status : ℕ) → is_mapped status a ≡ is_mapped status b
  mapped_same status = λ i. (low_same i && not (has_bits status_erl status)) || high_same i

  matches_same : (asid : ℕ) (entry : Entry) → matches a asid entry ≡ matches b asid entry
  matches_same asid entry =
      let pair : a / 2 ^ 13 ≡ b / 2 ^ 13 = omega (arith, same) in
      ap (λ (n : ℕ). entry.vpn2 == n && (entry.global || entry.asid == asid)) pair

  half_same : (entry : Entry) → half_of a entry ≡ half_of b entry
  half_same entry =
      let bit : a / 2 ^ 12 % 2 ≡ b / 2 ^ 12 % 2 = ap (λ (n : ℕ). n % 2) same in
      ap (λ (n : ℕ). if n == 0 then entry.even else entry.odd) bit

  through_valid : (valid : Bool) (dirty : Bool) (pfn at at' : ℕ) (e e' f f' : Exc)
      → answer_of (if not valid then Err e else if false && not dirty then Err f else Ok (pfn * 2 ^ 12 + a % 2 ^ 12)) ≡ Some at
      → answer_of (if not valid then Err e' else if false && not dirty then Err f' else Ok (pfn * 2 ^ 12 + b % 2 ^ 12)) ≡ Some at' → page_number at ≡ page_number at'
  through_valid true dirty pfn at at' e e' f f' found found' =
      let here : pfn * 2 ^ 12 + a % 2 ^ 12 ≡ at = cc in
      let there : pfn * 2 ^ 12 + b % 2 ^ 12 ≡ at' = cc in
      omega (arith, here, there)
  through_valid false dirty pfn at at' e e' f f' found found' = absurd (cc)

  through_same : (entry : Option Entry) (at at' : ℕ) → answer_of (through_entry Load a entry) ≡ Some at → answer_of (through_entry Load b entry) ≡ Some at' → page_number at ≡ page_number at'
  through_same None at at' found found' = absurd (cc)
  through_same (Some entry) at at' found found' =
      let half = half_of a entry in
      through_valid half.valid half.dirty half.pfn at at' (TlbLoad a false) (TlbLoad b false) (Modified a) (Modified b) found
      (subst (λ (h : PageHalf). answer_of (through_half Load b h) ≡ Some at') (sym (half_same entry)) found')

  unmapped_same : (is_low : Bool) (at at' : ℕ) → nat_lt a 0x80000000 ≡ is_low → nat_lt b 0x80000000 ≡ is_low → Some (if is_low then a else a % 2 ^ 29) ≡ Some at → Some (if is_low then b else b % 2 ^ 29) ≡ Some at'
      → page_number at ≡ page_number at'
  unmapped_same true at at' is is' found found' =
      let here : a ≡ at = cc in
      let there : b ≡ at' = cc in
      omega (arith, same, here, there)
  unmapped_same false at at' is is' found found' =
      let here : a % 2 ^ 29 ≡ at = cc in
      let there : b % 2 ^ 29 ≡ at' = cc in
      omega (arith, same, here, there)

  by_segment : (entries : List Entry) (r : SystemRegisters) (mapped : Bool) (at at' : ℕ)
      → answer_of (if mapped then through_entry Load a (find (matches a (current_asid r)) entries) else Ok (unmapped_address a)) ≡ Some at
      → answer_of (if mapped then through_entry Load b (find (matches b (current_asid r)) entries) else Ok (unmapped_address b)) ≡ Some at' → page_number at ≡ page_number at'
  by_segment entries r true at at' found found' =
      let entry : find (matches a (current_asid r)) entries ≡ find (matches b (current_asid r)) entries = λ i. find (λ (e : Entry). matches_same (current_asid r) e i) entries in
      through_same (find (matches a (current_asid r)) entries) at at' found
      (subst (λ (e : Option Entry). answer_of (through_entry Load b e) ≡ Some at') (sym entry) found')
  by_segment entries r false at at' found found' =
      unmapped_same (nat_lt a 0x80000000) at at' refl (sym low_same) found
      (subst (λ (t : Bool). Some (if t then b else b % 2 ^ 29) ≡ Some at') (sym low_same) found')

  probed_same : (entries : List Entry) (r : SystemRegisters) (at at' : ℕ) → probed entries r a ≡ Some at → probed entries r b ≡ Some at' → page_number at ≡ page_number at'
  probed_same entries r at at' found found' =
      by_segment entries r (is_mapped r.status a) at at' found
      (subst (λ (t : Bool). answer_of (if t then through_entry Load b (find (matches b (current_asid r)) entries) else Ok (unmapped_address b)) ≡ Some at') (sym (mapped_same r.status)) found')

-- what is found in memory was found before
found_before : (memory : List ℕ) (place : Option ℕ) (at : ℕ) → in_memory memory place ≡ Some at → place ≡ Some at
found_before memory None at e = absurd (cc)
found_before memory (Some place) at e = by_test (nat_lt place (length memory)) e
  where
    by_test : (test : Bool) → (if test then Some place else None) ≡ Some at → Some place ≡ Some at
    by_test true found = found
    by_test false found = absurd (cc)

one_page : (m : Machine) (a b page page' : ℕ) → a / 4096 ≡ b / 4096 → LiesIn m a page → LiesIn m b page' → page ≡ page'
one_page m a b page page' same (at, found, is) (at', found', is') =
    let places = probed_same a b same m.cpu.tlb m.cpu.cp0 at at' (found_before m.board.memory (probed m.cpu.tlb m.cpu.cp0 a) at found) (found_before m.board.memory (probed m.cpu.tlb m.cpu.cp0 b) at' found') in
    sym is ∙ places ∙ is'

-- ---- the pages of the first byte and of the last

-- some bytes reach into two pages of virtual memory at most
one_of_two : (address k last : ℕ) → address < 2 ^ 32 → k ≤ last → last < 1024 → (moved address k / 4096 ≡ moved address 0 / 4096) ⊎ (moved address k / 4096 ≡ moved address last / 4096)
one_of_two address k last small within few = by (cases_lt (address % 4096 + k) 4096)
  where
    by : (address % 4096 + k < 4096) ⊎ (4096 ≤ address % 4096 + k) → (moved address k / 4096 ≡ moved address 0 / 4096) ⊎ (moved address k / 4096 ≡ moved address last / 4096)
    by (inl first) = inl (omega (arith, first, small))
    by (inr second) = inr (omega (arith, second, small, within, few))

pub reached_pages : (m : Machine) (address count first last : ℕ) → address < 2 ^ 32 → 0 < count → count ≤ 1024 → LiesIn m (moved address 0) first → ((k : ℕ) → suc k ≡ count → LiesIn m (moved address k) last)
    → (page : ℕ) → SomePlaceIn m address count page ↔ ((page ≡ first) ⊎ (page ≡ last))
reached_pages m address zero first last small some few at_first at_last page = absurd (omega (arith, some))
reached_pages m address (suc n) first last small some few at_first at_last page = (to, back)
  where
    to : SomePlaceIn m address (suc n) page → (page ≡ first) ⊎ (page ≡ last)
    to (k, at, below, found, is) =
        elim (one_of_two address k n small (omega (arith, below)) (omega (arith, few))) [
          | inl same ↦ inl (one_page m (moved address k) (moved address 0) page first same (at, found, is) at_first)
          | inr same ↦ inr (one_page m (moved address k) (moved address n) page last same (at, found, is) (at_last n refl))
        ]

    back : (page ≡ first) ⊎ (page ≡ last) → SomePlaceIn m address (suc n) page
    back (inl same) = let (at, found, is) = at_first in (0, at, omega arith, found, is ∙ sym same)
    back (inr same) = let (at, found, is) = at_last n refl in (n, at, omega arith, found, is ∙ sym same)

pub turned : (m : Machine) (address count first last : ℕ) → ((page : ℕ) → SomePlaceIn m address count page ↔ ((page ≡ first) ⊎ (page ≡ last))) → (page : ℕ) → SomePlaceIn m address count page ↔ ((page ≡ last) ⊎ (page ≡ first))
turned m address count first last reached page = (
  λ some. swapped (reached page).0 some,
  λ which. (reached page).1 (elim which [
    | inl a ↦ inr a
    | inr b ↦ inl b
  ]),
)
  where
    swapped : (SomePlaceIn m address count page → (page ≡ first) ⊎ (page ≡ last)) → SomePlaceIn m address count page → (page ≡ last) ⊎ (page ≡ first)
    swapped f some =
        elim (f some) [
          | inl a ↦ inr a
          | inr b ↦ inl b
        ]

-- a place in memory lies in one of its pages
pub inside_pages : (m : Machine) (address page count : ℕ) → length m.board.memory ≡ count * 4096 → LiesIn m address page → page < count
inside_pages m address page count size (at, found, is) =
    let below = inside m.board.memory (probed m.cpu.tlb m.cpu.cp0 address) at found in
    omega (arith, below, size, is)

pub sized : (b : GuestBusIs) → AreWhole b.pages → IsSettled b → length (board_of b).memory ≡ length b.pages * 4096
sized b whole settled = ap length (settled_memory b settled) ∙ length_of_memory b.pages whole

-- ---- guests of which only pages move, and their views

pub standing_sized : (g : GuestIs) → Intact g → IsSized g → length (view_of g).board.memory ≡ length (standing g).board.memory
standing_sized g intact sized = intact.shows.size ∙ sym sized

-- ---- machines of one processor whose memories have one size

pub places_alike : (cpu : Processor) (a b : Board) → length b.memory ≡ length a.memory → (address count page : ℕ) → SomePlaceIn (machine_with cpu a) address count page → SomePlaceIn (machine_with cpu b) address count page
places_alike cpu a b size address count page (k, at, below, found, is) = (k, at, below, place_same cpu a b (moved address k) size ∙ found, is)

none_by : (x y : Option (List ℕ)) → is_some x ≡ is_some y → x ≡ None → y ≡ None
none_by x None same none = refl
none_by x (Some bytes) same none = absurd (no_true (sym same ∙ ap is_some none))
  where
    no_true : true ≡ false → ⊥
    no_true e = cc

pub none_alike : (cpu : Processor) (a b : Board) → length b.memory ≡ length a.memory → (address count : ℕ) → bytes_at (machine_with cpu a) address count ≡ None → bytes_at (machine_with cpu b) address count ≡ None
none_alike cpu a b size address count none =
    none_by (bytes_at (machine_with cpu a) address count) (bytes_at (machine_with cpu b) address count) (sym (placed_same cpu a b address count size)) none

-- ---- one byte more

no_bytes : (bytes : Option (List ℕ)) → is_some bytes ≡ false → bytes ≡ None
no_bytes None e = refl
no_bytes (Some bytes) e = absurd (cc)

pub none_at : (m : Machine) (address k count : ℕ) → k < count → probe m (moved address k) ≡ None → bytes_at m address count ≡ None
none_at m address k count below none =
    no_bytes (bytes_at m address count) (not_readable m address k count below (ap (λ (place : Option ℕ). is_some (byte_in m.board.memory place)) none))

next_placed : (before : Option (List ℕ)) (byte : Option ℕ) → is_some before ≡ true → is_some byte ≡ true → is_some (with_next before byte) ≡ true
next_placed None byte e f = absurd (cc)
next_placed (Some bytes) None e f = absurd (cc)
next_placed (Some bytes) (Some byte) e f = refl

pub more_placed : (m : Machine) (address k page : ℕ) → is_some (bytes_at m address k) ≡ true → LiesIn m (moved address k) page → is_some (bytes_at m address (k + 1)) ≡ true
more_placed m address k page before (at, found, is) =
    ap is_some (one_more m address k)
    ∙ next_placed (bytes_at m address k) (byte_at m (moved address k)) before (ap (λ (place : Option ℕ). is_some (byte_in m.board.memory place)) found)

pub first_placed : (m : Machine) (address page : ℕ) → LiesIn m (moved address 0) page → is_some (bytes_at m address 1) ≡ true
first_placed m address page lies = more_placed m address 0 page refl lies

-- the first byte is at the address
pub at_address : (m : Machine) (address page : ℕ) → address < 2 ^ 32 → LiesIn m address page → LiesIn m (moved address 0) page
at_address m address page small lies = let same : moved address 0 ≡ address = omega (arith, small) in subst (λ (a : ℕ). LiesIn m a page) (sym same) lies

same_processor : (P : Machine → Type 0) (cpu cpu' : Processor) (w : Board) → cpu ≡ cpu' → P (machine_with cpu w) → P (machine_with cpu' w)
same_processor P cpu cpu' w same p = subst (λ (c : Processor). P (machine_with c w)) same p

-- the places of an intact guest are those of its view
pub view_none : (g : GuestIs) (address count : ℕ) → Intact g → IsSized g → (bytes_at (standing g) address count ≡ None) ↔ (bytes_at (view_of g) address count ≡ None)
view_none g address count intact sized =
    let v = view_of g in
    let size = standing_sized g intact sized in (
      λ none. same_processor (λ (m : Machine). bytes_at m address count ≡ None) g.cpu v.cpu v.board intact.shows.cpu (none_alike g.cpu (board_of g.bus) v.board size address count none),
      λ none. none_alike g.cpu v.board (board_of g.bus) (sym size) address count (same_processor (λ (m : Machine). bytes_at m address count ≡ None) v.cpu g.cpu v.board (sym intact.shows.cpu) none),
    )

pub view_places : (g : GuestIs) (address count page : ℕ) → Intact g → IsSized g → SomePlaceIn (standing g) address count page ↔ SomePlaceIn (view_of g) address count page
view_places g address count page intact sized =
    let v = view_of g in
    let size = standing_sized g intact sized in (
      λ some. same_processor (λ (m : Machine). SomePlaceIn m address count page) g.cpu v.cpu v.board intact.shows.cpu (places_alike g.cpu (board_of g.bus) v.board size address count page some),
      λ some. places_alike g.cpu v.board (board_of g.bus) (sym size) address count page (same_processor (λ (m : Machine). SomePlaceIn m address count page) v.cpu g.cpu v.board (sym intact.shows.cpu) some),
    )

-- and they stay where only pages move
pub moved_none : (g g' : GuestIs) (address count : ℕ) → without_pages g' ≡ without_pages g → length g'.bus.pages ≡ length g.bus.pages → IsSized g → IsSized g'
    → bytes_at (standing g') address count ≡ None → bytes_at (standing g) address count ≡ None
moved_none g g' address count rest pages sized sized' none =
    let size : length (standing g').board.memory ≡ length (standing g).board.memory = omega (arith, pages, sized, sized') in
    none_alike g.cpu (board_of g'.bus) (board_of g.bus) (sym size) address count
    (same_processor (λ (m : Machine). bytes_at m address count ≡ None) g'.cpu g.cpu (board_of g'.bus) (ap (λ (x : GuestIs). x.cpu) rest) none)

pub moved_places : (g g' : GuestIs) (address count page : ℕ) → without_pages g' ≡ without_pages g → length g'.bus.pages ≡ length g.bus.pages → IsSized g → IsSized g'
    → SomePlaceIn (standing g') address count page → SomePlaceIn (standing g) address count page
moved_places g g' address count page rest pages sized sized' some =
    let size : length (standing g').board.memory ≡ length (standing g).board.memory = omega (arith, pages, sized, sized') in
    places_alike g.cpu (board_of g'.bus) (board_of g.bus) (sym size) address count page
    (same_processor (λ (m : Machine). SomePlaceIn m address count page) g'.cpu g.cpu (board_of g'.bus) (ap (λ (x : GuestIs). x.cpu) rest) some)
