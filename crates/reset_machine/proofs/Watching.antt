-- A memory whose changes are watched: what a store changes is marked, and a page that is put back is as it was at first.
use Rattle.std.proofs.Common.{ℕ, ◌≡◌, ◌⊎◌, inl, inr, ◌+◌, ◌-◌, ◌*◌, ◌/◌, ◌%◌, ◌<◌, ◌≤◌, Bool, true, false, nat_le, if◌then◌else◌, List, length, set, get_or, replicate, Option, Some, None, refl, sym, ap, subst, ◌∙◌, arith, length-set, le-leb}
use Rattle.std.proofs.lemmas.Bool.{cases_lt, cases_eq, true≢false}
use Rattle.std.proofs.lemmas.List.{same_lists, length-replicate}
use Rattle.word32.specs.Pages.{page_number}
use Rattle.word32.specs.Words.{patched}
use Rattle.devices.specs.declared.register.DeviceRegister.{DeviceRegister}
use Rattle.devices.specs.Devices.{DevicesAre}
use Rattle.devices.specs.Registers.{device_register_at, page_to_give}
use Rattle.mips_tlb.specs.declared.kind.Kind.{Kind}
use Rattle.mips_tlb.specs.declared.kind.Kind.TheVariants.{Store}
use Rattle.machine.specs.declared.access.Size.{Size}
use Rattle.machine.specs.declared.access.Size.TheVariants.{Byte, Half, Word, Left, Right}
use Rattle.machine.specs.Bus.{Lacks, IsPlain}
use Rattle.machine.specs.Board.{Board, Reach, reach, page_bytes, first_byte, bytes_of, bytes_after, is_in_memory, is_register_access, register_reach, given_away, touched, board_loaded, board_stored, memory_stored}
use Rattle.machine.specs.Board.Reach.{InMemory, AtRegister, Nowhere}
use Rattle.machine.specs.Places.{alignment}
use Rattle.machine.proofs.Boards.{reach_fits, within_memory, given_away_size}
use Rattle.machine.proofs.Clearing.{other_page_cleared}
use Rattle.machine.proofs.Pages.{Stored, patched_stored, length-page, page_place, same_page, same_place}
use Rattle.machine.proofs.Stores.{length-after, other_page}
use Rattle.reset_machine.specs.Marks.{is_marked, Grows}
use Rattle.reset_machine.specs.Watched.{HasPages, IsWatched, AreGivenMarked}
use Rattle.reset_machine.proofs.Marking.{mark_grows, marked_now, other_mark}

-- ---- at first

pub home_watched : (home memory : List ℕ) (pages : ℕ) (marked : List Bool) → HasPages pages home → memory ≡ home → marked ≡ replicate pages false → IsWatched memory marked home
home_watched home memory pages marked has is none =
    let count : length marked ≡ pages = ap length none ∙ length-replicate pages false in
    let size : length home ≡ length marked * 4096 = has.size ∙ ap (λ (n : ℕ). n * 4096) (sym count) in
    record {
      few = omega (arith, count, has.few);
      size = ap length is ∙ size;
      home_size = size;
      same = λ page there clear. ap (page_bytes page) is;
    }

-- ---- what leaves the memory

loaded_memory : (r : Reach) (at : ℕ) (board : Board) → (board_loaded r at board).memory ≡ board.memory
loaded_memory InMemory at board = refl
loaded_memory (AtRegister r) at board = refl
loaded_memory Nowhere at board = refl

pub still_watched : (old new : List ℕ) (marked : List Bool) (home : List ℕ) → new ≡ old → IsWatched old marked home → IsWatched new marked home
still_watched old new marked home is w = subst (λ (m : List ℕ). IsWatched m marked home) (sym is) w

pub loaded_watched : (r : Reach) (at : ℕ) (old new : Board) (marked : List Bool) (home : List ℕ) → new ≡ board_loaded r at old → IsWatched old.memory marked home → IsWatched new.memory marked home
loaded_watched r at old new marked home is w = still_watched old.memory new.memory marked home (ap (λ (b : Board). b.memory) is ∙ loaded_memory r at old) w

pub touched_watched : (at : ℕ) (old new : Board) (marked : List Bool) (home : List ℕ) → new ≡ touched at old → IsWatched old.memory marked home → IsWatched new.memory marked home
touched_watched at old new marked home is w = still_watched old.memory new.memory marked home (ap (λ (b : Board). b.memory) is) w

pub devices_watched : (d : DevicesAre) (old new : Board) (marked : List Bool) (home : List ℕ) → new ≡ record old { devices = d } → IsWatched old.memory marked home → IsWatched new.memory marked home
devices_watched d old new marked home is w = still_watched old.memory new.memory marked home (ap (λ (b : Board). b.memory) is) w

-- ---- stores

-- a memory that is as long, and in which each page that is not marked then has stayed, is watched
pub stays_watched : (old new : List ℕ) (before after : List Bool) (home : List ℕ) → IsWatched old before home → Grows before after → length new ≡ length old
    → ((page : ℕ) → page < length after → is_marked page after ≡ false → page_bytes page new ≡ page_bytes page old) → IsWatched new after home
stays_watched old new before after home w grows size stays = record {
  few = omega (arith, grows.size, w.few);
  size = size ∙ w.size ∙ ap (λ (n : ℕ). n * 4096) (sym grows.size);
  home_size = w.home_size ∙ ap (λ (n : ℕ). n * 4096) (sym grows.size);
  same = λ page there clear. stays page there clear ∙ w.same page (omega (arith, there, grows.size)) (grows.kept page clear);
}

-- a store to memory
memory_watched : (size : Size) (value at : ℕ) (board : Board) (before after : List Bool) (home : List ℕ) → first_byte size at + bytes_of size ≤ length board.memory
    → at % alignment size ≡ 0 → IsWatched board.memory before home → Grows before after → is_marked (page_number at) after ≡ true
    → IsWatched (bytes_after size value at board.memory) after home
memory_watched size value at board before after home fits aligned w grows marked =
    stays_watched board.memory (bytes_after size value at board.memory) before after home w grows (length-after size value at board.memory fits)
    (λ page there clear. other_page page size value at board.memory aligned fits (λ same. true≢false (sym marked ∙ ap (λ (p : ℕ). is_marked p after) same ∙ clear)))

-- a page that may have been given
given_watched : (given : Option ℕ) (memory : List ℕ) (before after : List Bool) (home : List ℕ) → IsWatched memory before home → Grows before after
    → ((page : ℕ) → given ≡ Some page → page < length before → is_marked page after ≡ true) → IsWatched (given_away given memory) after home
given_watched None memory before after home w grows marked = stays_watched memory memory before after home w grows refl (λ page there clear. refl)
given_watched (Some given) memory before after home w grows marked =
    stays_watched memory (given_away (Some given) memory) before after home w grows (given_away_size (Some given) memory) (λ page there clear.
    other_page_cleared given memory page (λ same. true≢false
    (sym (marked given refl (omega (arith, there, grows.size, same))) ∙ ap (λ (p : ℕ). is_marked p after) (sym same) ∙ clear)))

-- the page of an access to memory is there
pub page_there : (size : Size) (at pages count : ℕ) → first_byte size at + bytes_of size ≤ count → count ≡ pages * 4096 → page_number at < pages
page_there Byte at pages count fits is = omega arith
page_there Half at pages count fits is = omega arith
page_there Word at pages count fits is = omega arith
page_there Left at pages count fits is = omega arith
page_there Right at pages count fits is = omega arith

-- an access to a page that is there is one to memory
access_inside : (size : Size) (at pages : ℕ) → at % alignment size ≡ 0 → page_number at < pages → first_byte size at + bytes_of size ≤ pages * 4096
access_inside Byte at pages aligned there = omega arith
access_inside Half at pages aligned there = omega arith
access_inside Word at pages aligned there = omega arith
access_inside Left at pages aligned there = omega arith
access_inside Right at pages aligned there = omega arith

no_register : (found : Option DeviceRegister) (d : DeviceRegister) → register_reach found ≡ AtRegister d → found ≡ Some d
no_register None d e = absurd (cc)
no_register (Some r) d e = cc

at_register : (test access : Bool) (found : Option DeviceRegister) (d : DeviceRegister)
    → (if test then InMemory else (if access then register_reach found else Nowhere)) ≡ AtRegister d → (test ≡ false) × (found ≡ Some d)
at_register true access found d e = absurd (cc)
at_register false true found d e = (refl, no_register found d e)
at_register false false found d e = absurd (cc)

beside_memory : (size : Size) (at pages count : ℕ) → at % alignment size ≡ 0 → count ≡ pages * 4096 → nat_le (first_byte size at + bytes_of size) count ≡ false
    → pages ≤ page_number at
beside_memory size at pages count aligned is beside = elim (cases_lt (page_number at) pages) [
  | inl there ↦
      absurd (true≢false (sym (le-leb (first_byte size at + bytes_of size) count (let fits = access_inside size at pages aligned there in omega (arith, fits, is))) ∙ beside))
  | inr h ↦ h
]

module _ (size : Size) (value at : ℕ) (board : Board) (before after : List Bool) (home : List ℕ) where
  store_by_reach : (r : Reach) → reach board Store size at ≡ r → at % alignment size ≡ 0 → IsWatched board.memory before home → Grows before after
      → (page_number at < length before → is_marked (page_number at) after ≡ true) → (length before ≤ page_number at → AreGivenMarked at value after)
      → IsWatched (board_stored r size value at board).memory after home
  store_by_reach InMemory is aligned w grows stored given =
      let fits = reach_fits board Store size at is in
      memory_watched size value at board before after home fits aligned w grows (stored (page_there size at (length before) (length board.memory) fits w.size))
  store_by_reach (AtRegister d) is aligned w grows stored given =
      let found = at_register (is_in_memory board size at) (is_register_access Store size) (device_register_at at) d is in
      let beside = beside_memory size at (length before) (length board.memory) aligned w.size found.0 in
      given_watched (page_to_give d value board.devices) board.memory before after home w grows
      (λ page gives there. given beside d board.devices page found.1 gives (omega (arith, there, grows.size)))
  store_by_reach Nowhere is aligned w grows stored given = stays_watched board.memory board.memory before after home w grows refl (λ page there clear. refl)

  pub store_watched : (new : Board) → new ≡ board_stored (reach board Store size at) size value at board → at % alignment size ≡ 0 → IsWatched board.memory before home
      → Grows before after → (page_number at < length before → is_marked (page_number at) after ≡ true) → (length before ≤ page_number at → AreGivenMarked at value after)
      → IsWatched new.memory after home
  store_watched new is aligned w grows stored given =
      subst (λ (b : Board). IsWatched b.memory after home) (sym is) (store_by_reach (reach board Store size at) refl aligned w grows stored given)

-- a plain store
pub plain_there : (lacks : Lacks) (kind : Kind) (size : Size) (at : ℕ) (board : Board) (marked : List Bool) (home : List ℕ) → IsPlain board lacks kind size at
    → IsWatched board.memory marked home → page_number at < length marked
plain_there lacks kind size at board marked home plain w = page_there size at (length marked) (length board.memory) (within_memory board size at plain.memory) w.size

pub plain_watched : (lacks : Lacks) (size : Size) (value at : ℕ) (board new : Board) (before after : List Bool) (home : List ℕ) → IsPlain board lacks Store size at
    → at % alignment size ≡ 0 → IsWatched board.memory before home → after ≡ set before (page_number at) true → new ≡ memory_stored size value at board
    → IsWatched new.memory after home
plain_watched lacks size value at board new before after home plain aligned w is stored =
    let there = plain_there lacks Store size at board before home plain w in
    subst (λ (b : Board). IsWatched b.memory after home) (sym stored)
    (subst (λ (m : List Bool). IsWatched (memory_stored size value at board).memory m home) (sym is)
    (memory_watched size value at board before (set before (page_number at) true) home (within_memory board size at plain.memory) aligned w (mark_grows before (page_number at))
    (marked_now before (page_number at) there)))

-- ---- back to what it was at first

-- the page that was put is there, and each other page stays
module _ (memory bytes : List ℕ) (page : ℕ) (fits : page * 4096 + 4096 ≤ length memory) (whole : length bytes ≡ 4096) where
  put : Stored memory (patched memory (page * 4096) bytes 4096) bytes (page * 4096) 4096
  put = patched_stored memory bytes (page * 4096) 4096 whole fits

  page_put : page_bytes page (patched memory (page * 4096) bytes 4096) ≡ bytes
  page_put =
      let after = patched memory (page * 4096) bytes 4096 in
      same_lists (page_bytes page after) bytes (length-page page after ∙ omega (arith, put.size, whole)) (λ k d h.
      let within : k < 4096 = omega (arith, length-page page after) in
      let back : page * 4096 + k - page * 4096 ≡ k = omega arith in
      page_place page k d after within ∙ put.inside (page * 4096 + k) d (omega arith) (omega arith) ∙ ap (λ (i : ℕ). get_or bytes i d) back)

  beside_put : (other k : ℕ) → (other ≡ page → ⊥) → k / 4096 ≡ other → (k < page * 4096) ⊎ (page * 4096 + 4096 ≤ k)
  beside_put other k apart is = elim (cases_lt k (page * 4096)) [
    | inl before ↦ inl before
    | inr from ↦ elim (cases_lt k (page * 4096 + 4096)) [
      | inl below ↦ let same : k / 4096 ≡ page = omega arith in absurd (apart (sym is ∙ same))
      | inr beyond ↦ inr beyond
    ]
  ]

  other_put : (other : ℕ) → (other ≡ page → ⊥) → page_bytes other (patched memory (page * 4096) bytes 4096) ≡ page_bytes other memory
  other_put other apart =
      same_page other memory (patched memory (page * 4096) bytes 4096) put.size (λ k d is. put.beside k d (beside_put other k apart is))

pub home_inside : (memory : List ℕ) (marked : List Bool) (home : List ℕ) (page : ℕ) → IsWatched memory marked home → page < length marked → page * 4096 + 4096 ≤ length home
home_inside memory marked home page w there = omega (arith, w.home_size, there)

pub put_inside : (memory : List ℕ) (marked : List Bool) (home : List ℕ) (page : ℕ) → IsWatched memory marked home → page < length marked → page * 4096 + 4096 ≤ length memory
put_inside memory marked home page w there = omega (arith, w.size, there)

page_put_back : (memory bytes : List ℕ) (before after : List Bool) (home : List ℕ) (page : ℕ) → IsWatched memory before home → page < length before → after ≡ set before page false
    → length bytes ≡ 4096 → bytes ≡ page_bytes page home → IsWatched (patched memory (page * 4096) bytes 4096) after home
page_put_back memory bytes before after home page w there is whole its = record {
  few = omega (arith, count, w.few);
  size = (put memory bytes page fits whole).size ∙ w.size ∙ ap (λ (n : ℕ). n * 4096) (sym count);
  home_size = w.home_size ∙ ap (λ (n : ℕ). n * 4096) (sym count);
  same = λ other h clear. same_by other (omega (arith, h, count)) clear (cases_eq other page);
}
  where
    count : length after ≡ length before
    count = ap length is ∙ length-set before page false

    fits : page * 4096 + 4096 ≤ length memory
    fits = put_inside memory before home page w there

    same_by : (other : ℕ) → other < length before → is_marked other after ≡ false → (other ≡ page) ⊎ (other ≡ page → ⊥)
        → page_bytes other (patched memory (page * 4096) bytes 4096) ≡ page_bytes other home
    same_by other h clear (inl same) =
        ap (λ (p : ℕ). page_bytes p (patched memory (page * 4096) bytes 4096)) same ∙ page_put memory bytes page fits whole ∙ its
        ∙ ap (λ (p : ℕ). page_bytes p home) (sym same)
    same_by other h clear (inr apart) =
        other_put memory bytes page fits whole other apart
        ∙ w.same other h (sym (other_mark before page other false apart) ∙ ap (λ (m : List Bool). is_marked other m) (sym is) ∙ clear)

pub page_back : (old new : Board) (before after : List Bool) (home : List ℕ) (page : ℕ) → IsWatched old.memory before home → page < length before → after ≡ set before page false
    → new ≡ record old { memory = patched old.memory (page * 4096) (page_bytes page home) 4096 } → IsWatched new.memory after home
page_back old new before after home page w there now is =
    let inside : page * 4096 + 4096 ≤ length home = omega (arith, w.home_size, there) in
    let whole : length (page_bytes page home) ≡ 4096 = length-page page home ∙ omega (arith, inside) in
    subst (λ (b : Board). IsWatched b.memory after home) (sym is)
    (page_put_back old.memory (page_bytes page home) before after home page w there now whole refl)

-- where no page is marked the memory is what it was at first
pub all_back : (memory : List ℕ) (marked : List Bool) (home : List ℕ) → IsWatched memory marked home → ((page : ℕ) → is_marked page marked ≡ false) → memory ≡ home
all_back memory marked home w clear =
    same_lists memory home (w.size ∙ sym w.home_size) (λ k d h.
    let there : k / 4096 < length marked = omega (arith, h, w.size) in
    same_place (k / 4096) home memory (w.same (k / 4096) there (clear (k / 4096))) k d refl)

-- and as its home has
pub as_long : (memory : List ℕ) (marked : List Bool) (home : List ℕ) → IsWatched memory marked home → length memory ≡ length home
as_long memory marked home w = w.size ∙ sym w.home_size

-- a memory that is watched has as many pages as there are marks
pub watched_pages : (memory : List ℕ) (marked : List Bool) (home : List ℕ) → IsWatched memory marked home → HasPages (length marked) memory
watched_pages memory marked home w = record { few = w.few; size = w.size }
