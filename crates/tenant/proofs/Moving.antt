-- What one guest's pages leave behind as they move.
use Rattle.std.proofs.Common.{ℕ, ◌≡◌, ◌+◌, ◌<◌, List, [], ◌∷◌, length, subst, arith, Option, Some, Result, Err, IfErr}
use Rattle.std.specs.Option.{IsSome, option_to_list}
use Rattle.frames.specs.Counts.{one_at, count_of}
use Rattle.frames.specs.FreeList.{FreeList}
use Rattle.sharetab.specs.Entries.{EntriesAre}
use Rattle.guest_pages.specs.declared.page.Page.{Page}
use Rattle.guest_pages.specs.declared.page.PageKind.TheVariants.{Swapped}
use Rattle.guest_pages.specs.Pages.{page_at, kind_at, slot_of, digest_of}
use Rattle.frames.proofs.Counting.{one_same}
use Rattle.page_moves.specs.Moves.{Takes, MovesFrames, MovesSlots, MovesTickets, Conserves}
use Rattle.page_moves.specs.declared.supply.SupplyError.{SupplyError}
use Rattle.page_moves.specs.declared.supply.SupplyError.TheVariants.{SwapDamaged}
use Rattle.page_moves.specs.Faith.{Kept}
use Rattle.page_moves.specs.Supplies.{WhyAway, IsDamaged}
use Rattle.page_moves.proofs.Booking.{frame_given, slot_taken}
use Rattle.page_moves.proofs.Keeping.{kept_is_sound}

pub frames_back : (pages pages' : List Page) (before pool pool' : FreeList) (es es' : EntriesAre) (number : ℕ)
    → ((k : ℕ) → count_of k pool'.free ≡ count_of k pool.free + one_at k number) → pool'.out + 1 ≡ pool.out
    → MovesFrames pages before es pages' pool es' (number ∷ []) → MovesFrames pages before es pages' pool' es' []
frames_back pages pages' before pool pool' es es' number given out m =
    frame_given pages before es pages' pool pool' es' number m (record { numbers = given; out = out })

-- a slot that was free is nobody's
pub was_free : (free mid : List ℕ) (slot : ℕ) → ((k : ℕ) → count_of k free ≡ count_of k mid + one_at k slot) → 0 < count_of slot free
was_free free mid slot taken = omega (arith, taken slot, one_same slot)

-- a page has left for a slot that was taken, and its frame, where that came free, is free again
pub evicted_conserves : (ps ps' : List Page) (pool pool' book book' : FreeList) (es es' : EntriesAre) (slot : ℕ) → MovesFrames ps pool es ps' pool' es' []
    → Takes book slot book' → MovesSlots ps book' ps' book' (slot ∷ []) → MovesTickets ps es ps' es' → Conserves ps pool book es ps' pool' book' es'
evicted_conserves ps ps' pool pool' book book' es es' slot frames takes slots tickets =
    record { frames = frames; slots = slot_taken ps book book' ps' slot takes slots; tickets = tickets }

-- a page that was never touched has come into a slot that was taken
pub stored_conserves : (ps ps' : List Page) (pool book book' : FreeList) (es : EntriesAre) (slot : ℕ) → MovesFrames ps pool es ps' pool es []
    → Takes book slot book' → MovesSlots ps book' ps' book' (slot ∷ []) → MovesTickets ps es ps' es → Conserves ps pool book es ps' pool book' es
stored_conserves ps ps' pool book book' es slot frames takes slots tickets = evicted_conserves ps ps' pool pool book book' es es slot frames takes slots tickets

-- a page was scanned
pub scanned_conserves : (ps ps' : List Page) (pool pool' book : FreeList) (es es' : EntriesAre) → MovesFrames ps pool es ps' pool' es' []
    → MovesSlots ps book ps' book [] → MovesTickets ps es ps' es' → Conserves ps pool book es ps' pool' book es'
scanned_conserves ps ps' pool pool' book es es' frames slots tickets = record { frames = frames; slots = slots; tickets = tickets }

-- the frame that came free was out
pub came_free_out : (ps : List Page) (pool : FreeList) (es : EntriesAre) (came : Option ℕ) (ps' : List Page) (es' : EntriesAre) (number : ℕ)
    → ((pages' : List Page) (entries' : EntriesAre) (k : ℕ) → MovesFrames ps pool es pages' pool entries' (k ∷ []) → 0 < pool.out)
    → MovesFrames ps pool es ps' pool es' (option_to_list came) → came ≡ Some number → 0 < pool.out
came_free_out ps pool es came ps' es' number out m is = out ps' es' number (subst (λ (o : Option ℕ). MovesFrames ps pool es ps' pool es' (option_to_list o)) is m)

-- a page that is kept is not refused as damaged by an honest store
pub never_damaged : {T : Type 0} (r : Result T SupplyError) (pool : FreeList) (failed : Type 0) (gives : List ℕ → Type 0) (honest : Type 0) (held : ℕ → Option (List ℕ)) (view : ℕ → List ℕ) (ps : List Page) (p : ℕ)
    → r ≡ Err SwapDamaged → p < length ps → kind_at ps p ≡ Swapped → honest → IsSome (held (slot_of (page_at ps p))) → Kept held view ps
    → IfErr r (WhyAway pool failed (IsDamaged gives honest (held (slot_of (page_at ps p))) (digest_of (page_at ps p)))) → ⊥
never_damaged r pool failed gives honest held view ps p is there kind sure known k why =
    let damaged : IsDamaged gives honest (held (slot_of (page_at ps p))) (digest_of (page_at ps p)) =
    (subst (λ (s : Result _ SupplyError). IfErr s (WhyAway pool failed (IsDamaged gives honest (held (slot_of (page_at ps p))) (digest_of (page_at ps p))))) is why).1 in
    damaged.2 (kept_is_sound held view ps p damaged.0 there kind known k (damaged.3 sure))
