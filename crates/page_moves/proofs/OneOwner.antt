-- Books of one owner.
use Rattle.std.proofs.Common.{ℕ, ◌≡◌, ◌<◌, List, [], ◌∷◌, length, replicate, sym, subst, arith, None}
use Rattle.frames.specs.Counts.{count_of, below}
use Rattle.frames.specs.FreeList.{FreeList}
use Rattle.sharetab.specs.Entries.{EntriesAre}
use Rattle.guest_pages.specs.declared.page.Page.{Page}
use Rattle.guest_pages.specs.declared.page.Page.TheVariants as page
use Rattle.page_moves.specs.Moves.{Takes, Gives, MovesFrames, MovesSlots, MovesTickets, Conserves, Reads, Covered, OwnOnce}
use Rattle.page_moves.specs.Books.{Books}
use Rattle.page_moves.proofs.Booking.{books_after, reads_each, covered, own_once, came_free_out, frame_given, slot_taken}
use Rattle.page_moves.proofs.Starting.{books_of_nothing, books_with_owner}

inside : (ps : List Page) → 0 < length (ps ∷ [])
inside ps = omega arith

pub begun : (frames slots n : ℕ) (ps : List Page) (es : EntriesAre) (pool book : FreeList) → ps ≡ replicate n page.Zero → es ≡ replicate frames None
    → ((k : ℕ) → count_of k pool.free ≡ below k frames) → pool.out ≡ 0 → ((k : ℕ) → count_of k book.free ≡ below k slots) → book.out ≡ 0
    → Books frames slots (ps ∷ []) es pool book
begun frames slots n ps es pool book is vacant each none each_slot none_used =
    subst (λ (l : List Page). Books frames slots (l ∷ []) es pool book) (sym is)
    (subst (λ (e : EntriesAre). Books frames slots (replicate n page.Zero ∷ []) e pool book) (sym vacant)
    (books_with_owner frames slots [] (replicate frames None) pool book n (books_of_nothing frames slots pool book each none each_slot none_used)))

pub one_after : (frames slots : ℕ) (ps ps' : List Page) (es es' : EntriesAre) (pool pool' book book' : FreeList) → Conserves ps pool book es ps' pool' book' es'
    → (Reads es ps → Reads es' ps') → Books frames slots (ps ∷ []) es pool book → Books frames slots (ps' ∷ []) es' pool' book'
one_after frames slots ps ps' es es' pool pool' book book' c reads b =
    books_after frames slots (ps ∷ []) 0 ps' es es' pool pool' book book' (inside ps) c (reads (reads_each frames slots (ps ∷ []) es pool book 0 b (inside ps))) b

pub one_covered : (frames slots : ℕ) (ps : List Page) (es : EntriesAre) (pool book : FreeList) → Books frames slots (ps ∷ []) es pool book → Covered es ps
one_covered frames slots ps es pool book b = covered frames slots (ps ∷ []) es pool book 0 b (inside ps)

pub one_own_once : (frames slots : ℕ) (ps : List Page) (es : EntriesAre) (pool book : FreeList) → Books frames slots (ps ∷ []) es pool book → OwnOnce es ps
one_own_once frames slots ps es pool book b = own_once frames slots (ps ∷ []) es pool book 0 b (inside ps)

pub one_came_free : (frames slots : ℕ) (ps ps' : List Page) (es es' : EntriesAre) (pool book : FreeList) (number : ℕ) → Books frames slots (ps ∷ []) es pool book
    → MovesFrames ps pool es ps' pool es' (number ∷ []) → 0 < pool.out
one_came_free frames slots ps ps' es es' pool book number b m = came_free_out frames slots (ps ∷ []) 0 ps' es es' pool book number b (inside ps) m

-- a frame that came free is given to the pool
pub one_scanned : (frames slots : ℕ) (ps ps' : List Page) (es es' : EntriesAre) (pool pool' book : FreeList) (number : ℕ) → MovesFrames ps pool es ps' pool es' (number ∷ [])
    → Gives pool number pool' → MovesSlots ps book ps' book [] → MovesTickets ps es ps' es' → (Reads es ps → Reads es' ps') → Books frames slots (ps ∷ []) es pool book
    → Books frames slots (ps' ∷ []) es' pool' book
one_scanned frames slots ps ps' es es' pool pool' book number m given s t reads b =
    one_after frames slots ps ps' es es' pool pool' book book (record { frames = frame_given ps pool es ps' pool pool' es' number m given; slots = s; tickets = t }) reads b

-- a slot was taken, and the frame that came free is given to the pool
pub one_evicted : (frames slots : ℕ) (ps ps' : List Page) (es es' : EntriesAre) (pool pool' book book' : FreeList) (number slot : ℕ) → MovesFrames ps pool es ps' pool es' (number ∷ [])
    → Gives pool number pool' → Takes book slot book' → MovesSlots ps book' ps' book' (slot ∷ []) → MovesTickets ps es ps' es' → (Reads es ps → Reads es' ps')
    → Books frames slots (ps ∷ []) es pool book → Books frames slots (ps' ∷ []) es' pool' book'
one_evicted frames slots ps ps' es es' pool pool' book book' number slot m given takes s t reads b =
    one_after frames slots ps ps' es es' pool pool' book book' (record { frames = frame_given ps pool es ps' pool pool' es' number m given; slots = slot_taken ps book book' ps' slot takes s; tickets = t }) reads b

-- a slot was taken, and no frame came free
pub one_kept : (frames slots : ℕ) (ps ps' : List Page) (es es' : EntriesAre) (pool book book' : FreeList) (slot : ℕ) → MovesFrames ps pool es ps' pool es' []
    → Takes book slot book' → MovesSlots ps book' ps' book' (slot ∷ []) → MovesTickets ps es ps' es' → (Reads es ps → Reads es' ps')
    → Books frames slots (ps ∷ []) es pool book → Books frames slots (ps' ∷ []) es' pool book'
one_kept frames slots ps ps' es es' pool book book' slot m takes s t reads b =
    one_after frames slots ps ps' es es' pool pool book book' (record { frames = m; slots = slot_taken ps book book' ps' slot takes s; tickets = t }) reads b
