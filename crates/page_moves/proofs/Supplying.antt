-- A page gets a frame of its own.
use Rattle.std.proofs.Common.{ℕ, ◌≡◌, ◌≢◌, ◌<◌, ◌⊎◌, inl, inr, List, [], length, set, refl, sym, ap, subst, ◌∙◌, arith, Option}
use Rattle.frames.specs.FreeList.{FreeList}
use Rattle.frames.specs.Frames.{FrameIs}
use Rattle.sharetab.specs.Entries.{EntriesAre, count_at, frames_shared, entry_count}
use Rattle.sharetab.specs.Books.{KeepBytes, Leaves}
use Rattle.sharetab.proofs.Books.{leave_tickets, leave_bytes, leave_places}
use Rattle.guest_pages.specs.declared.page.Page.{Page}
use Rattle.guest_pages.specs.declared.page.Page.TheVariants as page
use Rattle.guest_pages.specs.declared.page.PageKind.TheVariants.{Zero, Given, Shared, Swapped}
use Rattle.guest_pages.specs.Pages.{kind_of, page_at, kind_at, shown, ticket_of, own_frame}
use Rattle.guest_pages.specs.Holdings.{frame_in, ticket_in, slot_in, one_private, one_swapped, frames_held, tickets_held, slots_held, private_pages, swapped_pages}
use Rattle.guest_pages.specs.declared.page.Returned.TheVariants as returned
use Rattle.page_moves.specs.Moves.{Takes, SameNumbers, MovesFrames, MovesSlots, MovesTickets, Conserves, Reads, Covered}
use Rattle.page_moves.specs.Returns.{Frees}
use Rattle.page_moves.specs.Faith.{IsFaithful, Faithful, Kept}
use Rattle.page_moves.specs.Supplies.{Supplies}
use Rattle.page_moves.proofs.Exchanging.{shared_is, holds_nothing, frames_by_page, slots_by_page, tickets_by_page, same_bytes, new_at, faithful_by_page, kept_by_page, reads_by_page}

-- nothing was moved, but that a number was taken and given back
pub nothing_moved : (ps ps' : List Page) (pool pool' book book' : FreeList) (es es' : EntriesAre) → ps' ≡ ps → es' ≡ es → SameNumbers pool pool' → SameNumbers book book'
    → Conserves ps pool book es ps' pool' book' es'
nothing_moved ps ps' pool pool' book book' es es' is same numbers slots = record {
  frames = record {
    numbers = λ k. omega (arith, numbers.numbers k, ap (frames_held k) is, ap (frames_shared k) same);
    out = omega (arith, numbers.out, ap private_pages is, ap entry_count same);
  };
  slots = record {
    numbers = λ k. omega (arith, slots.numbers k, ap (slots_held k) is);
    out = omega (arith, slots.out, ap swapped_pages is);
  };
  tickets = record {
    numbers = λ k. omega (arith, ap (λ (e : EntriesAre). count_at e k) same, ap (tickets_held k) is);
    bytes = subst (KeepBytes es) (sym same) (same_bytes es);
    places = ap length same;
  };
}

pub same_numbers : (pool : FreeList) → SameNumbers pool pool
same_numbers pool = record { numbers = λ k. refl; out = refl }

-- the new page, where it is in a frame of its own
pub supplies : (ps ps' : List Page) (p : ℕ) (frame : FrameIs) (b : List ℕ) → p < length ps → ps' ≡ set ps p (page.Private frame) → frame.bytes ≡ b → Supplies ps p b ps'
supplies ps ps' p frame b there is bytes =
    let at : page_at ps' p ≡ page.Private frame = new_at ps ps' p (page.Private frame) there is in
    record {
      pages = is ∙ ap (λ (f : FrameIs). set ps p (page.Private f)) (sym (ap own_frame at));
      shows = ap shown at ∙ bytes;
    }

-- ---- a page that was never touched, or was given

pub first_conserves : (ps ps' : List Page) (pool pool' book : FreeList) (es : EntriesAre) (p : ℕ) (frame : FrameIs)
    → p < length ps → (kind_at ps p ≡ Zero) ⊎ (kind_at ps p ≡ Given) → ps' ≡ set ps p (page.Private frame) → Takes pool frame.number pool'
    → Conserves ps pool book es ps' pool' book es
first_conserves ps ps' pool pool' book es p frame there kind is takes =
    let h = holds_nothing (page_at ps p) kind in
    let q = page.Private frame in
    record {
      frames = frames_by_page ps pool es ps' pool' es [] p q there is (λ k. omega (arith, h.frame k, takes.numbers k)) (omega (arith, h.private, takes.out));
      slots = slots_by_page ps book ps' book [] p q there is (λ k. omega (arith, h.slot k)) (omega (arith, h.swapped));
      tickets = tickets_by_page ps es ps' es p q there is (λ k. omega (arith, h.ticket k)) (same_bytes es) refl;
    }

-- a page that isn't in a slot is faithful where it shows what is wanted
pub faithful_shown : (q : Page) (b : List ℕ) → kind_of q ≢ Swapped → IsFaithful b q → shown q ≡ b
faithful_shown page.Zero b apart f = f
faithful_shown page.Given b apart f = f
faithful_shown (page.Private frame) b apart f = f
faithful_shown (page.Shared share ticket) b apart f = f
faithful_shown (page.Swapped slot digest) b apart f = absurd (apart refl)

pub not_swapped : (q : Page) → (kind_of q ≡ Zero) ⊎ (kind_of q ≡ Given) → kind_of q ≢ Swapped
not_swapped q (inl e) = λ s. absurd (cc)
not_swapped q (inr e) = λ s. absurd (cc)

-- a page that isn't in a slot gets another frame with the same bytes
pub same_shown_faithful : (view : ℕ → List ℕ) (ps ps' : List Page) (p : ℕ) (frame : FrameIs)
    → p < length ps → kind_at ps p ≢ Swapped → ps' ≡ set ps p (page.Private frame) → frame.bytes ≡ shown (page_at ps p)
    → Faithful view ps → Faithful view ps'
same_shown_faithful view ps ps' p frame there apart is bytes all =
    faithful_by_page view ps ps' p (page.Private frame) there is (bytes ∙ faithful_shown (page_at ps p) (view p) apart (all p there)) all

pub same_shown_kept : (held : ℕ → Option (List ℕ)) (view : ℕ → List ℕ) (ps ps' : List Page) (p : ℕ) (frame : FrameIs)
    → p < length ps → kind_at ps p ≢ Swapped → ps' ≡ set ps p (page.Private frame) → frame.bytes ≡ shown (page_at ps p)
    → Kept held view ps → Kept held view ps'
same_shown_kept held view ps ps' p frame there apart is bytes k =
    kept_by_page held held view ps ps' p (page.Private frame) there is (bytes ∙ faithful_shown (page_at ps p) (view p) apart (k.faithful p there)) tt (λ o inside other lies. lies) k

-- ---- a shared page

pub copy_frames : (ps ps' : List Page) (pool rest : FreeList) (es es' : EntriesAre) (came : List ℕ) (p : ℕ) (frame : FrameIs)
    → p < length ps → kind_at ps p ≡ Shared → ps' ≡ set ps p (page.Private frame) → Takes pool frame.number rest
    → Frees (returned.Ticket (ticket_of (page_at ps p))) es es' came
    → MovesFrames ps pool es ps' rest es' came
copy_frames ps ps' pool rest es es' came p frame there kind is takes frees =
    let own = shared_is (page_at ps p) kind in
    let q = page.Private frame in
    frames_by_page ps pool es ps' rest es' came p q there is
    (λ k. omega (arith, ap (frame_in k) own, takes.numbers k, frees.frames k)) (omega (arith, ap one_private own, takes.out, frees.frames_out))

pub copy_slots : (ps ps' : List Page) (book : FreeList) (p : ℕ) (frame : FrameIs)
    → p < length ps → kind_at ps p ≡ Shared → ps' ≡ set ps p (page.Private frame) → MovesSlots ps book ps' book []
copy_slots ps ps' book p frame there kind is =
    let own = shared_is (page_at ps p) kind in
    slots_by_page ps book ps' book [] p (page.Private frame) there is (λ k. omega (arith, ap (slot_in k) own)) (omega (arith, ap one_swapped own))

pub copy_tickets : (ps ps' : List Page) (es es' : EntriesAre) (p : ℕ) (frame : FrameIs)
    → p < length ps → kind_at ps p ≡ Shared → ps' ≡ set ps p (page.Private frame) → Leaves es (ticket_of (page_at ps p)) es'
    → MovesTickets ps es ps' es'
copy_tickets ps ps' es es' p frame there kind is leaves =
    let own = shared_is (page_at ps p) kind in
    let t = ticket_of (page_at ps p) in
    tickets_by_page ps es ps' es' p (page.Private frame) there is
    (λ k. omega (arith, ap (ticket_in k) own, leave_tickets k t es es' leaves)) (leave_bytes t es es' leaves) (leave_places t es es' leaves)

-- where nothing has changed, no slot and no ticket has moved
pub no_slots_move : (ps : List Page) (book : FreeList) → MovesSlots ps book ps book []
no_slots_move ps book = record { numbers = λ k. omega arith; out = omega arith }

pub no_tickets_move : (ps : List Page) (es : EntriesAre) → MovesTickets ps es ps es
no_tickets_move ps es = record { numbers = λ k. refl; bytes = same_bytes es; places = refl }

pub private_reads : (es es' : EntriesAre) (ps ps' : List Page) (p : ℕ) (frame : FrameIs) → p < length ps → ps' ≡ set ps p (page.Private frame)
    → MovesTickets ps es ps' es' → Covered es ps → Reads es ps → Reads es' ps'
private_reads es es' ps ps' p frame there is moves covered reads =
    reads_by_page es es' ps ps' p (page.Private frame) there is (λ e. absurd (cc)) moves covered reads
