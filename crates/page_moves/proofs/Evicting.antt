-- A resident page goes to a slot.
use Rattle.std.proofs.Common.{ℕ, ◌≡◌, ◌<◌, inl, inr, List, [], ◌∷◌, length, set, refl, sym, ap, ◌∙◌, arith, Option, Some, None, true}
use Rattle.sha2.specs.Sha256.{sha256}
use Rattle.std.specs.Option.{option_to_list}
use Rattle.std.proofs.lemmas.Bool.{cases_lt}
use Rattle.std.proofs.lemmas.List.Sums.{get_or-le-sum_by}
use Rattle.frames.specs.Counts.{one_at}
use Rattle.frames.specs.FreeList.{FreeList}
use Rattle.frames.specs.Frames.{FrameIs, SharedIs}
use Rattle.frames.proofs.Counting.{count_one, one_same}
use Rattle.sharetab.specs.Entries.{EntriesAre, entry_at, count_at, tickets_of, freed_frame}
use Rattle.sharetab.specs.Books.{Leaves}
use Rattle.sharetab.proofs.Books.{leave_tickets, leave_bytes, leave_places, freed_last}
use Rattle.swapstore.specs.Holding.{AreHeld, OthersStay}
use Rattle.guest_pages.specs.declared.page.Page.{Page}
use Rattle.guest_pages.specs.declared.page.Page.TheVariants as page
use Rattle.guest_pages.specs.declared.page.PageKind.TheVariants.{Shared}
use Rattle.guest_pages.specs.declared.page.Returned.TheVariants as returned
use Rattle.guest_pages.specs.Pages.{kind_of, page_at, kind_at, shown, handed_back, is_resident, ticket_of as page_ticket}
use Rattle.guest_pages.specs.Holdings.{slot_in, one_swapped, slots_held}
use Rattle.page_moves.specs.Moves.{MovesFrames, MovesSlots, MovesTickets, Reads, Covered}
use Rattle.page_moves.specs.Faith.{IsFaithful, Faithful, IsHeld, Kept}
use Rattle.page_moves.specs.Returns.{Frees, IsResident}
use Rattle.page_moves.proofs.Exchanging.{ticket_held, frames_by_page, slots_by_page, tickets_by_page, same_bytes, faithful_by_page, kept_by_page, reads_by_page}
use Rattle.page_moves.proofs.GoingBack.{hands_back, left_frames, left_entries}

-- ---- what comes free

pub frame_frees : (frame : FrameIs) (es : EntriesAre) → Frees (returned.Frame frame) es es (frame.number ∷ [])
frame_frees frame es = record {
  frames = λ k. omega (arith, count_one k frame.number);
  frames_out = omega arith;
  tickets = λ k. omega arith;
  bytes = same_bytes es;
  places = refl;
}

pub ticket_frees : (ticket : ℕ) (es es' : EntriesAre) (freed : Option ℕ) → Leaves es ticket es' → freed ≡ freed_frame (entry_at es ticket)
    → Frees (returned.Ticket ticket) es es' (option_to_list freed)
ticket_frees ticket es es' freed l is = record {
  frames = λ k. omega (arith, left_frames es es' ticket freed l is k);
  frames_out = omega (arith, left_entries es es' ticket freed l is);
  tickets = λ k. leave_tickets k ticket es es' l;
  bytes = leave_bytes ticket es es' l;
  places = leave_places ticket es es' l;
}

none_freed : (o : Option SharedIs) → 0 < tickets_of o → freed_frame o ≡ None → 1 < tickets_of o
none_freed None some free = absurd (omega arith)
none_freed (Some e) some free =
    elim (cases_lt 1 e.tickets) [
      | inl more ↦ more
      | inr last ↦ let s = freed_last e last in absurd (cc)
    ]

-- where no frame came free, other tickets are out
pub still_shared : (es : EntriesAre) (ticket : ℕ) → 0 < count_at es ticket → freed_frame (entry_at es ticket) ≡ None → 1 < count_at es ticket
still_shared es ticket some free = none_freed (entry_at es ticket) some free

-- ---- a resident page

-- what a resident page hands back is out
pub resident_back : (es : EntriesAre) (ps : List Page) (p : ℕ) → Covered es ps → is_resident (kind_at ps p) ≡ true → IsResident es (handed_back (page_at ps p))
resident_back es ps p covered resident =
    by (page_at ps p) resident (λ shared. omega (arith, ticket_held ps p shared, covered (page_ticket (page_at ps p))))
  where
    by : (q : Page) → is_resident (kind_of q) ≡ true → (kind_of q ≡ Shared → 0 < count_at es (page_ticket q)) → IsResident es (handed_back q)
    by page.Zero r some = absurd (cc)
    by page.Given r some = absurd (cc)
    by (page.Private frame) r some = tt
    by (page.Shared share ticket) r some = some refl
    by (page.Swapped slot digest) r some = absurd (cc)

no_slot : (q : Page) → is_resident (kind_of q) ≡ true → ((k : ℕ) → slot_in k q ≡ 0) × (one_swapped q ≡ 0)
no_slot page.Zero r = absurd (cc)
no_slot page.Given r = absurd (cc)
no_slot (page.Private frame) r = ((λ k. refl), refl)
no_slot (page.Shared share ticket) r = ((λ k. refl), refl)
no_slot (page.Swapped slot digest) r = absurd (cc)

pub evicted_frames : (ps ps' : List Page) (pool : FreeList) (es es' : EntriesAre) (came : List ℕ) (p slot : ℕ) (digest : List ℕ) → p < length ps
    → ps' ≡ set ps p (page.Swapped slot digest) → Frees (handed_back (page_at ps p)) es es' came → MovesFrames ps pool es ps' pool es' came
evicted_frames ps ps' pool es es' came p slot digest there is f =
    let h = hands_back (page_at ps p) in
    frames_by_page ps pool es ps' pool es' came p (page.Swapped slot digest) there is (λ k. omega (arith, f.frames k, h.frame k)) (omega (arith, f.frames_out, h.private))

pub evicted_slots : (ps ps' : List Page) (book : FreeList) (p slot : ℕ) (digest : List ℕ) → p < length ps → is_resident (kind_at ps p) ≡ true
    → ps' ≡ set ps p (page.Swapped slot digest) → MovesSlots ps book ps' book (slot ∷ [])
evicted_slots ps ps' book p slot digest there resident is =
    let n = no_slot (page_at ps p) resident in
    slots_by_page ps book ps' book (slot ∷ []) p (page.Swapped slot digest) there is (λ k. omega (arith, n.0 k, count_one k slot)) (omega (arith, n.1))

pub evicted_tickets : (ps ps' : List Page) (es es' : EntriesAre) (came : List ℕ) (p slot : ℕ) (digest : List ℕ) → p < length ps
    → ps' ≡ set ps p (page.Swapped slot digest) → Frees (handed_back (page_at ps p)) es es' came → MovesTickets ps es ps' es'
evicted_tickets ps ps' es es' came p slot digest there is f =
    let h = hands_back (page_at ps p) in
    tickets_by_page ps es ps' es' p (page.Swapped slot digest) there is (λ k. omega (arith, f.tickets k, h.ticket k)) f.bytes f.places

pub evicted_reads : (ps ps' : List Page) (es es' : EntriesAre) (came : List ℕ) (p slot : ℕ) (digest : List ℕ) → p < length ps
    → ps' ≡ set ps p (page.Swapped slot digest) → Frees (handed_back (page_at ps p)) es es' came → Covered es ps → Reads es ps → Reads es' ps'
evicted_reads ps ps' es es' came p slot digest there is f covered reads =
    reads_by_page es es' ps ps' p (page.Swapped slot digest) there is (λ e. absurd (cc)) (evicted_tickets ps ps' es es' came p slot digest there is f) covered reads

-- a resident page shows what its owner has there
resident_shows : (q : Page) (b : List ℕ) → is_resident (kind_of q) ≡ true → IsFaithful b q → shown q ≡ b
resident_shows page.Zero b r f = absurd (cc)
resident_shows page.Given b r f = absurd (cc)
resident_shows (page.Private frame) b r f = f
resident_shows (page.Shared share ticket) b r f = f
resident_shows (page.Swapped slot digest) b r f = absurd (cc)

pub evicted_faithful : (view : ℕ → List ℕ) (ps ps' : List Page) (p slot : ℕ) (digest : List ℕ) → p < length ps → is_resident (kind_at ps p) ≡ true
    → ps' ≡ set ps p (page.Swapped slot digest) → digest ≡ sha256 (shown (page_at ps p)) → Faithful view ps → Faithful view ps'
evicted_faithful view ps ps' p slot digest there resident is same all =
    faithful_by_page view ps ps' p (page.Swapped slot digest) there is (same ∙ ap sha256 (resident_shows (page_at ps p) (view p) resident (all p there))) all

-- a page that has no slot of a number is held where it was
apart_held : (held held' : ℕ → Option (List ℕ)) (b : List ℕ) (slot : ℕ) (q : Page) → OthersStay slot held held' → slot_in slot q ≡ 0 → IsHeld held b q → IsHeld held' b q
apart_held held held' b slot page.Zero others none lies = tt
apart_held held held' b slot page.Given others none lies = tt
apart_held held held' b slot (page.Private frame) others none lies = tt
apart_held held held' b slot (page.Shared share ticket) others none lies = tt
apart_held held held' b slot (page.Swapped own digest) others none lies =
    λ last is. lies last (sym (others own (λ same. absurd (omega (arith, none, one_same slot, ap (one_at slot) same)))) ∙ is)

none_of_page : (ps : List Page) (p slot : ℕ) → p < length ps → slots_held slot ps ≡ 0 → slot_in slot (page_at ps p) ≡ 0
none_of_page ps p slot inside none = omega (arith, none, get_or-le-sum_by (slot_in slot) ps p page.Zero inside)

pub evicted_kept : (held held' : ℕ → Option (List ℕ)) (view : ℕ → List ℕ) (ps ps' : List Page) (p slot : ℕ) (digest : List ℕ) → p < length ps → is_resident (kind_at ps p) ≡ true
    → ps' ≡ set ps p (page.Swapped slot digest) → digest ≡ sha256 (shown (page_at ps p)) → AreHeld (held' slot) (shown (page_at ps p)) → OthersStay slot held held'
    → slots_held slot ps ≡ 0 → Kept held view ps → Kept held' view ps'
evicted_kept held held' view ps ps' p slot digest there resident is same written others none k =
    let shows = resident_shows (page_at ps p) (view p) resident (k.faithful p there) in
    kept_by_page held held' view ps ps' p (page.Swapped slot digest) there is (same ∙ ap sha256 shows) (λ last is. sym shows ∙ written last is)
    (λ o inside apart lies. apart_held held held' (view o) slot (page_at ps o) others (none_of_page ps o slot inside none) lies) k

-- pages that have no slot of a number are kept where only that slot is written
pub others_kept : (held held' : ℕ → Option (List ℕ)) (view : ℕ → List ℕ) (ps : List Page) (slot : ℕ) → OthersStay slot held held' → slots_held slot ps ≡ 0
    → Kept held view ps → Kept held' view ps
others_kept held held' view ps slot others none k = record {
  faithful = k.faithful;
  lies = λ o inside. apart_held held held' (view o) slot (page_at ps o) others (none_of_page ps o slot inside none) (k.lies o inside);
}
