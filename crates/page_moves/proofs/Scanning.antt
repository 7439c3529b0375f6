-- A page is scanned.
use Rattle.std.proofs.Common.{ℕ, ◌≡◌, ◌+◌, ◌<◌, ◌≤◌, inl, inr, List, [], length, set, refl, sym, ap, subst, ◌∙◌, arith, Option, Some, None}
use Rattle.std.proofs.lemmas.Bool.{cases_lt}
use Rattle.std.proofs.lemmas.List.Sums.{get_or-le-sum_by}
use Rattle.frames.specs.Counts.{one_at, count_of, below}
use Rattle.frames.specs.FreeList.{FreeList}
use Rattle.frames.specs.Frames.{FrameIs}
use Rattle.frames.proofs.Counting.{count_one, one_same, below_yes, below_no}
use Rattle.sharetab.specs.Entries.{EntriesAre, entry_at, count_at, HasBytes, AllFit, frames_shared, entry_count}
use Rattle.sharetab.specs.Shares.{SharesAre}
use Rattle.sharetab.specs.Books.{Admits, KeepBytes, shared_once}
use Rattle.sharetab.specs.declared.guest_page.GuestPage.{GuestPage}
use Rattle.sharetab.proofs.Books.{vacant_by_frames, admit_frames, admit_tickets, admit_entries, admit_bytes, admit_places, join_frames, join_tickets, join_entries, join_bytes, join_places}
use Rattle.std.proofs.lemmas.List.{get_or-set_same}
use Rattle.guest_pages.specs.declared.page.Page.{Page}
use Rattle.guest_pages.specs.declared.page.Page.TheVariants as page
use Rattle.guest_pages.specs.declared.page.PageKind.TheVariants.{Private}
use Rattle.guest_pages.specs.Pages.{page_at, kind_at, shown, own_frame, page_of_entry, ticket_of}
use Rattle.guest_pages.specs.Holdings.{frame_in, ticket_in, slot_in, one_private, one_swapped, frames_held}
use Rattle.page_moves.specs.declared.scan.Scan.{Scan}
use Rattle.page_moves.specs.declared.scan.Scan.TheVariants as scan
use Rattle.page_moves.specs.Moves.{MovesFrames, MovesSlots, MovesTickets, Reads, Covered, OwnOnce}
use Rattle.page_moves.specs.Faith.{Faithful, Kept, IsFaithful}
use Rattle.page_moves.specs.Scans.{Answered, Comes, CanBeShared, JoinsEntry, BecomesEntry, NothingComes}
use Rattle.page_moves.proofs.Exchanging.{private_is, frames_by_page, slots_by_page, tickets_by_page, same_bytes, faithful_by_page, kept_by_page, reads_by_page}
use Rattle.page_moves.proofs.Supplying.{faithful_shown}

-- ---- a page's own frame is in no entry, and has a place

own_counted : (ps : List Page) (p : ℕ) → p < length ps → kind_at ps p ≡ Private → 0 < frames_held (own_frame (page_at ps p)).number ps
own_counted ps p there kind =
    let n = (own_frame (page_at ps p)).number in
    let one : frame_in n (page_at ps p) ≡ one_at n n = ap (frame_in n) (private_is (page_at ps p) kind) in
    omega (arith, one, one_same n, get_or-le-sum_by (frame_in n) ps p page.Zero there)

below_one : (k total : ℕ) → below k total ≤ 1
below_one k total =
    elim (cases_lt k total) [
      | inl h ↦ omega (arith, below_yes k total h)
      | inr past ↦ omega (arith, below_no k total past)
    ]

pub own_place : (es : EntriesAre) (ps : List Page) (p : ℕ) → OwnOnce es ps → p < length ps → kind_at ps p ≡ Private → (own_frame (page_at ps p)).number < length es
own_place es ps p once there kind =
    let n = (own_frame (page_at ps p)).number in
    elim (cases_lt n (length es)) [
      | inl h ↦ h
      | inr past ↦ absurd (omega (arith, own_counted ps p there kind, once n, below_no n (length es) past))
    ]

pub own_vacant : (es : EntriesAre) (ps : List Page) (p : ℕ) → AllFit es → OwnOnce es ps → p < length ps → kind_at ps p ≡ Private → entry_at es (own_frame (page_at ps p)).number ≡ None
own_vacant es ps p fit once there kind =
    let n = (own_frame (page_at ps p)).number in
    vacant_by_frames n es fit (omega (arith, own_counted ps p there kind, once n, below_one n (length es)))

-- ---- what a scan moves

pub record Moved (es : EntriesAre) (ps : List Page) (es' : EntriesAre) (ps' : List Page) (came : List ℕ) : Type 0 where
  pub frames : (pool : FreeList) → MovesFrames ps pool es ps' pool es' came
  pub slots : (book : FreeList) → MovesSlots ps book ps' book []
  pub tickets : MovesTickets ps es ps' es'
  pub faithful : (view : ℕ → List ℕ) → Faithful view ps → Faithful view ps'
  pub kept : (held : ℕ → Option (List ℕ)) (view : ℕ → List ℕ) → Kept held view ps → Kept held view ps'
  pub reads : Reads es ps → Reads es' ps'

nothing : (es : EntriesAre) (ps : List Page) (es' : EntriesAre) (ps' : List Page) (came : List ℕ) → NothingComes es ps es' ps' came → Moved es ps es' ps' came
nothing es ps es' ps' came n = subst (λ (l : List ℕ). Moved es ps es' ps' l) (sym n.frame) (subst (λ (e : EntriesAre). Moved es ps e ps' []) (sym n.entry) (subst (λ (l : List Page). Moved es ps es l []) (sym n.page) stays))
  where
    stays : Moved es ps es ps []
    stays = record {
      frames = λ pool. record { numbers = λ k. omega arith; out = omega arith };
      slots = λ book. record { numbers = λ k. omega arith; out = omega arith };
      tickets = record { numbers = λ k. refl; bytes = same_bytes es; places = refl };
      faithful = λ view f. f;
      kept = λ held view k. k;
      reads = λ r. r;
    }

-- a page in a frame of its own comes to read a shared one with the same bytes
exchanged_page : (es : EntriesAre) (ps : List Page) (p : ℕ) (es' : EntriesAre) (ps' : List Page) (came : List ℕ) (share : FrameIs) → CanBeShared ps p
    → ps' ≡ set ps p (page_of_entry share) → share.bytes ≡ shown (page_at ps p) → Covered es ps
    → ((k : ℕ) → frames_shared k es' + count_of k came ≡ frames_shared k es + one_at k (own_frame (page_at ps p)).number) → entry_count es' + length came ≡ entry_count es + 1
    → ((k : ℕ) → count_at es' k ≡ count_at es k + one_at k share.number) → KeepBytes es es' → length es' ≡ length es
    → HasBytes share.bytes (entry_at es' share.number)
    → Moved es ps es' ps' came
exchanged_page es ps p es' ps' came share can is bytes covered numbers out counted keep places new =
    let q = page_of_entry share in
    let own = private_is (page_at ps p) can.1 in
    let tickets = tickets_by_page ps es ps' es' p q can.0 is (λ k. omega (arith, counted k, ap (ticket_in k) own)) keep places in
    let shows : (b : List ℕ) → IsFaithful b (page_at ps p) → share.bytes ≡ b = λ b f. bytes ∙ faithful_shown (page_at ps p) b (λ s. let e = can.1 in absurd (cc)) f in
    record {
      frames = λ pool. frames_by_page ps pool es ps' pool es' came p q can.0 is (λ k. omega (arith, numbers k, ap (frame_in k) own)) (omega (arith, out, ap one_private own));
      slots = λ book. slots_by_page ps book ps' book [] p q can.0 is (λ k. omega (arith, ap (slot_in k) own)) (omega (arith, ap one_swapped own));
      tickets = tickets;
      faithful = λ view f. faithful_by_page view ps ps' p q can.0 is (shows (view p) (f p can.0)) f;
      kept = λ held view k. kept_by_page held held view ps ps' p q can.0 is (shows (view p) (k.faithful p can.0)) tt (λ o inside other lies. lies) k;
      reads = reads_by_page es es' ps ps' p q can.0 is (λ e. new) tickets covered;
    }

joined : (es : EntriesAre) (ps : List Page) (p : ℕ) (es' : EntriesAre) (ps' : List Page) (came : List ℕ) → CanBeShared ps p → Covered es ps → JoinsEntry es ps p es' ps' came
    → Moved es ps es' ps' came
joined es ps p es' ps' came can covered j =
    let t = ticket_of (page_at ps' p) in
    let n = (own_frame (page_at ps p)).number in
    let counted : (k : ℕ) → count_at es' k ≡ count_at es k + one_at k t = λ k. join_tickets k t es es' j.entry in
    let more : 0 < count_at es' t = omega (arith, counted t, one_same t) in
    exchanged_page es ps p es' ps' came (record { number = t; bytes = shown (page_at ps p) }) can j.page refl covered
    (λ k. omega (arith, join_frames k t es es' j.entry, ap (count_of k) j.frame, count_one k n))
    (omega (arith, join_entries t es es' j.entry, ap length j.frame))
    counted (join_bytes t es es' j.entry) (join_places t es es' j.entry) (join_bytes t es es' j.entry t (shown (page_at ps p)) more j.equal)

admitted_bytes : (es es' : EntriesAre) (frame : FrameIs) → Admits es frame es' → HasBytes frame.bytes (entry_at es' frame.number)
admitted_bytes es es' frame a =
    subst (HasBytes frame.bytes) (sym (ap (λ (l : EntriesAre). entry_at l frame.number) a.entries ∙ get_or-set_same es frame.number (Some (shared_once frame)) None a.there)) refl

admitted : (es : EntriesAre) (ps : List Page) (p : ℕ) (es' : EntriesAre) (ps' : List Page) (came : List ℕ) → CanBeShared ps p → Covered es ps → BecomesEntry es ps p es' ps' came
    → Moved es ps es' ps' came
admitted es ps p es' ps' came can covered b =
    let f = own_frame (page_at ps p) in
    exchanged_page es ps p es' ps' came f can b.page (sym (ap shown (private_is (page_at ps p) can.1))) covered
    (λ k. omega (arith, admit_frames k es es' f b.entry, ap (count_of k) b.frame))
    (omega (arith, admit_entries es es' f b.entry, ap length b.frame))
    (λ k. admit_tickets k es es' f b.entry) (admit_bytes es es' f b.entry) (admit_places es es' f b.entry) (admitted_bytes es es' f b.entry)

pub scanned : (shares : SharesAre) (ps : List Page) (at : GuestPage) (s : Scan) (es' : EntriesAre) (ps' : List Page) (came : List ℕ) → Covered shares.entries ps
    → Answered shares ps at s → Comes shares.entries ps at.page s es' ps' came → Moved shares.entries ps es' ps' came
scanned shares ps at scan.Noted es' ps' came covered a c = nothing shares.entries ps es' ps' came c
scanned shares ps at scan.Skipped es' ps' came covered a c = nothing shares.entries ps es' ps' came c
scanned shares ps at scan.Memory es' ps' came covered a c = nothing shares.entries ps es' ps' came c
scanned shares ps at scan.Joined es' ps' came covered a c = joined shares.entries ps at.page es' ps' came a.0 covered c
scanned shares ps at (scan.Admitted other) es' ps' came covered a c = admitted shares.entries ps at.page es' ps' came a.0 covered c
