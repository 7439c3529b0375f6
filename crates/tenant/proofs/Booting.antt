-- A guest whose pages are loaded.
use Rattle.std.proofs.Common.{false, ℕ, zero, suc, ◌≡◌, ◌+◌, ◌*◌, ◌<◌, ◌≤◌, inl, inr, List, [], ◌∷◌, length, replicate, fold, set, get_or, refl, sym, ap, subst, ◌∙◌, arith, Option, None, Result, Ok, Err, OnOk}
use Rattle.std.proofs.lemmas.Bool.{cases_eq, cases_lt}
use Rattle.std.proofs.lemmas.List.Sums.{get_or-le-sum_by}
use Rattle.std.proofs.lemmas.List.Folds.{sum_by-replicate}
use Rattle.std.proofs.lemmas.List.{set-set, length-replicate}
use Rattle.word32.specs.Zeros.{zeros}
use Rattle.frames.specs.Frames.{FrameIs}
use Rattle.sha2.specs.Sha256.{sha256}
use Rattle.frames.specs.Counts.{one_at, count_of, below}
use Rattle.frames.proofs.Counting.{below_no}
use Rattle.frames.specs.FreeList.{FreeList}
use Rattle.sharetab.specs.Entries.{EntriesAre}
use Rattle.elf32.specs.declared.image.Segment.{Segment}
use Rattle.elf32.specs.declared.image.Image.{Image}
use Rattle.elf32.specs.Images.{IsWithin, FitsPages}
use Rattle.items.specs.declared.item.Item.{Item}
use Rattle.devices.specs.Devices.{fresh_devices}
use Rattle.machine.specs.Step.{Machine}
use Rattle.machine.specs.Items.{run}
use Rattle.guest_bus.specs.Buses.{GuestBusIs}
use Rattle.machine.proofs.Clearing.{length-zeros}
use Rattle.mips_cp0.specs.declared.profile.Profile.{Profile}
use Rattle.machine.specs.Boot.{placed, boot_memory, boot_machine}
use Rattle.guest_pages.specs.declared.page.Page.{Page}
use Rattle.guest_pages.specs.declared.page.Page.TheVariants as page
use Rattle.guest_pages.specs.declared.page.PageKind.TheVariants as kind
use Rattle.guest_pages.specs.Pages.{kind_of, kind_at, page_at, shown, own_frame, slot_of}
use Rattle.guest_pages.specs.Holdings.{frame_in, ticket_in, slot_in, slots_held, one_private, one_swapped}
use Rattle.page_moves.specs.Moves.{Conserves, Reads}
use Rattle.swapstore.specs.Holding.{AreHeld}
use Rattle.page_moves.specs.Faith.{IsFaithful, Faithful, IsHeld, Kept}
use Rattle.page_moves.specs.Supplies.{Supplies}
use Rattle.page_moves.proofs.Booking.{below_one}
use Rattle.page_moves.proofs.Exchanging.{frames_by_page, slots_by_page, tickets_by_page, same_bytes, new_at, other_at, same_length, reads_stay}
use Rattle.guest.specs.Guests.{GuestIs, view_of, without_pages, Intact}
use Rattle.guest.specs.Loading.{segment_reaches, Reaches, IsBeside}
use Rattle.guest.specs.Views.{pages_seen}
use Rattle.guest.proofs.BootPages.{placed_size, beside_is_zeros}
use Rattle.guest.proofs.Keeping.{booted_intact}
use Rattle.tenant.specs.Lent.{UsedStay}
use Rattle.tenant.specs.Loading.{boot_page, AreUntouched, AreLoaded, IsLoaded, IsFrameFirst, FramesFirst, NonePrivate}
use Rattle.tenant.proofs.Keeping.{used_held}

-- ---- one page

supplied_at : (ps mid : List Page) (p : ℕ) (before : List ℕ) → p < length ps → Supplies ps p before mid → page_at mid p ≡ page.Private (own_frame (page_at mid p))
supplied_at ps mid p before there s = new_at ps mid p (page.Private (own_frame (page_at mid p))) there s.pages

supplied_there : (ps mid : List Page) (p : ℕ) (before : List ℕ) → p < length ps → Supplies ps p before mid → p < length mid
supplied_there ps mid p before there s = omega (arith, there, same_length ps mid p (page.Private (own_frame (page_at mid p))) s.pages)

pub supplied_length : (ps mid : List Page) (p : ℕ) (before : List ℕ) → Supplies ps p before mid → length mid ≡ length ps
supplied_length ps mid p before s = same_length ps mid p (page.Private (own_frame (page_at mid p))) s.pages

-- the bytes of a page's own frame are others
pub loaded_conserves : (ps mid ps' : List Page) (p : ℕ) (before : List ℕ) (frame : FrameIs) (pool pool' book : FreeList) (es : EntriesAre) → p < length ps → Supplies ps p before mid
    → frame.number ≡ (own_frame (page_at mid p)).number → ps' ≡ set mid p (page.Private frame)
    → Conserves ps pool book es mid pool' book es → Conserves ps pool book es ps' pool' book es
loaded_conserves ps mid ps' p before frame pool pool' book es there_old s number is c =
    let there = supplied_there ps mid p before there_old s in
    let own = supplied_at ps mid p before there_old s in
    let q = page.Private frame in
    let f = frames_by_page mid pool' es ps' pool' es [] p q there is (λ k. omega (arith, ap (frame_in k) own, ap (one_at k) number)) (omega (arith, ap one_private own)) in
    let s = slots_by_page mid book ps' book [] p q there is (λ k. omega (arith, ap (slot_in k) own)) (omega (arith, ap one_swapped own)) in
    let t = tickets_by_page mid es ps' es p q there is (λ k. omega (arith, ap (ticket_in k) own)) (same_bytes es) refl in
    record {
      frames = record { numbers = λ k. omega (arith, c.frames.numbers k, f.numbers k); out = omega (arith, c.frames.out, f.out) };
      slots = record { numbers = λ k. omega (arith, c.slots.numbers k, s.numbers k); out = omega (arith, c.slots.out, s.out) };
      tickets = record { numbers = λ k. omega (arith, c.tickets.numbers k, t.numbers k); bytes = same_bytes es; places = refl };
    }

pub loaded_reads : (es : EntriesAre) (ps mid ps' : List Page) (p : ℕ) (before : List ℕ) (frame : FrameIs) → p < length ps → Supplies ps p before mid → ps' ≡ set mid p (page.Private frame) → Reads es mid → Reads es ps'
loaded_reads es ps mid ps' p before frame there s is reads = reads_stay es mid ps' p (page.Private frame) (supplied_there ps mid p before there s) is (λ e. absurd (cc)) reads

pub loaded_page : (ps mid ps' : List Page) (p : ℕ) (before bytes : List ℕ) (frame : FrameIs) → p < length ps → Supplies ps p before mid
    → frame.bytes ≡ bytes → ps' ≡ set mid p (page.Private frame) → Supplies ps p bytes ps'
loaded_page ps mid ps' p before bytes frame there s is now =
    let twice : ps' ≡ set ps p (page.Private frame) =
    now ∙ ap (λ (l : List Page). set l p (page.Private frame)) s.pages ∙ set-set ps p (page.Private (own_frame (page_at mid p))) (page.Private frame) in
    let at : page_at ps' p ≡ page.Private frame = new_at ps ps' p (page.Private frame) there twice in
    record {
      pages = twice ∙ ap (λ (f : FrameIs). set ps p (page.Private f)) (sym (ap own_frame at));
      shows = ap shown at ∙ is;
    }

-- ---- one more page

pub on_ok_both : {T E P Q R : Type 0} (r : Result T E) → (P → Q → R) → OnOk r P → OnOk r Q → OnOk r R
on_ok_both (Ok x) f p q = f p q
on_ok_both (Err e) f p q = tt

-- a page is in a frame
pub in_frame : (held : ℕ → Option (List ℕ)) (ps ps' : List Page) (p : ℕ) (bytes : List ℕ) → p < length ps → Supplies ps p bytes ps' → IsLoaded held p bytes ps ps'
in_frame held ps ps' p bytes there s =
    let frame = own_frame (page_at ps' p) in
    let at : page_at ps' p ≡ page.Private frame = supplied_at ps ps' p bytes there s in
    record {
      others = λ o apart. other_at ps ps' p o (page.Private frame) s.pages apart;
      faithful = subst (IsFaithful bytes) (sym at) (sym (ap shown at) ∙ s.shows);
      lies = subst (IsHeld held bytes) (sym at) tt;
    }

pub in_frame_first : (pool pool' : FreeList) (ps ps' : List Page) (p : ℕ) (bytes : List ℕ) → p < length ps → Supplies ps p bytes ps' → 0 < length pool.free → IsFrameFirst pool pool' (page_at ps' p)
in_frame_first pool pool' ps ps' p bytes there s some =
    let here : kind_of (page_at ps' p) ≡ kind.Private = ap kind_of (supplied_at ps ps' p bytes there s) in
    record {
      free = λ e. some;
      full = λ e. let both : kind.Private ≡ kind.Swapped = sym here ∙ e in absurd (cc);
      stays = λ none. absurd (omega (arith, some, ap length none));
    }

-- a page is in a slot
in_slot : (held : ℕ → Option (List ℕ)) (ps ps' : List Page) (p : ℕ) (bytes : List ℕ) → p < length ps
    → ps' ≡ set ps p (page.Swapped (slot_of (page_at ps' p)) (sha256 bytes)) → AreHeld (held (slot_of (page_at ps' p))) bytes → IsLoaded held p bytes ps ps'
in_slot held ps ps' p bytes there is written =
    let away = page.Swapped (slot_of (page_at ps' p)) (sha256 bytes) in
    let at : page_at ps' p ≡ away = new_at ps ps' p away there is in
    record {
      others = λ o apart. other_at ps ps' p o away is apart;
      faithful = subst (IsFaithful bytes) (sym at) refl;
      lies = subst (IsHeld held bytes) (sym at) written;
    }

pub in_slot_bytes : (held : ℕ → Option (List ℕ)) (ps ps' : List Page) (p : ℕ) (written bytes : List ℕ) → written ≡ bytes → p < length ps
    → ps' ≡ set ps p (page.Swapped (slot_of (page_at ps' p)) (sha256 written)) → AreHeld (held (slot_of (page_at ps' p))) written → IsLoaded held p bytes ps ps'
in_slot_bytes held ps ps' p written bytes same there is lies = subst (λ (b : List ℕ). IsLoaded held p b ps ps') same (in_slot held ps ps' p written there is lies)

pub in_slot_kind : (ps ps' : List Page) (p : ℕ) (digest : List ℕ) → p < length ps → ps' ≡ set ps p (page.Swapped (slot_of (page_at ps' p)) digest) → kind_at ps' p ≡ kind.Swapped
in_slot_kind ps ps' p digest there is = ap kind_of (new_at ps ps' p (page.Swapped (slot_of (page_at ps' p)) digest) there is)

pub in_slot_last : (pool : FreeList) (ps' : List Page) (p : ℕ) → pool.free ≡ [] → kind_at ps' p ≡ kind.Swapped → IsFrameFirst pool pool (page_at ps' p)
in_slot_last pool ps' p none away = record {
  free = λ here. let both : kind.Private ≡ kind.Swapped = sym here ∙ away in absurd (cc);
  full = λ e. none;
  stays = λ e. e;
}

pub next_untouched : (image : Image) (next : ℕ) (ps ps' : List Page) → ((o : ℕ) → (o ≡ next → ⊥) → page_at ps' o ≡ page_at ps o) → (IsBeside image next → page_at ps' next ≡ page.Zero)
    → AreUntouched image next ps → AreUntouched image (next + 1) ps'
next_untouched image next ps ps' others now a = record {
  further = λ p past. others p (λ e. absurd (omega (arith, past, e))) ∙ a.further p (omega (arith, past));
  beside = λ p b. elim (cases_eq p next) [
    | inl e ↦ subst (λ (n : ℕ). IsBeside image n → page_at ps' n ≡ page.Zero) (sym e) now b
    | inr apart ↦ others p apart ∙ a.beside p b
  ];
}

-- of a slot that a page has, or that is free, there is one, and it is one of them all
pub slot_taken_once : (book : FreeList) (ps : List Page) (slots slot : ℕ) → ((k : ℕ) → count_of k book.free + slots_held k ps ≤ below k slots) → 0 < slots_held slot ps → count_of slot book.free ≡ 0
slot_taken_once book ps slots slot once some = omega (arith, once slot, some, below_one slot slots)

pub slot_among : (book : FreeList) (ps : List Page) (slots slot : ℕ) → ((k : ℕ) → count_of k book.free + slots_held k ps ≤ below k slots) → 0 < count_of slot book.free → slot < slots
slot_among book ps slots slot once free = elim (cases_lt slot slots) [
  | inl inside ↦ inside
  | inr past ↦ absurd (omega (arith, once slot, free, below_no slot slots past))
]

-- what was loaded stays so as the next page is
pub next_loaded : (book : FreeList) (held held' : ℕ → Option (List ℕ)) (image : Image) (slots count next : ℕ) (ps ps' : List Page) → length ps' ≡ length ps
    → ((o : ℕ) → (o ≡ next → ⊥) → page_at ps' o ≡ page_at ps o) → IsFaithful (boot_page image count next) (page_at ps' next) → IsHeld held' (boot_page image count next) (page_at ps' next)
    → UsedStay book held held' → ((k : ℕ) → count_of k book.free + slots_held k ps ≤ below k slots) → AreLoaded held image count next ps → AreLoaded held' image count (next + 1) ps'
next_loaded book held held' image slots count next ps ps' size others faithful lies used once a = record {
  faithful = λ p below inside. elim (cases_eq p next) [
    | inl e ↦ subst (λ (n : ℕ). IsFaithful (boot_page image count n) (page_at ps' n)) (sym e) faithful
    | inr apart ↦ subst (IsFaithful (boot_page image count p)) (sym (others p apart)) (a.faithful p (omega (arith, below, apart)) (omega (arith, inside, size)))
  ];
  lies = λ p below inside. elim (cases_eq p next) [
    | inl e ↦ subst (λ (n : ℕ). IsHeld held' (boot_page image count n) (page_at ps' n)) (sym e) lies
    | inr apart ↦ subst (IsHeld held' (boot_page image count p)) (sym (others p apart)) (still p (omega (arith, below, apart)) (omega (arith, inside, size)))
  ];
}
  where
    still : (p : ℕ) → p < next → p < length ps → IsHeld held' (boot_page image count p) (page_at ps p)
    still p below inside =
        used_held book held held' (boot_page image count p) (page_at ps p) used
        (λ slot some. slot_taken_once book ps slots slot once (omega (arith, some, get_or-le-sum_by (slot_in slot) ps p page.Zero inside))) (a.lies p below inside)

-- a page below the next one is no page that was never touched
kinds_apart : (ps : List Page) (p q : ℕ) → p ≡ q → kind_at ps p ≡ kind.Private → kind_at ps q ≡ kind.Swapped → ⊥
kinds_apart ps p q e here away =
    let both : kind.Private ≡ kind.Swapped = sym here ∙ ap (kind_at ps) e ∙ away in
    absurd (cc)

private_below : (image : Image) (next p : ℕ) (ps : List Page) → AreUntouched image next ps → kind_at ps p ≡ kind.Private → p < next
private_below image next p ps a here = elim (cases_lt p next) [
  | inl before ↦ before
  | inr past ↦ let both : kind.Zero ≡ kind.Private = sym (ap kind_of (a.further p past)) ∙ here in absurd (cc)
]

pub next_frames_first : (image : Image) (next : ℕ) (pool pool' : FreeList) (ps ps' : List Page) → ((o : ℕ) → (o ≡ next → ⊥) → page_at ps' o ≡ page_at ps o) → AreUntouched image next ps
    → IsFrameFirst pool pool' (page_at ps' next) → FramesFirst pool ps → FramesFirst pool' ps'
next_frames_first image next pool pool' ps ps' others a now f = record {
  full = λ q away. elim (cases_eq q next) [
    | inl e ↦ now.full (ap (kind_at ps') (sym e) ∙ away)
    | inr apart ↦ now.stays (f.full q (before q apart ∙ away))
  ];
  below = λ p q here away. elim (cases_eq p next) [
    | inl e ↦ elim (cases_eq q next) [
      | inl same ↦ absurd (kinds_apart ps' p q (e ∙ sym same) here away)
      | inr apart ↦ absurd (omega (arith, now.free (ap (kind_at ps') (sym e) ∙ here), ap length (f.full q (before q apart ∙ away))))
    ]
    | inr apart ↦ elim (cases_eq q next) [
      | inl same ↦ omega (arith, private_below image next p ps a (before p apart ∙ here), same)
      | inr other ↦ f.below p q (before p apart ∙ here) (before q other ∙ away)
    ]
  ];
}
  where
    before : (o : ℕ) → (o ≡ next → ⊥) → kind_at ps o ≡ kind_at ps' o
    before o apart = sym (ap kind_of (others o apart))

pub next_none_private : (next : ℕ) (pool pool' : FreeList) (ps ps' : List Page) → ((o : ℕ) → (o ≡ next → ⊥) → page_at ps' o ≡ page_at ps o)
    → IsFrameFirst pool pool' (page_at ps' next) → pool.free ≡ [] → NonePrivate ps → NonePrivate ps'
next_none_private next pool pool' ps ps' others now none before q here = elim (cases_eq q next) [
  | inl e ↦ absurd (omega (arith, now.free (ap (kind_at ps') (sym e) ∙ here), ap length none))
  | inr apart ↦ before q (sym (ap kind_of (others q apart)) ∙ here)
]

-- ---- a page that the image doesn't reach

zeros_faithful : (bytes : List ℕ) (q : Page) → q ≡ page.Zero → zeros 4096 ≡ bytes → IsFaithful bytes q
zeros_faithful bytes q is same = subst (IsFaithful bytes) (sym is) same

zeros_held : (held : ℕ → Option (List ℕ)) (bytes : List ℕ) (q : Page) → q ≡ page.Zero → IsHeld held bytes q
zeros_held held bytes q is = subst (IsHeld held bytes) (sym is) tt

pub beside_loaded : (book : FreeList) (held : ℕ → Option (List ℕ)) (image : Image) (slots next : ℕ) (ps : List Page) → next < length ps → FitsPages image (length ps) → IsBeside image next
    → ((k : ℕ) → count_of k book.free + slots_held k ps ≤ below k slots) → AreUntouched image next ps → AreLoaded held image (length ps) next ps → AreLoaded held image (length ps) (next + 1) ps
beside_loaded book held image slots next ps there fits beside once a l =
    let zero_page : page_at ps next ≡ page.Zero = a.further next (omega arith) in
    next_loaded book held held image slots (length ps) next ps ps refl (λ o apart. refl)
    (zeros_faithful (boot_page image (length ps) next) (page_at ps next) zero_page (sym (beside_is_zeros image (length ps) next there fits beside)))
    (zeros_held held (boot_page image (length ps) next) (page_at ps next) zero_page) (λ slot none. refl) once l

pub beside_untouched : (image : Image) (next : ℕ) (ps : List Page) → AreUntouched image next ps → AreUntouched image (next + 1) ps
beside_untouched image next ps a = next_untouched image next ps ps (λ o apart. refl) (λ b. a.further next (omega arith)) a

pub reached_not_beside : (image : Image) (p : ℕ) → Reaches image p → IsBeside image p → ⊥
reached_not_beside image p (k, s, inside, at, reached) beside =
    let no : segment_reaches p s ≡ false = subst (λ (q : Segment). segment_reaches p q ≡ false) at (beside k s inside) in
    absurd (cc)

-- ---- no page

pub same_at : {X : Type 0} (n k : ℕ) (x : X) → get_or (replicate n x) k x ≡ x
same_at zero k x = refl
same_at (suc n) zero x = refl
same_at (suc n) (suc k) x = same_at n k x

pub none_touched : (image : Image) (n : ℕ) (ps : List Page) → ps ≡ replicate n page.Zero → AreUntouched image 0 ps
none_touched image n ps is = record {
  further = λ p past. ap (λ (l : List Page). page_at l p) is ∙ same_at n p page.Zero;
  beside = λ p b. ap (λ (l : List Page). page_at l p) is ∙ same_at n p page.Zero;
}

pub none_loaded : (held : ℕ → Option (List ℕ)) (image : Image) (count : ℕ) (ps : List Page) → AreLoaded held image count 0 ps
none_loaded held image count ps = record { faithful = λ p below inside. absurd (omega (arith, below)); lies = λ p below inside. absurd (omega (arith, below)) }

pub zeros_none_private : (n : ℕ) (ps : List Page) → ps ≡ replicate n page.Zero → NonePrivate ps
zeros_none_private n ps is p here =
    let both : kind.Zero ≡ kind.Private = sym (ap kind_of (ap (λ (l : List Page). page_at l p) is ∙ same_at n p page.Zero)) ∙ here in
    absurd (cc)

pub none_away : (pool : FreeList) (n : ℕ) (ps : List Page) → ps ≡ replicate n page.Zero → FramesFirst pool ps
none_away pool n ps is = record {
  full = λ p away. absurd (zero_page p away);
  below = λ p q here away. absurd (zero_page q away);
}
  where
    zero_page : (p : ℕ) → kind_at ps p ≡ kind.Swapped → ⊥
    zero_page p away =
        let both : kind.Zero ≡ kind.Swapped = sym (ap kind_of (ap (λ (l : List Page). page_at l p) is ∙ same_at n p page.Zero)) ∙ away in
        absurd (cc)

pub none_held : (n : ℕ) (ps : List Page) (k : ℕ) → ps ≡ replicate n page.Zero → slots_held k ps ≡ 0
none_held n ps k is = omega (arith, ap (slots_held k) is, sum_by-replicate (slot_in k) n page.Zero)

pub untouched_reads : (es : EntriesAre) (n : ℕ) → Reads es (replicate n page.Zero)
untouched_reads es n p shared = let e = ap kind_of (same_at n p page.Zero) in absurd (cc)

-- ---- from the first page on

pub loading_once : (first ps : List Page) (pool pool' book book' : FreeList) (slots slots' n : ℕ) → first ≡ replicate n page.Zero → Conserves first pool book [] ps pool' book' []
    → ((k : ℕ) → count_of k book.free ≤ below k slots) → slots' ≡ slots → (k : ℕ) → count_of k book'.free + slots_held k ps ≤ below k slots'
loading_once first ps pool pool' book book' slots slots' n is c once same k =
    subst (λ (m : ℕ). count_of k book'.free + slots_held k ps ≤ below k m) (sym same) (omega (arith, c.slots.numbers k, none_held n first k is, once k))

pub loading_used : (first ps : List Page) (pool pool' book book' : FreeList) (n : ℕ) (held mid held' : ℕ → Option (List ℕ)) → first ≡ replicate n page.Zero → Conserves first pool book [] ps pool' book' []
    → UsedStay book held mid → UsedStay book' mid held' → UsedStay book held held'
loading_used first ps pool pool' book book' n held mid held' is c before now slot none =
    now slot (omega (arith, c.slots.numbers slot, none_held n first slot is, none)) ∙ before slot none

-- ---- all pages

fold_size : (segments : List Segment) (memory : List ℕ) (size : ℕ) → length memory ≡ size → ((k : ℕ) (d : Segment) → k < length segments → IsWithin size (get_or segments k d))
    → length (fold placed memory segments) ≡ size
fold_size [] memory size is within = is
fold_size (s ∷ segments) memory size is within =
    let first : IsWithin (length memory) s = subst (λ (n : ℕ). IsWithin n s) (sym is) (within 0 s (omega arith)) in
    fold_size segments (placed memory s) size (placed_size memory s first ∙ is) (λ k d h. within (suc k) d (omega (arith, h)))

boot_length : (image : Image) (count : ℕ) → FitsPages image count → length (boot_memory image count) ≡ count * 4096
boot_length image count fits = fold_size image.segments.items (zeros (count * 4096)) (count * 4096) (length-zeros (count * 4096)) (λ k d h. fits k d h)

pub booted_run : (held : ℕ → Option (List ℕ)) (profile : Profile) (image : Image) (count : ℕ) (g : GuestIs) → FitsPages image count → length g.bus.pages ≡ count
    → g.boot ≡ boot_machine profile image count → g.log.items ≡ [] → g.cpu ≡ g.boot.cpu → g.bus.devices ≡ g.boot.board.devices
    → AreLoaded held image count count g.bus.pages → Intact g × Kept held (pages_seen (view_of g)) g.bus.pages
booted_run held profile image count g fits size boot none cpu devices loaded =
    let view : view_of g ≡ boot_machine profile image count = ap (λ (items : List Item). run items g.boot) none ∙ boot in
    let faithful : Faithful (boot_page image count) g.bus.pages = λ p inside. loaded.faithful p (omega (arith, inside, size)) inside in (
      booted_intact g none cpu devices
          (ap (λ (m : Machine). length m.board.memory) boot ∙ boot_length image count fits ∙ sym (ap (λ (n : ℕ). n * 4096) size))
          (subst (λ (m : Machine). Faithful (pages_seen m) g.bus.pages) (sym boot) faithful),
      subst (λ (m : Machine). Kept held (pages_seen m) g.bus.pages) (sym view) (record {
        faithful = faithful;
        lies = λ p inside. loaded.lies p (omega (arith, inside, size)) inside;
      }),
    )

pub loaded_run : (held : ℕ → Option (List ℕ)) (profile : Profile) (image its_image loaded_image : Image) (count : ℕ) (g g' : GuestIs) → FitsPages image count → its_image ≡ image → loaded_image ≡ image
    → g.cpu ≡ g.boot.cpu → g.bus ≡ record { pages = replicate count page.Zero; devices = fresh_devices count; waiting = None } → g.boot ≡ boot_machine profile its_image count → g.log.items ≡ []
    → without_pages g' ≡ without_pages g → length g'.bus.pages ≡ length g.bus.pages
    → AreLoaded held loaded_image (length g.bus.pages) (length g.bus.pages) g'.bus.pages → Intact g' × Kept held (pages_seen (view_of g')) g'.bus.pages
loaded_run held profile image its_image loaded_image count g g' fits its same cpu bus boot none beside size loaded =
    let counted : length g.bus.pages ≡ count = ap (λ (b : GuestBusIs). length b.pages) bus ∙ length-replicate count page.Zero in
    let boots : g'.boot ≡ boot_machine profile image count = ap (λ (h : GuestIs). h.boot) beside ∙ boot ∙ ap (λ (i : Image). boot_machine profile i count) its in
    booted_run held profile image count g' fits (size ∙ counted) boots (ap (λ (h : GuestIs). h.log.items) beside ∙ none)
    (ap (λ (h : GuestIs). h.cpu) beside ∙ cpu ∙ sym (ap (λ (h : GuestIs). h.boot.cpu) beside))
    (ap (λ (h : GuestIs). h.bus.devices) beside ∙ ap (λ (b : GuestBusIs). b.devices) bus ∙ sym (ap (λ (m : Machine). m.board.devices) boots))
    (subst (λ (i : Image). AreLoaded held i count count g'.bus.pages) same (subst (λ (n : ℕ). AreLoaded held loaded_image n n g'.bus.pages) counted loaded))
