-- From what a move of pages ensures to what settling asks.
use Rattle.std.proofs.Common.{◌≡◌, ℕ, ◌+◌, ◌<◌, ◌≤◌, List, [], ◌∷◌, length, set, refl, sym, ap, ◌∙◌, subst, arith, inl, inr, Option}
use Rattle.std.specs.Option.{option_to_list}
use Rattle.std.proofs.lemmas.Bool.{cases_lt}
use Rattle.std.proofs.lemmas.List.{set_past}
use Rattle.frames.specs.Counts.{one_at, count_of}
use Rattle.frames.specs.Frames.{FrameIs}
use Rattle.frames.specs.FreeList.{FreeList}
use Rattle.frames.proofs.Counting.{count_one, one_same}
use Rattle.sharetab.specs.Entries.{EntriesAre, entry_at, freed_frame}
use Rattle.sharetab.specs.Books.{Leaves, freed_at}
use Rattle.sharetab.proofs.Books.{leave_frames, leave_entries, leave_tickets, leave_bytes, leave_places}
use Rattle.guest_pages.specs.declared.page.Page.{Page}
use Rattle.guest_pages.specs.declared.page.Page.TheVariants as page
use Rattle.guest_pages.specs.declared.page.Returned.{Returned}
use Rattle.guest_pages.specs.declared.page.Returned.TheVariants as returned
use Rattle.guest_pages.specs.Outline.{outline}
use Rattle.guest_pages.specs.Pages.{page_at, handed_back}
use Rattle.guest_pages.specs.Holdings.{frame_in, ticket_in, slot_in, one_private, one_swapped}
use Rattle.page_moves.specs.Moves.{Takes, Gives, MovesFrames, MovesSlots, MovesTickets, Conserves, Reads, Covered}
use Rattle.page_moves.specs.Returns.{slot_of, one_slot, Frees}
use Rattle.page_moves.proofs.Booking.{slot_taken}
use Rattle.page_moves.proofs.Exchanging.{exchanged, reads_stay, reads_by_page, same_bytes}
use Rattle.page_moves.proofs.GoingBack.{hands_back}
use Rattle.ledger.specs.Shares.{LedgerId, ShareIs}
use Rattle.accounts.specs.declared.account.Account.{Account}
use Rattle.accounts.specs.declared.account.Account.TheVariants.{Table, Slots}
use Rattle.accounts.specs.OwnerShares.{share_of, guest_share}
use Rattle.accounts.specs.Settling.{KeepsFrames, Moves, Moved, MovedWithTable, MovedWithSlots, MovedWithBoth}
use Rattle.accounts.proofs.OnItsWay.{past_is_zero}
use Rattle.accounts.proofs.Outlines.{same_frames, same_private, same_slots, same_swapped, same_tickets, same_reads}

abbrev pool_of : List ℕ → ℕ → FreeList
pool_of free out = record { free = free; out = out }

nothing_in : FreeList
nothing_in = pool_of [] 0

-- a pool of one number, which is taken
one_taken : (number : ℕ) → Takes (pool_of (number ∷ []) 0) number (pool_of [] 1)
one_taken number = record { numbers = λ k. omega (arith, count_one k number); out = refl }

-- the number in hand was taken from a pool
from_pool : (ps ps' : List Page) (es es' : EntriesAre) (number : ℕ) (came : List ℕ) → ((pool rest : FreeList) → Takes pool number rest → MovesFrames ps pool es ps' rest es' came)
    → KeepsFrames ps (number ∷ []) es ps' came es'
from_pool ps ps' es es' number came moves =
    let m = moves (pool_of (number ∷ []) 0) (pool_of [] 1) (one_taken number) in
    record { numbers = λ k. omega (arith, m.numbers k); out = omega (arith, m.out) }

-- no number was in hand
from_none : (ps ps' : List Page) (es es' : EntriesAre) (came : List ℕ) → ((pool : FreeList) → MovesFrames ps pool es ps' pool es' came) → KeepsFrames ps [] es ps' came es'
from_none ps ps' es es' came moves =
    let m = moves (pool_of [] 0) in
    record { numbers = λ k. omega (arith, m.numbers k); out = omega (arith, m.out) }

-- ---- supplies

pub first_moved : (l : LedgerId) (g : ShareIs Account) (ps ps' : List Page) (number : ℕ) → g ≡ guest_share l ps (number ∷ [])
    → ((pool rest book : FreeList) (es : EntriesAre) → Takes pool number rest → Conserves ps pool book es ps' rest book es)
    → ((es : EntriesAre) → Reads es ps → Reads es ps') → Moved l g ps' []
first_moved l g ps ps' number was conserves reads = record {
  pages = ps;
  hand = number ∷ [];
  was = was;
  moves = λ es book. record {
    frames = from_pool ps ps' es es number [] (λ pool rest taken. (conserves pool rest book es taken).frames);
    slots = (conserves (pool_of (number ∷ []) 0) (pool_of [] 1) book es (one_taken number)).slots;
    tickets = (conserves (pool_of (number ∷ []) 0) (pool_of [] 1) book es (one_taken number)).tickets;
    reads = reads es;
  };
}

pub copy_moved : (l : LedgerId) (g t : ShareIs Account) (ps ps' : List Page) (number : ℕ) (es es' : EntriesAre) (came : List ℕ) → g ≡ guest_share l ps (number ∷ []) → t ≡ share_of l (Table es)
    → ((pool rest : FreeList) → Takes pool number rest → MovesFrames ps pool es ps' rest es' came)
    → ((book : FreeList) → MovesSlots ps book ps' book []) → MovesTickets ps es ps' es'
    → (Reads es ps → Reads es' ps') → MovedWithTable l g t ps' came es'
copy_moved l g t ps ps' number es es' came was table_was frames slots tickets reads = record {
  pages = ps;
  hand = number ∷ [];
  entries = es;
  was = was;
  table_was = table_was;
  moves = λ book. record { frames = from_pool ps ps' es es' number came frames; slots = slots book; tickets = tickets; reads = reads };
}

pub swapped_moved : (l : LedgerId) (g s : ShareIs Account) (ps ps' : List Page) (number slot : ℕ) (book book' : FreeList) → g ≡ guest_share l ps (number ∷ []) → s ≡ share_of l (Slots book)
    → ((pool rest book book' : FreeList) (es : EntriesAre) → Takes pool number rest → Gives book slot book' → Conserves ps pool book es ps' rest book' es)
    → Gives book slot book' → ((es : EntriesAre) → Reads es ps → Reads es ps') → MovedWithSlots l g s ps' [] book'
swapped_moved l g s ps ps' number slot book book' was slots_were conserves gives reads = record {
  pages = ps;
  hand = number ∷ [];
  book = book;
  was = was;
  slots_were = slots_were;
  moves = λ es. record {
    frames = from_pool ps ps' es es number [] (λ pool rest taken. (conserves pool rest book book' es taken gives).frames);
    slots = (conserves (pool_of (number ∷ []) 0) (pool_of [] 1) book book' es (one_taken number) gives).slots;
    tickets = (conserves (pool_of (number ∷ []) 0) (pool_of [] 1) book book' es (one_taken number) gives).tickets;
    reads = reads es;
  };
}

-- ---- scans and evictions

pub scan_moved : (l : LedgerId) (g t : ShareIs Account) (ps ps' : List Page) (es es' : EntriesAre) (came : List ℕ) → g ≡ guest_share l ps [] → t ≡ share_of l (Table es)
    → ((pool : FreeList) → MovesFrames ps pool es ps' pool es' came)
    → ((book : FreeList) → MovesSlots ps book ps' book []) → MovesTickets ps es ps' es'
    → (Reads es ps → Reads es' ps') → MovedWithTable l g t ps' came es'
scan_moved l g t ps ps' es es' came was table_was frames slots tickets reads = record {
  pages = ps;
  hand = [];
  entries = es;
  was = was;
  table_was = table_was;
  moves = λ book. record { frames = from_none ps ps' es es' came frames; slots = slots book; tickets = tickets; reads = reads };
}

pub evict_moved : (l : LedgerId) (g t s : ShareIs Account) (ps ps' : List Page) (es es' : EntriesAre) (slot : ℕ) (book taken : FreeList) (came : List ℕ) → g ≡ guest_share l ps [] → t ≡ share_of l (Table es) → s ≡ share_of l (Slots book)
    → ((pool : FreeList) → MovesFrames ps pool es ps' pool es' came)
    → Takes book slot taken → ((b : FreeList) → MovesSlots ps b ps' b (slot ∷ [])) → MovesTickets ps es ps' es'
    → (Reads es ps → Reads es' ps') → MovedWithBoth l g t s ps' came es' taken
evict_moved l g t s ps ps' es es' slot book taken came was table_was slots_were frames takes used tickets reads = record {
  pages = ps;
  hand = [];
  entries = es;
  book = book;
  was = was;
  table_was = table_was;
  slots_were = slots_were;
  moves = record { frames = from_none ps ps' es es' came frames; slots = slot_taken ps book taken ps' slot takes (used taken); tickets = tickets; reads = reads };
}

-- no page changed
nothing_moves : (ps : List Page) (hand : List ℕ) (es : EntriesAre) (book book' : FreeList) → ((k : ℕ) → count_of k book'.free ≡ count_of k book.free) → book'.out ≡ book.out
    → Moves ps hand es book ps hand es book'
nothing_moves ps hand es book book' same out = record {
  frames = record { numbers = λ k. refl; out = refl };
  slots = record { numbers = λ k. omega (arith, same k); out = omega (arith, out) };
  tickets = record { numbers = λ k. refl; bytes = same_bytes es; places = refl };
  reads = λ r. r;
}

pub stays_moved : (l : LedgerId) (g s : ShareIs Account) (ps ps' : List Page) (hand : List ℕ) (slot : ℕ) (book taken book' : FreeList) → g ≡ guest_share l ps hand → s ≡ share_of l (Slots book) → ps' ≡ ps
    → Takes book slot taken → Gives taken slot book' → MovedWithSlots l g s ps' hand book'
stays_moved l g s ps ps' hand slot book taken book' was slots_were stays takes gives = record {
  pages = ps;
  hand = hand;
  book = book;
  was = was;
  slots_were = slots_were;
  moves = λ es. subst (λ (x : List Page). Moves ps hand es book x hand es book') (sym stays)
      (nothing_moves ps hand es book book' (λ k. omega (arith, takes.numbers k, gives.numbers k)) (omega (arith, takes.out, gives.out)));
}

-- ---- a page that a step gave

module _ (ps mid ps' : List Page) (p : ℕ) (same : outline mid ≡ outline ps) (is : ps' ≡ set mid p page.Given) where
  -- it was there, and what it handed back has left
  given_moves : (es es' : EntriesAre) (came : List ℕ) (book book' : FreeList) → p < length mid → Frees (handed_back (page_at mid p)) es es' came
      → ((k : ℕ) → count_of k book'.free ≡ count_of k book.free + slot_of k (handed_back (page_at mid p))) → book'.out + one_slot (handed_back (page_at mid p)) ≡ book.out
      → (Reads es mid → Reads es' ps') → Moves ps [] es book ps' came es' book'
  given_moves es es' came book book' there frees back out reads =
      let h = hands_back (page_at mid p) in
      record {
        frames = record {
          numbers = λ k. omega (arith, frees.frames k, h.frame k, exchanged (frame_in k) mid ps' p page.Given there is, same_frames ps mid same k);
          out = omega (arith, frees.frames_out, h.private, exchanged one_private mid ps' p page.Given there is, same_private ps mid same);
        };
        slots = record {
          numbers = λ k. omega (arith, back k, h.slot k, exchanged (slot_in k) mid ps' p page.Given there is, same_slots ps mid same k);
          out = omega (arith, out, h.swapped, exchanged one_swapped mid ps' p page.Given there is, same_swapped ps mid same);
        };
        tickets = record {
          numbers = λ k. omega (arith, frees.tickets k, h.ticket k, exchanged (ticket_in k) mid ps' p page.Given there is, same_tickets ps mid same k);
          bytes = frees.bytes;
          places = frees.places;
        };
        reads = λ r. reads (same_reads ps mid same es r);
      }

  given_stays : (es : EntriesAre) → p < length mid → Reads es mid → Reads es ps'
  given_stays es there r = reads_stay es mid ps' p page.Given there is (λ e. absurd (cc)) r

  -- there is no such page
  past_moves : (es : EntriesAre) (book : FreeList) → length mid ≤ p → Moves ps [] es book ps' [] es book
  past_moves es book past =
      let stays : ps' ≡ mid = is ∙ set_past mid p page.Given past in
      subst (λ (x : List Page). Moves ps [] es book x [] es book) (sym stays) (record {
        frames = record { numbers = λ k. omega (arith, same_frames ps mid same k); out = omega (arith, same_private ps mid same) };
        slots = record { numbers = λ k. omega (arith, same_slots ps mid same k); out = omega (arith, same_swapped ps mid same) };
        tickets = record { numbers = λ k. omega (arith, same_tickets ps mid same k); bytes = same_bytes es; places = refl };
        reads = same_reads ps mid same es;
      })

  past_nothing : length mid ≤ p → handed_back (page_at mid p) ≡ returned.Nothing
  past_nothing past = ap handed_back (past_is_zero mid p past)

frees_nothing : (es : EntriesAre) → Frees returned.Nothing es es []
frees_nothing es = record { frames = λ k. omega arith; frames_out = omega arith; tickets = λ k. omega arith; bytes = same_bytes es; places = refl }

frees_frame : (frame : FrameIs) (es : EntriesAre) → Frees (returned.Frame frame) es es (frame.number ∷ [])
frees_frame frame es = record { frames = λ k. omega (arith, count_one k frame.number); frames_out = omega arith; tickets = λ k. omega arith; bytes = same_bytes es; places = refl }

frees_slot : (slot : ℕ) (es : EntriesAre) → Frees (returned.Slot slot) es es []
frees_slot slot es = record { frames = λ k. omega arith; frames_out = omega arith; tickets = λ k. omega arith; bytes = same_bytes es; places = refl }

frees_ticket : (ticket : ℕ) (es es' : EntriesAre) → Leaves es ticket es' → Frees (returned.Ticket ticket) es es' (freed_at es ticket)
frees_ticket ticket es es' left = record {
  frames = λ k. omega (arith, leave_frames k ticket es es' left);
  frames_out = omega (arith, leave_entries ticket es es' left);
  tickets = λ k. leave_tickets k ticket es es' left;
  bytes = leave_bytes ticket es es' left;
  places = leave_places ticket es es' left;
}

frame_not_nothing : (frame : FrameIs) → returned.Nothing ≡ returned.Frame frame → ⊥
frame_not_nothing frame e = absurd (cc)

ticket_not_nothing : (ticket : ℕ) → returned.Nothing ≡ returned.Ticket ticket → ⊥
ticket_not_nothing ticket e = absurd (cc)

slot_not_nothing : (slot : ℕ) → returned.Nothing ≡ returned.Slot slot → ⊥
slot_not_nothing slot e = absurd (cc)

pub given_nothing_moved : (l : LedgerId) (g : ShareIs Account) (ps mid ps' : List Page) (p : ℕ) → g ≡ guest_share l ps [] → outline mid ≡ outline ps → ps' ≡ set mid p page.Given
    → handed_back (page_at mid p) ≡ returned.Nothing → Moved l g ps' []
given_nothing_moved l g ps mid ps' p was same is what = record {
  pages = ps;
  hand = [];
  was = was;
  moves = λ es book. elim (cases_lt p (length mid)) [
    | inl there ↦ given_moves ps mid ps' p same is es es [] book book there (subst (λ (r : Returned). Frees r es es []) (sym what) (frees_nothing es))
        (λ k. omega (arith, ap (slot_of k) what)) (omega (arith, ap one_slot what)) (given_stays ps mid ps' p same is es there)
    | inr past ↦ past_moves ps mid ps' p same is es book past
  ];
}

pub given_frame_moved : (l : LedgerId) (g : ShareIs Account) (ps mid ps' : List Page) (p : ℕ) (frame : FrameIs) → g ≡ guest_share l ps [] → outline mid ≡ outline ps → ps' ≡ set mid p page.Given
    → handed_back (page_at mid p) ≡ returned.Frame frame → Moved l g ps' (frame.number ∷ [])
given_frame_moved l g ps mid ps' p frame was same is what = record {
  pages = ps;
  hand = [];
  was = was;
  moves = λ es book. elim (cases_lt p (length mid)) [
    | inl there ↦ given_moves ps mid ps' p same is es es (frame.number ∷ []) book book there (subst (λ (r : Returned). Frees r es es (frame.number ∷ [])) (sym what) (frees_frame frame es))
        (λ k. omega (arith, ap (slot_of k) what)) (omega (arith, ap one_slot what)) (given_stays ps mid ps' p same is es there)
    | inr past ↦ absurd (frame_not_nothing frame (sym (past_nothing ps mid ps' p same is past) ∙ what))
  ];
}

pub given_ticket_moved : (l : LedgerId) (g t : ShareIs Account) (ps mid ps' : List Page) (p ticket : ℕ) (es es' : EntriesAre) (came : Option ℕ) → g ≡ guest_share l ps [] → t ≡ share_of l (Table es)
    → outline mid ≡ outline ps → ps' ≡ set mid p page.Given → handed_back (page_at mid p) ≡ returned.Ticket ticket → Covered es ps → Leaves es ticket es' → came ≡ freed_frame (entry_at es ticket)
    → MovedWithTable l g t ps' (option_to_list came) es'
given_ticket_moved l g t ps mid ps' p ticket es es' came was table_was same is what covers left freed = record {
  pages = ps;
  hand = [];
  entries = es;
  was = was;
  table_was = table_was;
  moves = λ book. elim (cases_lt p (length mid)) [
    | inl there ↦
        let h = hands_back (page_at mid p) in
        let frees : Frees (handed_back (page_at mid p)) es es' (option_to_list came) = subst (λ (r : Returned). Frees r es es' (option_to_list came)) (sym what)
        (subst (λ (o : Option ℕ). Frees (returned.Ticket ticket) es es' (option_to_list o)) (sym freed) (frees_ticket ticket es es' left)) in
        let moves : MovesTickets mid es ps' es' = record {
          numbers = λ k. omega (arith, frees.tickets k, h.ticket k, exchanged (ticket_in k) mid ps' p page.Given there is);
          bytes = frees.bytes;
          places = frees.places;
        } in
        given_moves ps mid ps' p same is es es' (option_to_list came) book book there frees
        (λ k. omega (arith, ap (slot_of k) what)) (omega (arith, ap one_slot what))
        (reads_by_page es es' mid ps' p page.Given there is (λ e. absurd (cc)) moves (λ k. omega (arith, covers k, same_tickets ps mid same k)))
    | inr past ↦ absurd (ticket_not_nothing ticket (sym (past_nothing ps mid ps' p same is past) ∙ what))
  ];
}

pub given_slot_moved : (l : LedgerId) (g s : ShareIs Account) (ps mid ps' : List Page) (p slot : ℕ) (book book' : FreeList) → g ≡ guest_share l ps [] → s ≡ share_of l (Slots book)
    → outline mid ≡ outline ps → ps' ≡ set mid p page.Given → handed_back (page_at mid p) ≡ returned.Slot slot → Gives book slot book' → MovedWithSlots l g s ps' [] book'
given_slot_moved l g s ps mid ps' p slot book book' was slots_were same is what gives = record {
  pages = ps;
  hand = [];
  book = book;
  was = was;
  slots_were = slots_were;
  moves = λ es. elim (cases_lt p (length mid)) [
    | inl there ↦ given_moves ps mid ps' p same is es es [] book book' there (subst (λ (r : Returned). Frees r es es []) (sym what) (frees_slot slot es))
        (λ k. omega (arith, ap (slot_of k) what, gives.numbers k)) (omega (arith, ap one_slot what, gives.out)) (given_stays ps mid ps' p same is es there)
    | inr past ↦ absurd (slot_not_nothing slot (sym (past_nothing ps mid ps' p same is past) ∙ what))
  ];
}

-- ---- slots

pub taken_was_free : (old new : List ℕ) (slot : ℕ) → ((k : ℕ) → count_of k old ≡ count_of k new + one_at k slot) → 0 < count_of slot old
taken_was_free old new slot taken = omega (arith, taken slot, one_same slot)
