-- What a page handed back is gone back.
use Rattle.std.proofs.Common.{ℕ, ◌≡◌, ◌+◌, ◌<◌, List, [], length, set, refl, ap, ◌∙◌, arith, Option}
use Rattle.std.specs.Option.{option_to_list}
use Rattle.frames.specs.Counts.{one_at, count_of}
use Rattle.frames.specs.FreeList.{FreeList}
use Rattle.sharetab.specs.Entries.{EntriesAre, entry_at, frames_shared, entry_count, freed_frame}
use Rattle.sharetab.specs.Books.{Leaves}
use Rattle.sharetab.proofs.Books.{leave_frames, leave_entries, leave_tickets, leave_bytes, leave_places}
use Rattle.guest_pages.specs.declared.page.Page.{Page}
use Rattle.guest_pages.specs.declared.page.Page.TheVariants as page
use Rattle.guest_pages.specs.declared.page.Returned.TheVariants as returned
use Rattle.guest_pages.specs.Pages.{page_at, handed_back}
use Rattle.guest_pages.specs.Holdings.{frame_in, ticket_in, slot_in, one_private, one_swapped}
use Rattle.page_moves.specs.Moves.{Conserves}
use Rattle.page_moves.specs.Returns.{frame_of, ticket_of, slot_of, one_frame, one_slot, GoesBack}
use Rattle.page_moves.proofs.Exchanging.{frames_by_page, slots_by_page, tickets_by_page, same_bytes}

-- ---- a ticket comes back

pub left_frames : (es es' : EntriesAre) (t : ℕ) (freed : Option ℕ) → Leaves es t es' → freed ≡ freed_frame (entry_at es t)
    → (k : ℕ) → frames_shared k es' + count_of k (option_to_list freed) ≡ frames_shared k es
left_frames es es' t freed l is k = ap (λ (o : Option ℕ). frames_shared k es' + count_of k (option_to_list o)) is ∙ leave_frames k t es es' l

pub left_entries : (es es' : EntriesAre) (t : ℕ) (freed : Option ℕ) → Leaves es t es' → freed ≡ freed_frame (entry_at es t)
    → entry_count es' + length (option_to_list freed) ≡ entry_count es
left_entries es es' t freed l is = ap (λ (o : Option ℕ). entry_count es' + length (option_to_list o)) is ∙ leave_entries t es es' l

-- ---- each kind goes back

same_pool : (pool : FreeList) (k : ℕ) → count_of k pool.free ≡ count_of k pool.free
same_pool pool k = refl

pub nothing_back : (pool slots : FreeList) (es : EntriesAre) → GoesBack returned.Nothing pool slots es pool slots es
nothing_back pool slots es = record {
  frames = λ k. omega arith;
  frames_out = omega arith;
  free_slots = λ k. omega arith;
  slots_out = omega arith;
  tickets = λ k. omega arith;
  bytes = same_bytes es;
  places = refl;
}

pub frame_back : (frame : Rattle.frames.specs.Frames.FrameIs) (pool slots pool' : FreeList) (es : EntriesAre)
    → ((k : ℕ) → count_of k pool'.free ≡ count_of k pool.free + one_at k frame.number) → pool'.out + 1 ≡ pool.out
    → GoesBack (returned.Frame frame) pool slots es pool' slots es
frame_back frame pool slots pool' es numbers out = record {
  frames = λ k. omega (arith, numbers k);
  frames_out = omega (arith, out);
  free_slots = λ k. omega arith;
  slots_out = omega arith;
  tickets = λ k. omega arith;
  bytes = same_bytes es;
  places = refl;
}

pub slot_back : (slot : ℕ) (pool slots slots' : FreeList) (es : EntriesAre)
    → ((k : ℕ) → count_of k slots'.free ≡ count_of k slots.free + one_at k slot) → slots'.out + 1 ≡ slots.out
    → GoesBack (returned.Slot slot) pool slots es pool slots' es
slot_back slot pool slots slots' es numbers out = record {
  frames = λ k. omega arith;
  frames_out = omega arith;
  free_slots = λ k. omega (arith, numbers k);
  slots_out = omega (arith, out);
  tickets = λ k. omega arith;
  bytes = same_bytes es;
  places = refl;
}

pub ticket_gone : (ticket : ℕ) (pool slots pool' : FreeList) (es es' : EntriesAre)
    → ((k : ℕ) → count_of k pool'.free + frames_shared k es' ≡ count_of k pool.free + frames_shared k es) → pool'.out + entry_count es ≡ pool.out + entry_count es'
    → Leaves es ticket es'
    → GoesBack (returned.Ticket ticket) pool slots es pool' slots es'
ticket_gone ticket pool slots pool' es es' numbers out l = record {
  frames = λ k. omega (arith, numbers k);
  frames_out = omega (arith, out);
  free_slots = λ k. omega arith;
  slots_out = omega arith;
  tickets = λ k. leave_tickets k ticket es es' l;
  bytes = leave_bytes ticket es es' l;
  places = leave_places ticket es es' l;
}

-- ---- a page is given

-- what a page hands back is what it held
pub record HandsBack (q : Page) : Type 0 where
  pub frame : (k : ℕ) → frame_of k (handed_back q) ≡ frame_in k q
  pub ticket : (k : ℕ) → ticket_of k (handed_back q) ≡ ticket_in k q
  pub slot : (k : ℕ) → slot_of k (handed_back q) ≡ slot_in k q
  pub private : one_frame (handed_back q) ≡ one_private q
  pub swapped : one_slot (handed_back q) ≡ one_swapped q

pub hands_back : (q : Page) → HandsBack q
hands_back page.Zero = record { frame = λ k. refl; ticket = λ k. refl; slot = λ k. refl; private = refl; swapped = refl }
hands_back page.Given = record { frame = λ k. refl; ticket = λ k. refl; slot = λ k. refl; private = refl; swapped = refl }
hands_back (page.Private frame) = record { frame = λ k. refl; ticket = λ k. refl; slot = λ k. refl; private = refl; swapped = refl }
hands_back (page.Shared share ticket) = record { frame = λ k. refl; ticket = λ k. refl; slot = λ k. refl; private = refl; swapped = refl }
hands_back (page.Swapped slot digest) = record { frame = λ k. refl; ticket = λ k. refl; slot = λ k. refl; private = refl; swapped = refl }

pub given_conserves : (ps ps' : List Page) (p : ℕ) (pool book : FreeList) (es : EntriesAre) (pool' book' : FreeList) (es' : EntriesAre) → p < length ps
    → ps' ≡ set ps p page.Given → GoesBack (handed_back (page_at ps p)) pool book es pool' book' es' → Conserves ps pool book es ps' pool' book' es'
given_conserves ps ps' p pool book es pool' book' es' there is g =
    let h = hands_back (page_at ps p) in
    record {
      frames = frames_by_page ps pool es ps' pool' es' [] p page.Given there is (λ k. omega (arith, g.frames k, h.frame k)) (omega (arith, g.frames_out, h.private));
      slots = slots_by_page ps book ps' book' [] p page.Given there is (λ k. omega (arith, g.free_slots k, h.slot k)) (omega (arith, g.slots_out, h.swapped));
      tickets = tickets_by_page ps es ps' es' p page.Given there is (λ k. omega (arith, g.tickets k, h.ticket k)) g.bytes g.places;
    }
