-- What exact books say of one owner's pages, with what lies around them.
use Rattle.std.proofs.Common.{ℕ, ◌<◌, List, length}
use Rattle.frames.specs.FreeList.{FreeList}
use Rattle.sharetab.specs.Entries.{EntriesAre}
use Rattle.guest_pages.specs.declared.page.Page.{Page}
use Rattle.page_moves.specs.Books.{Books, pages_of}
use Rattle.page_moves.proofs.Booking.{covered, own_once, handed_back_out, came_free_out, swapped_out, slot_inside, slot_apart, free_slot_inside}
use Rattle.tenant.specs.Lent.{Lent}

pub lent : (frames slots : ℕ) (all : List (List Page)) (es : EntriesAre) (pool book : FreeList) (i : ℕ)
    → Books frames slots all es pool book → i < length all → Lent slots (pages_of all i) pool book es
lent frames slots all es pool book i b there = record {
  covered = covered frames slots all es pool book i b there;
  own_once = own_once frames slots all es pool book i b there;
  page_out = λ p among. handed_back_out frames slots all es pool book i p b there among;
  frame_out = λ pages' entries' number m. came_free_out frames slots all i pages' es entries' pool book number b there m;
  slot_out = λ p among kind. swapped_out frames slots all es pool book i p b there among kind;
  its_slot = λ p among kind. slot_inside frames slots all es pool book i p b there among kind;
  slot_apart = λ slot free. slot_apart frames slots all es pool book i slot b there free;
  slot_inside = λ slot free. free_slot_inside frames slots all es pool book slot b free;
}
