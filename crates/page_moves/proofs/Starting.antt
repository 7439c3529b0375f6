-- Books of nothing, and an owner whose pages hold nothing.
use Rattle.std.proofs.Common.{ℕ, zero, suc, ◌≡◌, List, [], ◌∷◌, ◌++◌, get_or, replicate, refl, ap, arith, None}
use Rattle.std.proofs.lemmas.List.{length-replicate}
use Rattle.std.proofs.lemmas.List.Folds.{sum_by-replicate}
use Rattle.std.proofs.lemmas.List.Sums.{sum_by_push}
use Rattle.std.proofs.lemmas.List.Elements.{All-nil, All-push}
use Rattle.frames.specs.Counts.{count_of, below}
use Rattle.frames.specs.FreeList.{FreeList}
use Rattle.sharetab.specs.Entries.{EntriesAre, tickets_of, frame_in as entry_frame, one_entry}
use Rattle.guest_pages.specs.declared.page.Page.{Page}
use Rattle.guest_pages.specs.declared.page.Page.TheVariants as page
use Rattle.guest_pages.specs.Pages.{kind_of}
use Rattle.guest_pages.specs.Holdings.{frame_in, ticket_in, slot_in, one_private, one_swapped, frames_held, tickets_held, slots_held, private_pages, swapped_pages}
use Rattle.page_moves.specs.Moves.{Reads}
use Rattle.page_moves.specs.Books.{Books}

same_at : {X : Type 0} (n k : ℕ) (x : X) → get_or (replicate n x) k x ≡ x
same_at zero k x = refl
same_at (suc n) zero x = refl
same_at (suc n) (suc k) x = same_at n k x

pub books_of_nothing : (frames slots : ℕ) (pool book : FreeList) → ((k : ℕ) → count_of k pool.free ≡ below k frames) → pool.out ≡ 0
    → ((k : ℕ) → count_of k book.free ≡ below k slots) → book.out ≡ 0 → Books frames slots [] (replicate frames None) pool book
books_of_nothing frames slots pool book each none each_slot none_used = record {
  each_frame = λ k. omega (arith, each k, sum_by-replicate (entry_frame k) frames None);
  frames_out = omega (arith, none, sum_by-replicate one_entry frames None);
  each_slot = λ k. omega (arith, each_slot k);
  slots_out = omega (arith, none_used);
  tickets = λ k. ap tickets_of (same_at frames k None);
  places = length-replicate frames None;
  reads = All-nil (Reads (replicate frames None));
}

untouched_reads : (es : EntriesAre) (n : ℕ) → Reads es (replicate n page.Zero)
untouched_reads es n p shared = let e = ap kind_of (same_at n p page.Zero) in absurd (cc)

pub books_with_owner : (frames slots : ℕ) (all : List (List Page)) (es : EntriesAre) (pool book : FreeList) (n : ℕ) → Books frames slots all es pool book
    → Books frames slots (all ++ replicate n page.Zero ∷ []) es pool book
books_with_owner frames slots all es pool book n b =
    let new = replicate n page.Zero in
    record {
      each_frame = λ k. omega (arith, b.each_frame k, sum_by_push (frames_held k) all new, sum_by-replicate (frame_in k) n page.Zero);
      frames_out = omega (arith, b.frames_out, sum_by_push private_pages all new, sum_by-replicate one_private n page.Zero);
      each_slot = λ k. omega (arith, b.each_slot k, sum_by_push (slots_held k) all new, sum_by-replicate (slot_in k) n page.Zero);
      slots_out = omega (arith, b.slots_out, sum_by_push swapped_pages all new, sum_by-replicate one_swapped n page.Zero);
      tickets = λ k. omega (arith, b.tickets k, sum_by_push (tickets_held k) all new, sum_by-replicate (ticket_in k) n page.Zero);
      places = b.places;
      reads = All-push (Reads es) all new b.reads (untouched_reads es n);
    }
