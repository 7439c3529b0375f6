-- Pages with one outline hold the same.
use Rattle.std.proofs.Common.{◌≡◌, ℕ, List, [], ◌∷◌, ◌++◌, map, refl, sym, ap, ◌∙◌, subst, arith}
use Rattle.std.specs.List.{sum_by, All}
use Rattle.std.proofs.lemmas.List.Sums.{sum_by-cons}
use Rattle.std.proofs.lemmas.List.Elements.{All-nil, All-cons, All-head, All-tail}
use Rattle.frames.specs.FreeList.{FreeList}
use Rattle.sharetab.specs.Entries.{EntriesAre, entry_at, HasBytes}
use Rattle.guest_pages.specs.declared.page.Page.{Page}
use Rattle.guest_pages.specs.declared.page.Page.TheVariants as page
use Rattle.guest_pages.specs.declared.page.PageKind.TheVariants.{Shared}
use Rattle.guest_pages.specs.Outline.{outlined, outline}
use Rattle.guest_pages.specs.Pages.{kind_of, page_at, shown, ticket_of}
use Rattle.guest_pages.specs.Holdings.{frames_held, slots_held, tickets_held, private_pages, swapped_pages}
use Rattle.guest_pages.proofs.Outlines.{outline_at, outline_frames, outline_slots, outline_tickets, outline_private, outline_swapped}
use Rattle.page_moves.specs.Moves.{Conserves, Reads}
use Rattle.page_moves.specs.Books.{Books}
use Rattle.page_moves.proofs.Booking.{books_after}
use Rattle.page_moves.proofs.Exchanging.{same_bytes}
use Rattle.accounts.specs.OwnerShares.{on_its_way}

shared_same : (q r : Page) → outlined q ≡ outlined r → kind_of q ≡ Shared → q ≡ r
shared_same page.Zero r e shared = absurd (cc)
shared_same page.Given r e shared = absurd (cc)
shared_same (page.Private frame) r e shared = absurd (cc)
shared_same (page.Swapped slot digest) r e shared = absurd (cc)
shared_same (page.Shared share ticket) page.Zero e shared = absurd (cc)
shared_same (page.Shared share ticket) page.Given e shared = absurd (cc)
shared_same (page.Shared share ticket) (page.Private frame) e shared = absurd (cc)
shared_same (page.Shared share ticket) (page.Swapped slot digest) e shared = absurd (cc)
shared_same (page.Shared share ticket) (page.Shared share' ticket') e shared = e

module _ (ps ps' : List Page) (same : outline ps' ≡ outline ps) where
  pub same_frames : (k : ℕ) → frames_held k ps' ≡ frames_held k ps
  same_frames k = sym (outline_frames k ps') ∙ ap (frames_held k) same ∙ outline_frames k ps

  pub same_private : private_pages ps' ≡ private_pages ps
  same_private = sym (outline_private ps') ∙ ap private_pages same ∙ outline_private ps

  pub same_slots : (k : ℕ) → slots_held k ps' ≡ slots_held k ps
  same_slots k = sym (outline_slots k ps') ∙ ap (slots_held k) same ∙ outline_slots k ps

  pub same_swapped : swapped_pages ps' ≡ swapped_pages ps
  same_swapped = sym (outline_swapped ps') ∙ ap swapped_pages same ∙ outline_swapped ps

  pub same_tickets : (k : ℕ) → tickets_held k ps' ≡ tickets_held k ps
  same_tickets k = sym (outline_tickets k ps') ∙ ap (tickets_held k) same ∙ outline_tickets k ps

  outlined_at : (p : ℕ) → outlined (page_at ps' p) ≡ outlined (page_at ps p)
  outlined_at p = sym (outline_at ps' p) ∙ ap (λ (l : List Page). page_at l p) same ∙ outline_at ps p

  pub same_reads : (es : EntriesAre) → Reads es ps → Reads es ps'
  same_reads es reads p shared =
      let is : page_at ps' p ≡ page_at ps p = shared_same (page_at ps' p) (page_at ps p) (outlined_at p) shared in
      subst (λ (r : Page). HasBytes (shown r) (entry_at es (ticket_of r))) (sym is) (reads p (sym (ap kind_of is) ∙ shared))

  same_conserves : (pool book : FreeList) (es : EntriesAre) → Conserves ps pool book es ps' pool book es
  same_conserves pool book es = record {
    frames = record { numbers = λ k. omega (arith, same_frames k); out = omega (arith, same_private) };
    slots = record { numbers = λ k. omega (arith, same_slots k); out = omega (arith, same_swapped) };
    tickets = record { numbers = λ k. omega (arith, same_tickets k); bytes = same_bytes es; places = refl };
  }

  -- books of one are books of the other
  pub same_books : (frames slots : ℕ) (others : List (List Page)) (es : EntriesAre) (pool book : FreeList) → Books frames slots (ps ∷ others) es pool book → Books frames slots (ps' ∷ others) es pool book
  same_books frames slots others es pool book b =
      books_after frames slots (ps ∷ others) 0 ps' es es pool pool book book (omega arith) (same_conserves pool book es) (same_reads es (b.reads 0 [] (omega arith))) b

-- ---- outlines of outlines

outlined_twice : (q : Page) → outlined (outlined q) ≡ outlined q
outlined_twice page.Zero = refl
outlined_twice page.Given = refl
outlined_twice (page.Private frame) = refl
outlined_twice (page.Shared share ticket) = refl
outlined_twice (page.Swapped slot digest) = refl

pub outline_twice : (ps : List Page) → outline (outline ps) ≡ outline ps
outline_twice [] = refl
outline_twice (q ∷ ps) = ap (λ (x : Page). x ∷ outline (outline ps)) (outlined_twice q) ∙ ap (λ (l : List Page). outlined q ∷ l) (outline_twice ps)

outline_append : (ps qs : List Page) → outline (ps ++ qs) ≡ outline ps ++ outline qs
outline_append [] qs = refl
outline_append (q ∷ ps) qs = ap (λ (l : List Page). outlined q ∷ l) (outline_append ps qs)

-- the outline of what stands in a guest's account is that of its pages and of the frames in its hand
pub account_outline : (ps : List Page) (ns : List ℕ) → outline (outline ps ++ on_its_way ns) ≡ outline (ps ++ on_its_way ns)
account_outline ps ns =
    outline_append (outline ps) (on_its_way ns) ∙ ap (λ (l : List Page). l ++ outline (on_its_way ns)) (outline_twice ps) ∙ sym (outline_append ps (on_its_way ns))

-- from what stands in a guest's account to its pages, and back
pub of_account : (ps : List Page) (ns : List ℕ) (frames slots : ℕ) (others : List (List Page)) (es : EntriesAre) (pool book : FreeList)
    → Books frames slots ((outline ps ++ on_its_way ns) ∷ others) es pool book → Books frames slots ((ps ++ on_its_way ns) ∷ others) es pool book
of_account ps ns = same_books (outline ps ++ on_its_way ns) (ps ++ on_its_way ns) (sym (account_outline ps ns))

pub to_account : (ps : List Page) (ns : List ℕ) (frames slots : ℕ) (others : List (List Page)) (es : EntriesAre) (pool book : FreeList)
    → Books frames slots ((ps ++ on_its_way ns) ∷ others) es pool book → Books frames slots ((outline ps ++ on_its_way ns) ∷ others) es pool book
to_account ps ns = same_books (ps ++ on_its_way ns) (outline ps ++ on_its_way ns) (account_outline ps ns)

-- ---- the pages of all guests

outlines_sum : (f : List Page → ℕ) → ((ps : List Page) → f (outline ps) ≡ f ps) → (all : List (List Page)) → sum_by f (map outline all) ≡ sum_by f all
outlines_sum f same [] = refl
outlines_sum f same (ps ∷ all) =
    omega (arith, same ps, outlines_sum f same all, sum_by-cons f (outline ps) (map outline all), sum_by-cons f ps all)

reads_to : (es : EntriesAre) (all : List (List Page)) → All (Reads es) all → All (Reads es) (map outline all)
reads_to es [] h = All-nil (Reads es)
reads_to es (ps ∷ all) h =
    All-cons (Reads es) (outline ps) (map outline all) (same_reads ps (outline ps) (outline_twice ps) es (All-head (Reads es) ps all h)) (reads_to es all (All-tail (Reads es) ps all h))

reads_of : (es : EntriesAre) (all : List (List Page)) → All (Reads es) (map outline all) → All (Reads es) all
reads_of es [] h = All-nil (Reads es)
reads_of es (ps ∷ all) h =
    All-cons (Reads es) ps all (same_reads (outline ps) ps (sym (outline_twice ps)) es (All-head (Reads es) (outline ps) (map outline all) h))
    (reads_of es all (All-tail (Reads es) (outline ps) (map outline all) h))

module _ (frames slots : ℕ) (all : List (List Page)) (es : EntriesAre) (pool book : FreeList) where
  pub books_to_outlines : Books frames slots all es pool book → Books frames slots (map outline all) es pool book
  books_to_outlines b = record {
    each_frame = λ k. omega (arith, b.each_frame k, outlines_sum (frames_held k) (outline_frames k) all);
    frames_out = omega (arith, b.frames_out, outlines_sum private_pages outline_private all);
    each_slot = λ k. omega (arith, b.each_slot k, outlines_sum (slots_held k) (outline_slots k) all);
    slots_out = omega (arith, b.slots_out, outlines_sum swapped_pages outline_swapped all);
    tickets = λ k. omega (arith, b.tickets k, outlines_sum (tickets_held k) (outline_tickets k) all);
    places = b.places;
    reads = reads_to es all b.reads;
  }

  pub books_of_outlines : Books frames slots (map outline all) es pool book → Books frames slots all es pool book
  books_of_outlines b = record {
    each_frame = λ k. omega (arith, b.each_frame k, outlines_sum (frames_held k) (outline_frames k) all);
    frames_out = omega (arith, b.frames_out, outlines_sum private_pages outline_private all);
    each_slot = λ k. omega (arith, b.each_slot k, outlines_sum (slots_held k) (outline_slots k) all);
    slots_out = omega (arith, b.slots_out, outlines_sum swapped_pages outline_swapped all);
    tickets = λ k. omega (arith, b.tickets k, outlines_sum (tickets_held k) (outline_tickets k) all);
    places = b.places;
    reads = reads_of es all b.reads;
  }
