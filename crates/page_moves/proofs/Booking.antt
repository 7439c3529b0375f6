-- From one list of pages to all, and back.
use Rattle.std.proofs.Common.{ℕ, ◌≡◌, ◌+◌, ◌<◌, ◌≤◌, inl, inr, List, [], ◌∷◌, length, set, get_or, refl, sym, ap, subst, ◌∙◌, arith, length-set, Option, Some, None}
use Rattle.std.proofs.lemmas.Bool.{cases_eq, cases_lt}
use Rattle.std.proofs.lemmas.List.{get_or-set_same, get_or-set_other}
use Rattle.std.proofs.lemmas.List.Sums.{sum_by-set, get_or-le-sum_by}
use Rattle.std.proofs.lemmas.List.Elements.{All-get_or, All-from_get_or}
use Rattle.std.specs.List.{sum_by}
use Rattle.frames.specs.Counts.{one_at, count_of, below}
use Rattle.frames.specs.FreeList.{FreeList}
use Rattle.frames.proofs.Counting.{one_same, below_yes, below_no, count_one}
use Rattle.sharetab.specs.Entries.{EntriesAre, entry_at, count_at, one_entry, tickets_of}
use Rattle.sharetab.proofs.Books.{count_inside}
use Rattle.guest_pages.specs.declared.page.Page.{Page}
use Rattle.guest_pages.specs.declared.page.Page.TheVariants as page
use Rattle.guest_pages.specs.declared.page.PageKind.TheVariants.{Private, Shared, Swapped}
use Rattle.guest_pages.specs.Pages.{kind_of, page_at, kind_at, shown, ticket_of, slot_of, handed_back}
use Rattle.guest_pages.specs.Holdings.{slot_in, one_private, one_swapped, frames_held, tickets_held, slots_held, private_pages, swapped_pages}
use Rattle.page_moves.specs.Moves.{Takes, Gives, MovesFrames, MovesSlots, Conserves, Reads, Covered, OwnOnce}
use Rattle.page_moves.specs.Books.{Books}
use Rattle.page_moves.specs.Returns.{IsOut}
use Rattle.page_moves.proofs.Exchanging.{private_is, swapped_is, ticket_held}

-- what is held of a list among all
one_of_all : (f : List Page → ℕ) (all : List (List Page)) (i : ℕ) → i < length all → f (get_or all i []) ≤ sum_by f all
one_of_all f all i h = get_or-le-sum_by f all i [] h

pub books_after : (frames slots : ℕ) (all : List (List Page)) (i : ℕ) (ps' : List Page) (es es' : EntriesAre) (pool pool' book book' : FreeList)
    → i < length all → Conserves (get_or all i []) pool book es ps' pool' book' es' → Reads es' ps' → Books frames slots all es pool book
    → Books frames slots (set all i ps') es' pool' book'
books_after frames slots all i ps' es es' pool pool' book book' inside c mine b = record {
  each_frame = λ k. omega (arith, c.frames.numbers k, b.each_frame k, sum_by-set (frames_held k) all i ps' [] inside);
  frames_out = omega (arith, c.frames.out, b.frames_out, sum_by-set private_pages all i ps' [] inside);
  each_slot = λ k. omega (arith, c.slots.numbers k, b.each_slot k, sum_by-set (slots_held k) all i ps' [] inside);
  slots_out = omega (arith, c.slots.out, b.slots_out, sum_by-set swapped_pages all i ps' [] inside);
  tickets = tickets;
  places = c.tickets.places ∙ b.places;
  reads = All-from_get_or (Reads es') (set all i ps') [] each;
}
  where
    tickets : (k : ℕ) → count_at es' k ≡ sum_by (tickets_held k) (set all i ps')
    tickets k = omega (arith, c.tickets.numbers k, b.tickets k, sum_by-set (tickets_held k) all i ps' [] inside)

    each : (j : ℕ) → j < length (set all i ps') → Reads es' (get_or (set all i ps') j [])
    each j h =
        let inside_j : j < length all = omega (arith, h, length-set all i ps') in
        elim (cases_eq j i) [
          | inl e ↦ subst (Reads es') (sym (ap (λ (n : ℕ). get_or (set all i ps') n []) e ∙ get_or-set_same all i ps' [] inside)) mine
          | inr apart ↦
              let stays = get_or-set_other all i j ps' [] apart in
              subst (Reads es') (sym stays) (λ p shared.
              let ps = get_or all j [] in
              let k = ticket_of (page_at ps p) in
              let held : tickets_held k (get_or (set all i ps') j []) ≤ sum_by (tickets_held k) (set all i ps') = one_of_all (tickets_held k) (set all i ps') j h in
              let same : tickets_held k (get_or (set all i ps') j []) ≡ tickets_held k ps = ap (tickets_held k) stays in
              let out : 0 < count_at es' k = omega (arith, held, same, ticket_held ps p shared, tickets k) in
              c.tickets.bytes k (shown (page_at ps p)) out (All-get_or (Reads es) all j [] inside_j b.reads p shared))
        ]

-- ---- what the books give each list

pub covered : (frames slots : ℕ) (all : List (List Page)) (es : EntriesAre) (pool book : FreeList) (i : ℕ) → Books frames slots all es pool book → i < length all → Covered es (get_or all i [])
covered frames slots all es pool book i b inside = λ k. omega (arith, one_of_all (tickets_held k) all i inside, b.tickets k)

pub own_once : (frames slots : ℕ) (all : List (List Page)) (es : EntriesAre) (pool book : FreeList) (i : ℕ) → Books frames slots all es pool book → i < length all → OwnOnce es (get_or all i [])
own_once frames slots all es pool book i b inside = λ k.
    omega (arith, one_of_all (frames_held k) all i inside, b.each_frame k, ap (below k) b.places)

pub reads_each : (frames slots : ℕ) (all : List (List Page)) (es : EntriesAre) (pool book : FreeList) (i : ℕ) → Books frames slots all es pool book → i < length all → Reads es (get_or all i [])
reads_each frames slots all es pool book i b inside = All-get_or (Reads es) all i [] inside b.reads

pub private_out : (frames slots : ℕ) (all : List (List Page)) (es : EntriesAre) (pool book : FreeList) (i p : ℕ) → Books frames slots all es pool book → i < length all
    → p < length (get_or all i []) → kind_at (get_or all i []) p ≡ Private → 0 < pool.out
private_out frames slots all es pool book i p b inside there kind =
    let ps = get_or all i [] in
    let one : one_private (page_at ps p) ≡ 1 = ap one_private (private_is (page_at ps p) kind) in
    omega (arith, one, get_or-le-sum_by one_private ps p page.Zero there, one_of_all private_pages all i inside, b.frames_out)

counted_entry : (o : Option Rattle.frames.specs.Frames.SharedIs) → 0 < tickets_of o → one_entry o ≡ 1
counted_entry None h = absurd (omega arith)
counted_entry (Some e) h = refl

pub ticket_out : (frames slots : ℕ) (all : List (List Page)) (es : EntriesAre) (pool book : FreeList) (i p : ℕ) → Books frames slots all es pool book → i < length all
    → kind_at (get_or all i []) p ≡ Shared → 0 < count_at es (ticket_of (page_at (get_or all i []) p))
ticket_out frames slots all es pool book i p b inside kind =
    let ps = get_or all i [] in
    omega (arith, ticket_held ps p kind, covered frames slots all es pool book i b inside (ticket_of (page_at ps p)))

pub shared_out : (frames slots : ℕ) (all : List (List Page)) (es : EntriesAre) (pool book : FreeList) (i p : ℕ) → Books frames slots all es pool book → i < length all
    → kind_at (get_or all i []) p ≡ Shared → 0 < pool.out
shared_out frames slots all es pool book i p b inside kind =
    let t = ticket_of (page_at (get_or all i []) p) in
    let some = ticket_out frames slots all es pool book i p b inside kind in
    omega (arith, counted_entry (entry_at es t) some, get_or-le-sum_by one_entry es t None (count_inside es t some), b.frames_out)

pub swapped_out : (frames slots : ℕ) (all : List (List Page)) (es : EntriesAre) (pool book : FreeList) (i p : ℕ) → Books frames slots all es pool book → i < length all
    → p < length (get_or all i []) → kind_at (get_or all i []) p ≡ Swapped → 0 < book.out
swapped_out frames slots all es pool book i p b inside there kind =
    let ps = get_or all i [] in
    let one : one_swapped (page_at ps p) ≡ 1 = ap one_swapped (swapped_is (page_at ps p) kind) in
    omega (arith, one, get_or-le-sum_by one_swapped ps p page.Zero there, one_of_all swapped_pages all i inside, b.slots_out)

counted_below : (k total n : ℕ) → n ≡ below k total → 0 < n → k < total
counted_below k total n is some =
    elim (cases_lt k total) [
      | inl h ↦ h
      | inr past ↦ absurd (omega (arith, below_no k total past, is, some))
    ]

pub slot_inside : (frames slots : ℕ) (all : List (List Page)) (es : EntriesAre) (pool book : FreeList) (i p : ℕ) → Books frames slots all es pool book → i < length all
    → p < length (get_or all i []) → kind_at (get_or all i []) p ≡ Swapped → slot_of (page_at (get_or all i []) p) < slots
slot_inside frames slots all es pool book i p b inside there kind =
    let ps = get_or all i [] in
    let t = slot_of (page_at ps p) in
    let one : slot_in t (page_at ps p) ≡ one_at t t = ap (slot_in t) (swapped_is (page_at ps p) kind) in
    counted_below t slots (count_of t book.free + sum_by (slots_held t) all) (b.each_slot t)
    (omega (arith, one, one_same t, get_or-le-sum_by (slot_in t) ps p page.Zero there, one_of_all (slots_held t) all i inside))

pub below_one : (k total : ℕ) → below k total ≤ 1
below_one k total =
    elim (cases_lt k total) [
      | inl h ↦ omega (arith, below_yes k total h)
      | inr past ↦ omega (arith, below_no k total past)
    ]

-- a slot that is free is no page's
pub slot_apart : (frames slots : ℕ) (all : List (List Page)) (es : EntriesAre) (pool book : FreeList) (i slot : ℕ) → Books frames slots all es pool book → i < length all
    → 0 < count_of slot book.free → slots_held slot (get_or all i []) ≡ 0
slot_apart frames slots all es pool book i slot b inside free =
    omega (arith, free, b.each_slot slot, below_one slot slots, one_of_all (slots_held slot) all i inside)

pub free_slot_inside : (frames slots : ℕ) (all : List (List Page)) (es : EntriesAre) (pool book : FreeList) (slot : ℕ) → Books frames slots all es pool book
    → 0 < count_of slot book.free → slot < slots
free_slot_inside frames slots all es pool book slot b free =
    counted_below slot slots (count_of slot book.free + sum_by (slots_held slot) all) (b.each_slot slot) (omega (arith, free))

-- ---- numbers in the caller's hand

pub frame_given : (ps : List Page) (pool : FreeList) (es : EntriesAre) (ps' : List Page) (pool' pool'' : FreeList) (es' : EntriesAre) (number : ℕ)
    → MovesFrames ps pool es ps' pool' es' (number ∷ []) → Gives pool' number pool'' → MovesFrames ps pool es ps' pool'' es' []
frame_given ps pool es ps' pool' pool'' es' number m g = record {
  numbers = λ k. omega (arith, m.numbers k, g.numbers k, count_one k number);
  out = omega (arith, m.out, g.out);
}

pub slot_taken : (ps : List Page) (book book' : FreeList) (ps' : List Page) (slot : ℕ)
    → Takes book slot book' → MovesSlots ps book' ps' book' (slot ∷ []) → MovesSlots ps book ps' book' []
slot_taken ps book book' ps' slot t m = record {
  numbers = λ k. omega (arith, m.numbers k, t.numbers k, count_one k slot);
  out = omega (arith, m.out, t.out);
}

-- ---- what comes back was out

pub came_free_out : (frames slots : ℕ) (all : List (List Page)) (i : ℕ) (ps' : List Page) (es es' : EntriesAre) (pool book : FreeList) (number : ℕ) → Books frames slots all es pool book → i < length all
    → MovesFrames (get_or all i []) pool es ps' pool es' (number ∷ []) → 0 < pool.out
came_free_out frames slots all i ps' es es' pool book number b inside m =
    omega (arith, m.out, b.frames_out, one_of_all private_pages all i inside)

pub handed_back_out : (frames slots : ℕ) (all : List (List Page)) (es : EntriesAre) (pool book : FreeList) (i p : ℕ) → Books frames slots all es pool book → i < length all
    → p < length (get_or all i []) → IsOut pool book es (handed_back (page_at (get_or all i []) p))
handed_back_out frames slots all es pool book i p b inside there =
    by (page_at (get_or all i []) p) (λ e. private_out frames slots all es pool book i p b inside there e)
    (λ e. (shared_out frames slots all es pool book i p b inside e, ticket_out frames slots all es pool book i p b inside e))
    (λ e. swapped_out frames slots all es pool book i p b inside there e)
  where
    by : (q : Page) → (kind_of q ≡ Private → 0 < pool.out) → (kind_of q ≡ Shared → (0 < pool.out) × (0 < count_at es (ticket_of q))) → (kind_of q ≡ Swapped → 0 < book.out)
        → IsOut pool book es (handed_back q)
    by page.Zero private shared swapped = tt
    by page.Given private shared swapped = tt
    by (page.Private frame) private shared swapped = private refl
    by (page.Shared share ticket) private shared swapped = shared refl
    by (page.Swapped slot digest) private shared swapped = swapped refl
