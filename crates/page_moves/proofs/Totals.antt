-- What is counted number by number, counted in all: books that are exact for each number add up.
use Rattle.std.proofs.Common.{ℕ, zero, suc, ◌≡◌, ◌+◌, ◌≤◌, inl, inr, List, [], ◌∷◌, length, refl, sym, ◌∙◌, arith, Some, None}
use Rattle.std.proofs.lemmas.Bool.{cases_lt}
use Rattle.std.proofs.lemmas.Bool.Decides.{nat_tests}
use Rattle.std.proofs.lemmas.List.Sums.{sum_by-cons}
use Rattle.std.specs.List.{sum_by}
use Rattle.frames.specs.Counts.{one_at, count_of, below}
use Rattle.frames.specs.FreeList.{FreeList}
use Rattle.frames.proofs.Counting.{one_same, below_yes, below_no, below_none}
use Rattle.sharetab.specs.Entries.{EntriesAre, tickets_of, count_at, frame_in as entry_frame, frames_shared, one_entry, entry_count, ticket_count}
use Rattle.sharetab.proofs.Books.{count_inside}
use Rattle.guest_pages.specs.declared.page.Page.{Page}
use Rattle.guest_pages.specs.declared.page.Page.TheVariants as page
use Rattle.guest_pages.specs.Holdings.{frame_in, ticket_in, slot_in, one_private, one_shared, one_swapped, frames_held, tickets_held, slots_held, private_pages, shared_pages, swapped_pages}
use Rattle.page_moves.specs.Books.{Books}

-- ---- the sum over the numbers below n

abbrev total : ℕ → (ℕ → ℕ) → ℕ
total zero f = 0
total (suc n) f = total n f + f n

total_same : (n : ℕ) (f g : ℕ → ℕ) → ((k : ℕ) → f k ≡ g k) → total n f ≡ total n g
total_same zero f g same = refl
total_same (suc n) f g same = omega (arith, total_same n f g same, same n)

total_plus : (n : ℕ) (f g : ℕ → ℕ) → total n (λ k. f k + g k) ≡ total n f + total n g
total_plus zero f g = refl
total_plus (suc n) f g = omega (arith, total_plus n f g)

total_none : (n : ℕ) → total n (λ k. 0) ≡ 0
total_none zero = refl
total_none (suc n) = omega (arith, total_none n)

-- the first number apart from the others
total_first : (n : ℕ) (f : ℕ → ℕ) → total (suc n) f ≡ f 0 + total n (λ k. f (suc k))
total_first zero f = omega arith
total_first (suc n) f = omega (arith, total_first n f)

total_below : (m n : ℕ) → n ≤ m → total n (λ k. below k m) ≡ n
total_below m zero h = refl
total_below m (suc n) h = omega (arith, total_below m n (omega (arith, h)), below_yes n m (omega (arith, h)))

below_next : (a n : ℕ) → below a (suc n) ≡ below a n + one_at n a
below_next a n = grind (arith, nat_tests)

total_one : (a n : ℕ) → total n (λ k. one_at k a) ≡ below a n
total_one a zero = sym (below_none a)
total_one a (suc n) = omega (arith, total_one a n, below_next a n)

-- ---- what things have of each number, and in all

-- Of a thing that has none of the numbers from n on, `one` counts as many of the numbers below n as `has` in all.
abbrev AddsUp : {X : Type 0} → (ℕ → X → ℕ) → (X → ℕ) → Type 0
AddsUp {X} one has = (n : ℕ) (x : X) → ((k : ℕ) → n ≤ k → one k x ≡ 0) → total n (λ k. one k x) ≡ has x

number_adds_up : AddsUp one_at (λ a. 1)
number_adds_up n a none =
    elim (cases_lt a n) [
      | inl inside ↦ total_one a n ∙ below_yes a n inside
      | inr past ↦ absurd (omega (arith, none a past, one_same a))
    ]

list_adds_up : {X : Type 0} (one : ℕ → X → ℕ) (has : X → ℕ) → AddsUp one has → AddsUp (λ k xs. sum_by (one k) xs) (sum_by has)
list_adds_up one has each n [] none = total_none n
list_adds_up one has each n (x ∷ xs) none =
    let head : total n (λ k. one k x) ≡ has x = each n x (λ k h. omega (arith, none k h, sum_by-cons (one k) x xs)) in
    let tail : total n (λ k. sum_by (one k) xs) ≡ sum_by has xs = list_adds_up one has each n xs (λ k h. omega (arith, none k h, sum_by-cons (one k) x xs)) in
    let parts : total n (λ k. sum_by (one k) (x ∷ xs)) ≡ total n (λ k. one k x + sum_by (one k) xs) =
    total_same n (λ k. sum_by (one k) (x ∷ xs)) (λ k. one k x + sum_by (one k) xs) (λ k. sum_by-cons (one k) x xs) in
    omega (arith, parts, total_plus n (λ k. one k x) (λ k. sum_by (one k) xs), head, tail, sum_by-cons has x xs)

-- ---- numbers, pages and entries

ones : (ns : List ℕ) → sum_by (λ n. 1) ns ≡ length ns
ones [] = refl
ones (n ∷ ns) = omega (arith, ones ns, sum_by-cons (λ (m : ℕ). 1) n ns)

numbers_add_up : AddsUp count_of length
numbers_add_up n ns none = list_adds_up one_at (λ a. 1) number_adds_up n ns none ∙ ones ns

own_frame_adds_up : AddsUp frame_in one_private
own_frame_adds_up n page.Zero none = total_none n
own_frame_adds_up n page.Given none = total_none n
own_frame_adds_up n (page.Private frame) none = number_adds_up n frame.number none
own_frame_adds_up n (page.Shared share ticket) none = total_none n
own_frame_adds_up n (page.Swapped slot digest) none = total_none n

ticket_adds_up : AddsUp ticket_in one_shared
ticket_adds_up n page.Zero none = total_none n
ticket_adds_up n page.Given none = total_none n
ticket_adds_up n (page.Private frame) none = total_none n
ticket_adds_up n (page.Shared share ticket) none = number_adds_up n ticket none
ticket_adds_up n (page.Swapped slot digest) none = total_none n

slot_adds_up : AddsUp slot_in one_swapped
slot_adds_up n page.Zero none = total_none n
slot_adds_up n page.Given none = total_none n
slot_adds_up n (page.Private frame) none = total_none n
slot_adds_up n (page.Shared share ticket) none = total_none n
slot_adds_up n (page.Swapped slot digest) none = number_adds_up n slot none

entry_adds_up : AddsUp entry_frame one_entry
entry_adds_up n None none = total_none n
entry_adds_up n (Some entry) none = number_adds_up n entry.number none

own_frames_add_up : AddsUp (λ k all. sum_by (frames_held k) all) (sum_by private_pages)
own_frames_add_up = list_adds_up frames_held private_pages (list_adds_up frame_in one_private own_frame_adds_up)

held_tickets_add_up : AddsUp (λ k all. sum_by (tickets_held k) all) (sum_by shared_pages)
held_tickets_add_up = list_adds_up tickets_held shared_pages (list_adds_up ticket_in one_shared ticket_adds_up)

held_slots_add_up : AddsUp (λ k all. sum_by (slots_held k) all) (sum_by swapped_pages)
held_slots_add_up = list_adds_up slots_held swapped_pages (list_adds_up slot_in one_swapped slot_adds_up)

entries_add_up : AddsUp frames_shared entry_count
entries_add_up = list_adds_up entry_frame one_entry entry_adds_up

-- the tickets of each place
counts_add_up : (es : EntriesAre) → total (length es) (count_at es) ≡ ticket_count es
counts_add_up [] = refl
counts_add_up (e ∷ es) = omega (arith, total_first (length es) (count_at (e ∷ es)), counts_add_up es, sum_by-cons tickets_of e es)

no_count_past : (es : EntriesAre) (k : ℕ) → length es ≤ k → count_at es k ≡ 0
no_count_past es k past =
    elim (cases_lt 0 (count_at es k)) [
      | inl some ↦ absurd (omega (arith, past, count_inside es k some))
      | inr none ↦ omega (arith, none)
    ]

-- ---- the books

pub frames_add_up : (frames slots : ℕ) (all : List (List Page)) (es : EntriesAre) (pool book : FreeList) → Books frames slots all es pool book
    → length pool.free + sum_by private_pages all + entry_count es ≡ frames
frames_add_up frames slots all es pool book b =
    let free = numbers_add_up frames pool.free (λ k h. omega (arith, b.each_frame k, below_no k frames h)) in
    let own = own_frames_add_up frames all (λ k h. omega (arith, b.each_frame k, below_no k frames h)) in
    let shared = entries_add_up frames es (λ k h. omega (arith, b.each_frame k, below_no k frames h)) in
    omega (
      arith,
      free,
      own,
      shared,
      total_plus frames (λ k. count_of k pool.free + sum_by (frames_held k) all) (λ k. frames_shared k es),
      total_plus frames (λ k. count_of k pool.free) (λ k. sum_by (frames_held k) all),
      total_same frames (λ k. count_of k pool.free + sum_by (frames_held k) all + frames_shared k es) (λ k. below k frames) b.each_frame,
      total_below frames frames (omega arith),
    )

pub slots_add_up : (frames slots : ℕ) (all : List (List Page)) (es : EntriesAre) (pool book : FreeList) → Books frames slots all es pool book
    → length book.free + sum_by swapped_pages all ≡ slots
slots_add_up frames slots all es pool book b =
    let free = numbers_add_up slots book.free (λ k h. omega (arith, b.each_slot k, below_no k slots h)) in
    let used = held_slots_add_up slots all (λ k h. omega (arith, b.each_slot k, below_no k slots h)) in
    omega (
      arith,
      free,
      used,
      total_plus slots (λ k. count_of k book.free) (λ k. sum_by (slots_held k) all),
      total_same slots (λ k. count_of k book.free + sum_by (slots_held k) all) (λ k. below k slots) b.each_slot,
      total_below slots slots (omega arith),
    )

pub tickets_add_up : (frames slots : ℕ) (all : List (List Page)) (es : EntriesAre) (pool book : FreeList) → Books frames slots all es pool book
    → ticket_count es ≡ sum_by shared_pages all
tickets_add_up frames slots all es pool book b =
    sym (counts_add_up es)
    ∙ total_same (length es) (count_at es) (λ k. sum_by (tickets_held k) all) b.tickets
    ∙ held_tickets_add_up (length es) all (λ k h. sym (b.tickets k) ∙ no_count_past es k h)

pub pool_out_adds_up : (frames slots : ℕ) (all : List (List Page)) (es : EntriesAre) (pool book : FreeList) → Books frames slots all es pool book → pool.out + length pool.free ≡ frames
pool_out_adds_up frames slots all es pool book b = omega (arith, frames_add_up frames slots all es pool book b, b.frames_out)

pub slots_out_add_up : (frames slots : ℕ) (all : List (List Page)) (es : EntriesAre) (pool book : FreeList) → Books frames slots all es pool book → book.out + length book.free ≡ slots
slots_out_add_up frames slots all es pool book b = omega (arith, slots_add_up frames slots all es pool book b, b.slots_out)
