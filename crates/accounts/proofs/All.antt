-- The accounts of all owners, and the first ones.
use Rattle.std.proofs.Common.{◌≡◌, ℕ, zero, suc, ◌+◌, List, [], ◌∷◌, ◌++◌, None, length, map, replicate, refl, sym, ap, ◌∙◌, subst, arith, append_assoc, append-nil}
use Rattle.std.proofs.lemmas.Grind.{flat_map-append}
use Rattle.std.proofs.lemmas.List.Sums.{sum_by-append, sum_by-cons}
use Rattle.std.proofs.lemmas.List.{length-append}
use Rattle.std.specs.List.{sum_by, flat_map, range_with_len}
use Rattle.frames.specs.Counts.{count_of}
use Rattle.frames.specs.FreeList.{FreeList}
use Rattle.frames.proofs.Counting.{one_same, count_cons, count_append, count_range}
use Rattle.sharetab.specs.Entries.{EntriesAre, entry_count, ticket_count}
use Rattle.guest_pages.specs.declared.page.Page.{Page}
use Rattle.guest_pages.specs.Outline.{outline}
use Rattle.guest_pages.specs.Holdings.{private_pages, shared_pages, swapped_pages}
use Rattle.page_moves.specs.Books.{Books}
use Rattle.page_moves.proofs.Totals as totals
use Rattle.ledger.specs.Shares.{LedgerId, ShareIs, AreOf, Become}
use Rattle.accounts.specs.declared.account.Account.{Account}
use Rattle.accounts.specs.declared.account.Account.TheVariants.{Guest, Table, Frame, Slots}
use Rattle.accounts.specs.declared.account.Extent.{Extent}
use Rattle.accounts.specs.Exact.{guest_in, table_in, frame_in, slots_in, one_owner, free_list, Exact, opening}
use Rattle.accounts.specs.OwnerShares.{guest_account}
use Rattle.accounts.specs.Laws.{exact_in_any_order, none_of, frames_are, no_owner}
use Rattle.accounts.proofs.Becoming.{first_is}
use Rattle.accounts.proofs.Outlines.{books_to_outlines, books_of_outlines}

pub turned : (k : Extent) (these those more : List Account) → AreOf (Exact k) (these ++ (those ++ more)) → AreOf (Exact k) (those ++ (these ++ more))
turned k these those more h =
    let assoc : (xs ys : List Account) → (xs ++ (ys ++ more)) ++ h.0 ≡ xs ++ (ys ++ (more ++ h.0)) =
    λ xs ys. append_assoc xs (ys ++ more) h.0 ∙ ap (λ (l : List Account). xs ++ l) (append_assoc ys more h.0) in
    (h.0, subst (Exact k) (sym (assoc those these)) (exact_in_any_order k these those (more ++ h.0) (subst (Exact k) (assoc these those) h.1)))

-- the account of a guest with these pages, and nothing in hand
abbrev guest_of : List Page → Account
guest_of ps = guest_account ps []

guests_are : (all : List (List Page)) → flat_map guest_in (map guest_of all) ≡ map outline all
guests_are [] = refl
guests_are (x ∷ xs) = ap (λ (l : List (List Page)). (outline x ++ []) ∷ l) (guests_are xs) ∙ ap (λ (q : List Page). q ∷ map outline xs) (append-nil (outline x))

guests_count : (all : List (List Page)) → sum_by one_owner (map guest_of all) ≡ length all
guests_count [] = refl
guests_count (x ∷ xs) = omega (arith, guests_count xs, sum_by-cons one_owner (guest_of x) (map guest_of xs))

-- where all owners are elsewhere, what is left are free frames
no_guest : (rest : List Account) → sum_by one_owner rest ≡ 0 → flat_map guest_in rest ≡ []
no_guest [] h = refl
no_guest (Guest pages ∷ rest) h = absurd (omega (arith, h, sum_by-cons one_owner (Guest pages) rest))
no_guest (Table es ∷ rest) h = absurd (omega (arith, h, sum_by-cons one_owner (Table es) rest))
no_guest (Frame n ∷ rest) h = no_guest rest (omega (arith, h, sum_by-cons one_owner (Frame n) rest))
no_guest (Slots book ∷ rest) h = absurd (omega (arith, h, sum_by-cons one_owner (Slots book) rest))

-- the accounts of guests and free frames
abbrev pub guests_and_free : List (List Page) → List ℕ → List Account
guests_and_free all numbers = map guest_of all ++ map Frame numbers

module _ (all : List (List Page)) (numbers : List ℕ) (rest : List Account) where
  all_guests : flat_map guest_in (guests_and_free all numbers ++ rest) ≡ map outline all ++ flat_map guest_in rest
  all_guests =
      flat_map-append guest_in (guests_and_free all numbers) rest
      ∙ ap (λ (l : List (List Page)). l ++ flat_map guest_in rest)
      (flat_map-append guest_in (map guest_of all) (map Frame numbers) ∙ ap (λ (l : List (List Page)). flat_map guest_in (map guest_of all) ++ l) (none_of guest_in Frame numbers (λ n. refl))
      ∙ append-nil (flat_map guest_in (map guest_of all)) ∙ guests_are all)

  all_frames : flat_map frame_in (guests_and_free all numbers ++ rest) ≡ numbers ++ flat_map frame_in rest
  all_frames =
      flat_map-append frame_in (guests_and_free all numbers) rest
      ∙ ap (λ (l : List ℕ). l ++ flat_map frame_in rest)
      (flat_map-append frame_in (map guest_of all) (map Frame numbers) ∙ ap (λ (l : List ℕ). l ++ flat_map frame_in (map Frame numbers)) (none_of frame_in guest_of all (λ x. refl)) ∙ frames_are numbers)

  all_tables : flat_map table_in (guests_and_free all numbers ++ rest) ≡ flat_map table_in rest
  all_tables =
      flat_map-append table_in (guests_and_free all numbers) rest
      ∙ ap (λ (l : List EntriesAre). l ++ flat_map table_in rest)
      (flat_map-append table_in (map guest_of all) (map Frame numbers) ∙ ap (λ (l : List EntriesAre). l ++ flat_map table_in (map Frame numbers)) (none_of table_in guest_of all (λ x. refl))
      ∙ none_of table_in Frame numbers (λ n. refl))

  all_books : flat_map slots_in (guests_and_free all numbers ++ rest) ≡ flat_map slots_in rest
  all_books =
      flat_map-append slots_in (guests_and_free all numbers) rest
      ∙ ap (λ (l : List FreeList). l ++ flat_map slots_in rest)
      (flat_map-append slots_in (map guest_of all) (map Frame numbers) ∙ ap (λ (l : List FreeList). l ++ flat_map slots_in (map Frame numbers)) (none_of slots_in guest_of all (λ x. refl))
      ∙ none_of slots_in Frame numbers (λ n. refl))

  all_count : sum_by one_owner (guests_and_free all numbers ++ rest) ≡ length all + sum_by one_owner rest
  all_count = omega (arith, sum_by-append one_owner (guests_and_free all numbers) rest, sum_by-append one_owner (map guest_of all) (map Frame numbers), guests_count all, no_owner numbers)

module _ (k : Extent) (all : List (List Page)) (es : EntriesAre) (book : FreeList) (numbers : List ℕ) (every : length all ≡ k.guests) (h : AreOf (Exact k) (Slots book ∷ Table es ∷ guests_and_free all numbers)) where
  pub all_owners_exact : Books k.frames k.slots all es (free_list (numbers ++ flat_map frame_in h.0) h.1.out) book
  all_owners_exact =
      let rest = h.0 in
      let e = h.1 in
      let others : List ℕ = flat_map frame_in rest in
      let found : List Account = guests_and_free all numbers ++ rest in
      let none : sum_by one_owner rest ≡ 0 =
      omega (arith, e.owners, every, sum_by-cons one_owner (Slots book) (Table es ∷ found), sum_by-cons one_owner (Table es) found, all_count all numbers rest) in
      let guests : flat_map guest_in found ≡ map outline all =
      all_guests all numbers rest ∙ ap (λ (l : List (List Page)). map outline all ++ l) (no_guest rest none) ∙ append-nil (map outline all) in
      let a : Books k.frames k.slots (flat_map guest_in found) es (free_list (flat_map frame_in found) e.out) e.book =
      subst (λ (x : EntriesAre). Books k.frames k.slots (flat_map guest_in found) x (free_list (flat_map frame_in found) e.out) e.book) (sym (first_is es e.entries _ e.one_table)) e.exact in
      let b : Books k.frames k.slots (flat_map guest_in found) es (free_list (flat_map frame_in found) e.out) book =
      subst (λ (x : FreeList). Books k.frames k.slots (flat_map guest_in found) es (free_list (flat_map frame_in found) e.out) x) (sym (first_is book e.book _ e.one_book)) a in
      let c : Books k.frames k.slots (map outline all) es (free_list (flat_map frame_in found) e.out) book =
      subst (λ (x : List (List Page)). Books k.frames k.slots x es (free_list (flat_map frame_in found) e.out) book) guests b in
      books_of_outlines k.frames k.slots all es (free_list (numbers ++ others) e.out) book
      (subst (λ (x : List ℕ). Books k.frames k.slots (map outline all) es (free_list x e.out) book) (all_frames all numbers rest) c)

  pub all_owners : (others : List ℕ) × (out : ℕ) × Books k.frames k.slots all es (free_list (numbers ++ others) out) book
  all_owners = (flat_map frame_in h.0, h.1.out, all_owners_exact)

  pub frames_add_up : (others : List ℕ) × (length numbers + length others + sum_by private_pages all + entry_count es ≡ k.frames)
  frames_add_up =
      let others : List ℕ = flat_map frame_in h.0 in
      (others, omega (arith, length-append numbers others, totals.frames_add_up k.frames k.slots all es (free_list (numbers ++ others) h.1.out) book all_owners_exact))

  pub slots_add_up : length book.free + sum_by swapped_pages all ≡ k.slots
  slots_add_up = totals.slots_add_up k.frames k.slots all es (free_list (numbers ++ flat_map frame_in h.0) h.1.out) book all_owners_exact

  pub tickets_add_up : ticket_count es ≡ sum_by shared_pages all
  tickets_add_up = totals.tickets_add_up k.frames k.slots all es (free_list (numbers ++ flat_map frame_in h.0) h.1.out) book all_owners_exact

-- ---- the first accounts

-- numbers none of which is counted are none
none_counted : (ns : List ℕ) → ((n : ℕ) → count_of n ns ≡ 0) → ns ≡ []
none_counted [] h = refl
none_counted (n ∷ ns) h = absurd (omega (arith, h n, count_cons n n ns, one_same n))

-- no owner and no free frame is no account
none_left : (rest : List Account) → sum_by one_owner rest ≡ 0 → flat_map frame_in rest ≡ [] → rest ≡ []
none_left [] owners free = refl
none_left (Guest pages ∷ rest) owners free = absurd (omega (arith, owners, sum_by-cons one_owner (Guest pages) rest))
none_left (Table es ∷ rest) owners free = absurd (omega (arith, owners, sum_by-cons one_owner (Table es) rest))
none_left (Frame n ∷ rest) owners free = absurd (omega (arith, ap length free))
none_left (Slots book ∷ rest) owners free = absurd (omega (arith, owners, sum_by-cons one_owner (Slots book) rest))

-- so many guests without pages
abbrev none_had : ℕ → List (List Page)
none_had n = replicate n []

same_guests : (n : ℕ) → replicate n (Guest []) ≡ map guest_of (none_had n)
same_guests zero = refl
same_guests (suc n) = ap (λ (l : List Account). Guest [] ∷ l) (same_guests n)

replicated : (n : ℕ) → length (none_had n) ≡ n
replicated zero = refl
replicated (suc n) = omega (arith, replicated n)

-- with the first accounts there is no other
first_alone : (k : Extent) (rest : List Account) → Exact k (opening k ++ rest) → rest ≡ []
first_alone k rest e =
    let ns : List ℕ = range_with_len 0 k.frames in
    let none : List (List Page) = none_had k.guests in
    let book : FreeList = free_list (range_with_len 0 k.slots) 0 in
    let es : EntriesAre = replicate k.frames None in
    let found : List Account = guests_and_free none ns ++ rest in
    let is : (replicate k.guests (Guest []) ++ map Frame ns) ++ rest ≡ found = ap (λ (l : List Account). (l ++ map Frame ns) ++ rest) (same_guests k.guests) in
    let e' : Exact k (Slots book ∷ Table es ∷ found) = subst (λ (l : List Account). Exact k (Slots book ∷ Table es ∷ l)) is e in
    let owners : sum_by one_owner rest ≡ 0 =
    omega (arith, e'.owners, sum_by-cons one_owner (Slots book) (Table es ∷ found), sum_by-cons one_owner (Table es) found, all_count none ns rest, replicated k.guests) in
    let free : (n : ℕ) → count_of n (flat_map frame_in rest) ≡ 0 =
    λ n. omega (arith, e'.exact.each_frame n, ap (count_of n) (all_frames none ns rest), count_append n ns (flat_map frame_in rest), count_range n k.frames) in
    none_left rest owners (none_counted (flat_map frame_in rest) free)

pub first_become : (k : Extent) (all : List (List Page)) (es : EntriesAre) (pool book : FreeList) → length all ≡ k.guests → Books k.frames k.slots all es pool book
    → Become (Exact k) (opening k) (Slots book ∷ Table es ∷ guests_and_free all pool.free)
first_become k all es pool book every b rest e =
    let accounts : List Account = Slots book ∷ Table es ∷ guests_and_free all pool.free in
    let found : List Account = guests_and_free all pool.free ++ [] in
    let guests : flat_map guest_in found ≡ map outline all = all_guests all pool.free [] ∙ append-nil (map outline all) in
    let free : flat_map frame_in found ≡ pool.free = all_frames all pool.free [] ∙ append-nil pool.free in
    subst (λ (l : List Account). Exact k (accounts ++ l)) (sym (first_alone k rest e)) (record {
      entries = es;
      out = pool.out;
      book = book;
      owners = omega (arith, every, sum_by-cons one_owner (Slots book) (Table es ∷ found), sum_by-cons one_owner (Table es) found, all_count all pool.free []);
      one_table = ap (λ (l : List EntriesAre). es ∷ l) (all_tables all pool.free []);
      one_book = ap (λ (l : List FreeList). book ∷ l) (all_books all pool.free []);
      exact = subst (λ (x : List (List Page)). Books k.frames k.slots x es (free_list (flat_map frame_in found) pool.out) book) (sym guests)
          (subst (λ (f : List ℕ). Books k.frames k.slots (map outline all) es (free_list f pool.out) book) (sym free) (books_to_outlines k.frames k.slots all es pool book b));
    })

map_twice : {X : Type 0} (f : X → List Page) (xs : List X) → map (λ x. guest_account (f x) []) xs ≡ map guest_of (map f xs)
map_twice f [] = refl
map_twice f (x ∷ xs) = ap (λ (l : List Account). guest_account (f x) [] ∷ l) (map_twice f xs)

map_length : {X : Type 0} (f : X → List Page) (xs : List X) → length (map f xs) ≡ length xs
map_length f [] = refl
map_length f (x ∷ xs) = omega (arith, map_length f xs)

pub first_settles : {X : Type 0} (k : Extent) (f : X → List Page) (xs : List X) (l : LedgerId) (s : ShareIs Account) (new : List Account) (es : EntriesAre) (pool book : FreeList)
    → s ≡ record { ledger = l; parts = opening k } → new ≡ Slots book ∷ Table es ∷ (map (λ x. guest_account (f x) []) xs ++ map Frame pool.free) → length xs ≡ k.guests → Books k.frames k.slots (map f xs) es pool book
    → Become (Exact k) s.parts new
first_settles k f xs l s new es pool book is to every b =
    subst (λ (x : List Account). Become (Exact k) s.parts x) (sym (to ∙ ap (λ (gs : List Account). Slots book ∷ Table es ∷ (gs ++ map Frame pool.free)) (map_twice f xs)))
    (subst (λ (x : List Account). Become (Exact k) x (Slots book ∷ Table es ∷ guests_and_free (map f xs) pool.free)) (sym (ap (λ (v : ShareIs Account). v.parts) is))
    (first_become k (map f xs) es pool book (map_length f xs ∙ every) b))
