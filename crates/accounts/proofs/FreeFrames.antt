-- Free frames that come and go.
use Rattle.std.proofs.Common.{◌≡◌, ℕ, ◌+◌, ◌-◌, ◌<◌, List, [], ◌∷◌, ◌++◌, map, refl, sym, ap, ◌∙◌, subst, arith}
use Rattle.std.proofs.lemmas.Grind.{flat_map-append}
use Rattle.std.proofs.lemmas.List.Sums.{sum_by-append, sum_by-cons}
use Rattle.std.specs.List.{flat_map}
use Rattle.frames.specs.Counts.{one_at, count_of}
use Rattle.frames.specs.FreeList.{FreeList}
use Rattle.frames.proofs.Counting.{count_one, count_cons, count_append}
use Rattle.sharetab.specs.Entries.{EntriesAre}
use Rattle.guest_pages.specs.declared.page.Page.{Page}
use Rattle.guest_pages.specs.Holdings.{private_pages}
use Rattle.page_moves.specs.Moves.{Conserves, Reads}
use Rattle.page_moves.specs.Books.{Books}
use Rattle.page_moves.proofs.Booking.{books_after}
use Rattle.page_moves.proofs.Exchanging.{same_bytes}
use Rattle.ledger.specs.Shares.{LedgerId, ShareIs, Become}
use Rattle.accounts.specs.declared.account.Account.{Account}
use Rattle.accounts.specs.declared.account.Account.TheVariants.{Frame}
use Rattle.accounts.specs.declared.account.Extent.{Extent}
use Rattle.accounts.specs.Exact.{guest_in, table_in, frame_in, slots_in, one_owner, free_list, Exact}
use Rattle.accounts.specs.OwnerShares.{share_of, on_its_way, guest_account, guest_share, free_share}
use Rattle.accounts.specs.Laws.{books_of_free, none_of, frames_are, no_owner}
use Rattle.accounts.proofs.OnItsWay.{way_frames, way_private, way_slots, way_swapped, way_tickets, reads_shorter, reads_longer}
use Rattle.accounts.proofs.Outlines.{of_account, to_account}

-- ---- one of several free frames

-- what is in no account of a free frame is in the others
elsewhere : {B : Type 0} (f : Account → List B) → ((n : ℕ) → f (Frame n) ≡ []) → (numbers : List ℕ) (rest : List Account) → flat_map f (map Frame numbers ++ rest) ≡ flat_map f rest
elsewhere f none numbers rest = flat_map-append f (map Frame numbers) rest ∙ ap (λ (l : List _). l ++ flat_map f rest) (none_of f Frame numbers none)

freed_first : (numbers : List ℕ) (rest : List Account) → flat_map frame_in (map Frame numbers ++ rest) ≡ numbers ++ flat_map frame_in rest
freed_first numbers rest = flat_map-append frame_in (map Frame numbers) rest ∙ ap (λ (l : List ℕ). l ++ flat_map frame_in rest) (frames_are numbers)

freed_become : (k : Extent) (numbers left : List ℕ) (number : ℕ) → ((n : ℕ) → count_of n numbers ≡ count_of n left + one_at n number) → Become (Exact k) (map Frame numbers) (Frame number ∷ map Frame left)
freed_become k numbers left number taken rest e =
    let free : List ℕ = flat_map frame_in (map Frame numbers ++ rest) in
    let free' : List ℕ = number ∷ flat_map frame_in (map Frame left ++ rest) in
    let same : (n : ℕ) → count_of n free' ≡ count_of n free =
    λ n. omega (
      arith,
      taken n,
      count_cons n number (flat_map frame_in (map Frame left ++ rest)),
      ap (count_of n) (freed_first left rest),
      ap (count_of n) (freed_first numbers rest),
      count_append n left (flat_map frame_in rest),
      count_append n numbers (flat_map frame_in rest),
    ) in
    let guests : flat_map guest_in (map Frame left ++ rest) ≡ flat_map guest_in (map Frame numbers ++ rest) = elsewhere guest_in (λ n. refl) left rest ∙ sym (elsewhere guest_in (λ n. refl) numbers rest) in
    record {
      entries = e.entries;
      out = e.out;
      book = e.book;
      owners = omega (arith, e.owners, sum_by-cons one_owner (Frame number) (map Frame left ++ rest), sum_by-append one_owner (map Frame left) rest, sum_by-append one_owner (map Frame numbers) rest, no_owner left, no_owner numbers);
      one_table = elsewhere table_in (λ n. refl) left rest ∙ sym (elsewhere table_in (λ n. refl) numbers rest) ∙ e.one_table;
      one_book = elsewhere slots_in (λ n. refl) left rest ∙ sym (elsewhere slots_in (λ n. refl) numbers rest) ∙ e.one_book;
      exact = subst (λ (all : List (List Page)). Books k.frames k.slots all e.entries (free_list free' e.out) e.book) (sym guests)
          (books_of_free k.frames k.slots (flat_map guest_in (map Frame numbers ++ rest)) e.entries e.book free free' e.out same e.exact);
    }

pub freed_settles : (k : Extent) (l : LedgerId) (s : ShareIs Account) (left : List ℕ) (number : ℕ) (new : List Account)
    → (numbers : List ℕ) × (s ≡ free_share l numbers) × ((n : ℕ) → count_of n numbers ≡ count_of n left + one_at n number)
    → new ≡ Frame number ∷ map Frame left → Become (Exact k) s.parts new
freed_settles k l s left number new t to =
    subst (λ (x : List Account). Become (Exact k) s.parts x) (sym to)
    (subst (λ (x : List Account). Become (Exact k) x (Frame number ∷ map Frame left)) (sym (ap (λ (v : ShareIs Account). v.parts) t.1)) (freed_become k t.0 left number t.2))

-- ---- a free frame and a guest

abbrev less : ℕ → ℕ
less n = n - 1

one_less : (n : ℕ) → 0 < n → n ≡ less n + 1
one_less n h = omega (arith, h)

-- a free frame comes into a guest's hand
taken_conserves : (ps : List Page) (number : ℕ) (free : List ℕ) (out : ℕ) (book : FreeList) (es : EntriesAre)
    → Conserves (ps ++ on_its_way []) (free_list (number ∷ free) out) book es (ps ++ on_its_way (number ∷ [])) (free_list free (out + 1)) book es
taken_conserves ps number free out book es = record {
  frames = record {
    numbers = λ k. omega (arith, way_frames ps (number ∷ []) k, way_frames ps [] k, count_one k number, count_cons k number free);
    out = omega (arith, way_private ps (number ∷ []), way_private ps []);
  };
  slots = record {
    numbers = λ k. omega (arith, way_slots ps (number ∷ []) k, way_slots ps [] k);
    out = omega (arith, way_swapped ps (number ∷ []), way_swapped ps []);
  };
  tickets = record {
    numbers = λ k. omega (arith, way_tickets ps (number ∷ []) k, way_tickets ps [] k);
    bytes = same_bytes es;
    places = refl;
  };
}

-- a frame in a guest's hand is free
given_conserves : (ps : List Page) (number : ℕ) (free : List ℕ) (out : ℕ) (book : FreeList) (es : EntriesAre)
    → Conserves (ps ++ on_its_way (number ∷ [])) (free_list free (out + 1)) book es (ps ++ on_its_way []) (free_list (number ∷ free) out) book es
given_conserves ps number free out book es = record {
  frames = record {
    numbers = λ k. omega (arith, way_frames ps (number ∷ []) k, way_frames ps [] k, count_one k number, count_cons k number free);
    out = omega (arith, way_private ps (number ∷ []), way_private ps []);
  };
  slots = record {
    numbers = λ k. omega (arith, way_slots ps (number ∷ []) k, way_slots ps [] k);
    out = omega (arith, way_swapped ps (number ∷ []), way_swapped ps []);
  };
  tickets = record {
    numbers = λ k. omega (arith, way_tickets ps (number ∷ []) k, way_tickets ps [] k);
    bytes = same_bytes es;
    places = refl;
  };
}

taken_become : (k : Extent) (ps : List Page) (number : ℕ) → Become (Exact k) (Frame number ∷ guest_account ps [] ∷ []) (guest_account ps (number ∷ []) ∷ [])
taken_become k ps number rest e =
    let others : List (List Page) = flat_map guest_in rest in
    let free : List ℕ = flat_map frame_in rest in
    let real = of_account ps [] k.frames k.slots others e.entries (free_list (number ∷ free) e.out) e.book e.exact in
    let reads : Reads e.entries ps = reads_shorter e.entries ps (on_its_way []) (real.reads 0 [] (omega arith)) in
    record {
      entries = e.entries;
      out = e.out + 1;
      book = e.book;
      owners = omega (arith, e.owners, sum_by-cons one_owner (Frame number) (guest_account ps [] ∷ rest), sum_by-cons one_owner (guest_account ps []) rest, sum_by-cons one_owner (guest_account ps (number ∷ [])) rest);
      one_table = e.one_table;
      one_book = e.one_book;
      exact = to_account ps (number ∷ []) k.frames k.slots others e.entries (free_list free (e.out + 1)) e.book
          (books_after k.frames k.slots ((ps ++ on_its_way []) ∷ others) 0 (ps ++ on_its_way (number ∷ [])) e.entries e.entries (free_list (number ∷ free) e.out) (free_list free (e.out + 1)) e.book e.book (omega arith)
          (taken_conserves ps number free e.out e.book e.entries) (reads_longer e.entries ps (number ∷ []) reads) real);
    }

-- something is out where a guest has a frame in hand
some_out : (k : Extent) (ps : List Page) (number : ℕ) (others : List (List Page)) (es : EntriesAre) (free : List ℕ) (out : ℕ) (book : FreeList)
    → Books k.frames k.slots ((ps ++ on_its_way (number ∷ [])) ∷ others) es (free_list free out) book → 0 < out
some_out k ps number others es free out book b =
    omega (arith, b.frames_out, way_private ps (number ∷ []), sum_by-cons private_pages (ps ++ on_its_way (number ∷ [])) others)

given_become : (k : Extent) (ps : List Page) (number : ℕ) → Become (Exact k) (guest_account ps (number ∷ []) ∷ []) (Frame number ∷ guest_account ps [] ∷ [])
given_become k ps number rest e =
    let others : List (List Page) = flat_map guest_in rest in
    let free : List ℕ = flat_map frame_in rest in
    let held : List Page = ps ++ on_its_way (number ∷ []) in
    let real = of_account ps (number ∷ []) k.frames k.slots others e.entries (free_list free e.out) e.book e.exact in
    let some : 0 < e.out = some_out k ps number others e.entries free e.out e.book real in
    let reads : Reads e.entries ps = reads_shorter e.entries ps (on_its_way (number ∷ [])) (real.reads 0 [] (omega arith)) in
    record {
      entries = e.entries;
      out = less e.out;
      book = e.book;
      owners = omega (arith, e.owners, sum_by-cons one_owner (Frame number) (guest_account ps [] ∷ rest), sum_by-cons one_owner (guest_account ps []) rest, sum_by-cons one_owner (guest_account ps (number ∷ [])) rest);
      one_table = e.one_table;
      one_book = e.one_book;
      exact = to_account ps [] k.frames k.slots others e.entries (free_list (number ∷ free) (less e.out)) e.book
          (books_after k.frames k.slots (held ∷ others) 0 (ps ++ on_its_way []) e.entries e.entries (free_list free (less e.out + 1)) (free_list (number ∷ free) (less e.out)) e.book e.book (omega arith)
          (given_conserves ps number free (less e.out) e.book e.entries) (reads_longer e.entries ps [] reads)
          (subst (λ (x : ℕ). Books k.frames k.slots (held ∷ others) e.entries (free_list free x) e.book) (one_less e.out some) real));
    }

pub take_settles : (k : Extent) (l : LedgerId) (g f : ShareIs Account) (ps : List Page) (number : ℕ) (parts new : List Account) → g ≡ guest_share l ps [] → f ≡ share_of l (Frame number)
    → parts ≡ f.parts ++ g.parts → new ≡ guest_account ps (number ∷ []) ∷ [] → Become (Exact k) parts new
take_settles k l g f ps number parts new gs fs from to =
    subst (λ (x : List Account). Become (Exact k) parts x) (sym to)
    (subst (λ (x : List Account). Become (Exact k) x (guest_account ps (number ∷ []) ∷ []))
    (sym (from ∙ ap (λ (v : ShareIs Account). v.parts ++ g.parts) fs ∙ ap (λ (v : ShareIs Account). Frame number ∷ v.parts) gs)) (taken_become k ps number))

pub give_settles : (k : Extent) (l : LedgerId) (g : ShareIs Account) (ps : List Page) (number : ℕ) (new : List Account) → g ≡ guest_share l ps (number ∷ [])
    → new ≡ Frame number ∷ guest_account ps [] ∷ [] → Become (Exact k) g.parts new
give_settles k l g ps number new gs to =
    subst (λ (x : List Account). Become (Exact k) g.parts x) (sym to)
    (subst (λ (x : List Account). Become (Exact k) x (Frame number ∷ guest_account ps [] ∷ [])) (sym (ap (λ (v : ShareIs Account). v.parts) gs)) (given_become k ps number))
