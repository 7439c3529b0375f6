-- Accounts that become others by a move.
use Rattle.std.proofs.Common.{◌≡◌, ℕ, List, [], ◌∷◌, ◌++◌, sym, ap, ◌∙◌, subst, arith}
use Rattle.std.proofs.lemmas.List.Sums.{sum_by-cons}
use Rattle.std.specs.List.{flat_map}
use Rattle.frames.specs.FreeList.{FreeList}
use Rattle.sharetab.specs.Entries.{EntriesAre}
use Rattle.guest_pages.specs.declared.page.Page.{Page}
use Rattle.guest_pages.specs.Outline.{outline}
use Rattle.page_moves.specs.Moves.{Conserves, Reads}
use Rattle.page_moves.specs.Books.{Books}
use Rattle.page_moves.proofs.Booking.{books_after}
use Rattle.ledger.specs.Shares.{LedgerId, ShareIs, Become}
use Rattle.accounts.specs.declared.account.Account.{Account}
use Rattle.accounts.specs.declared.account.Account.TheVariants.{Guest, Table, Slots}
use Rattle.accounts.specs.declared.account.Extent.{Extent}
use Rattle.accounts.specs.Exact.{guest_in, frame_in, one_owner, free_list, Exact}
use Rattle.accounts.specs.OwnerShares.{on_its_way, guest_account}
use Rattle.accounts.specs.Settling.{Moves, Moved, MovedWithTable, MovedWithSlots, MovedWithBoth}
use Rattle.accounts.proofs.OnItsWay.{way_frames, way_private, way_slots, way_swapped, way_tickets, reads_shorter, reads_longer}
use Rattle.accounts.proofs.Outlines.{of_account, to_account}

abbrev pub head_of : {A : Type 0} → A → List A → A
head_of d [] = d
head_of d (x ∷ xs) = x

abbrev tail_of : {A : Type 0} → List A → List A
tail_of [] = []
tail_of (x ∷ xs) = xs

pub first_is : {A : Type 0} (x e : A) (xs : List A) → x ∷ xs ≡ e ∷ [] → x ≡ e
first_is x e xs h = ap (head_of x) h

no_more : {A : Type 0} (x e : A) (xs : List A) → x ∷ xs ≡ e ∷ [] → xs ≡ []
no_more x e xs h = ap tail_of h

module _ (ps : List Page) (ns : List ℕ) (es : EntriesAre) (book : FreeList) (ps' : List Page) (ns' : List ℕ) (es' : EntriesAre) (book' : FreeList) (m : Moves ps ns es book ps' ns' es' book') where
  moves_conserve : (pool : FreeList) → Conserves (ps ++ on_its_way ns) pool book es (ps' ++ on_its_way ns') pool book' es'
  moves_conserve pool = record {
    frames = record {
      numbers = λ k. omega (arith, m.frames.numbers k, way_frames ps ns k, way_frames ps' ns' k);
      out = omega (arith, m.frames.out, way_private ps ns, way_private ps' ns');
    };
    slots = record {
      numbers = λ k. omega (arith, m.slots.numbers k, way_slots ps ns k, way_slots ps' ns' k);
      out = omega (arith, m.slots.out, way_swapped ps ns, way_swapped ps' ns');
    };
    tickets = record {
      numbers = λ k. omega (arith, m.tickets.numbers k, way_tickets ps ns k, way_tickets ps' ns' k);
      bytes = m.tickets.bytes;
      places = m.tickets.places;
    };
  }

  moves_read : Reads es (ps ++ on_its_way ns) → Reads es' (ps' ++ on_its_way ns')
  moves_read reads = reads_longer es' ps' ns' (m.reads (reads_shorter es ps (on_its_way ns) reads))

  -- the books of a guest's account become those of its account after the move
  moves_books : (frames slots : ℕ) (others : List (List Page)) (pool : FreeList) → Books frames slots ((outline ps ++ on_its_way ns) ∷ others) es pool book
      → Books frames slots ((outline ps' ++ on_its_way ns') ∷ others) es' pool book'
  moves_books frames slots others pool b =
      let before : List Page = ps ++ on_its_way ns in
      let after : List Page = ps' ++ on_its_way ns' in
      let real : Books frames slots (before ∷ others) es pool book = of_account ps ns frames slots others es pool book b in
      to_account ps' ns' frames slots others es' pool book'
      (books_after frames slots (before ∷ others) 0 after es es' pool pool book book' (omega arith) (moves_conserve pool) (moves_read (real.reads 0 [] (omega arith))) real)

-- ---- a guest

guest_become : (k : Extent) (ps ps' : List Page) (ns ns' : List ℕ) → ((es : EntriesAre) (book : FreeList) → Moves ps ns es book ps' ns' es book)
    → Become (Exact k) (guest_account ps ns ∷ []) (guest_account ps' ns' ∷ [])
guest_become k ps ps' ns ns' m rest e =
    let others : List (List Page) = flat_map guest_in rest in
    let free : List ℕ = flat_map frame_in rest in
    record {
      entries = e.entries;
      out = e.out;
      book = e.book;
      owners = omega (arith, e.owners, sum_by-cons one_owner (guest_account ps ns) rest, sum_by-cons one_owner (guest_account ps' ns') rest);
      one_table = e.one_table;
      one_book = e.one_book;
      exact = moves_books ps ns e.entries e.book ps' ns' e.entries e.book (m e.entries e.book) k.frames k.slots others (free_list free e.out) e.exact;
    }

pub guest_settles : (k : Extent) (l : LedgerId) (g : ShareIs Account) (ps' : List Page) (ns' : List ℕ) (new : List Account) → Moved l g ps' ns' → new ≡ guest_account ps' ns' ∷ []
    → Become (Exact k) g.parts new
guest_settles k l g ps' ns' new m to =
    subst (λ (x : List Account). Become (Exact k) g.parts x) (sym to)
    (subst (λ (x : List Account). Become (Exact k) x (guest_account ps' ns' ∷ [])) (sym (ap (λ (v : ShareIs Account). v.parts) m.was)) (guest_become k m.pages ps' m.hand ns' m.moves))

-- ---- a guest and the table

pub exact_table : (k : Extent) (x : List Page) (es : EntriesAre) (rest : List Account) → (e : Exact k (Table es ∷ Guest x ∷ rest))
    → Books k.frames k.slots (x ∷ flat_map guest_in rest) es (free_list (flat_map frame_in rest) e.out) e.book
exact_table k x es rest e =
    subst (λ (t : EntriesAre). Books k.frames k.slots (x ∷ flat_map guest_in rest) t (free_list (flat_map frame_in rest) e.out) e.book) (sym (first_is es e.entries _ e.one_table)) e.exact

table_become : (k : Extent) (ps ps' : List Page) (ns ns' : List ℕ) (es es' : EntriesAre) → ((book : FreeList) → Moves ps ns es book ps' ns' es' book)
    → Become (Exact k) (Table es ∷ guest_account ps ns ∷ []) (Table es' ∷ guest_account ps' ns' ∷ [])
table_become k ps ps' ns ns' es es' m rest e =
    let b = exact_table k (outline ps ++ on_its_way ns) es rest e in
    record {
      entries = es';
      out = e.out;
      book = e.book;
      owners = omega (
        arith,
        e.owners,
        sum_by-cons one_owner (Table es) (guest_account ps ns ∷ rest),
        sum_by-cons one_owner (guest_account ps ns) rest,
        sum_by-cons one_owner (Table es') (guest_account ps' ns' ∷ rest),
        sum_by-cons one_owner (guest_account ps' ns') rest,
      );
      one_table = ap (λ (t : List EntriesAre). es' ∷ t) (no_more es e.entries _ e.one_table);
      one_book = e.one_book;
      exact = moves_books ps ns es e.book ps' ns' es' e.book (m e.book) k.frames k.slots (flat_map guest_in rest) (free_list (flat_map frame_in rest) e.out) b;
    }

pub table_settles : (k : Extent) (l : LedgerId) (g t : ShareIs Account) (ps' : List Page) (ns' : List ℕ) (es' : EntriesAre) (parts new : List Account) → MovedWithTable l g t ps' ns' es'
    → parts ≡ t.parts ++ g.parts → new ≡ Table es' ∷ guest_account ps' ns' ∷ [] → Become (Exact k) parts new
table_settles k l g t ps' ns' es' parts new m from to =
    subst (λ (x : List Account). Become (Exact k) parts x) (sym to)
    (subst (λ (x : List Account). Become (Exact k) x (Table es' ∷ guest_account ps' ns' ∷ []))
    (sym (from ∙ ap (λ (v : ShareIs Account). v.parts ++ g.parts) m.table_was ∙ ap (λ (v : ShareIs Account). Table m.entries ∷ v.parts) m.was))
    (table_become k m.pages ps' m.hand ns' m.entries es' m.moves))

-- ---- a guest and the slot book

pub exact_slots : (k : Extent) (x : List Page) (book : FreeList) (rest : List Account) → (e : Exact k (Slots book ∷ Guest x ∷ rest))
    → Books k.frames k.slots (x ∷ flat_map guest_in rest) e.entries (free_list (flat_map frame_in rest) e.out) book
exact_slots k x book rest e =
    subst (λ (b : FreeList). Books k.frames k.slots (x ∷ flat_map guest_in rest) e.entries (free_list (flat_map frame_in rest) e.out) b) (sym (first_is book e.book _ e.one_book)) e.exact

slots_become : (k : Extent) (ps ps' : List Page) (ns ns' : List ℕ) (book book' : FreeList) → ((es : EntriesAre) → Moves ps ns es book ps' ns' es book')
    → Become (Exact k) (Slots book ∷ guest_account ps ns ∷ []) (Slots book' ∷ guest_account ps' ns' ∷ [])
slots_become k ps ps' ns ns' book book' m rest e =
    let b = exact_slots k (outline ps ++ on_its_way ns) book rest e in
    record {
      entries = e.entries;
      out = e.out;
      book = book';
      owners = omega (
        arith,
        e.owners,
        sum_by-cons one_owner (Slots book) (guest_account ps ns ∷ rest),
        sum_by-cons one_owner (guest_account ps ns) rest,
        sum_by-cons one_owner (Slots book') (guest_account ps' ns' ∷ rest),
        sum_by-cons one_owner (guest_account ps' ns') rest,
      );
      one_table = e.one_table;
      one_book = ap (λ (t : List FreeList). book' ∷ t) (no_more book e.book _ e.one_book);
      exact = moves_books ps ns e.entries book ps' ns' e.entries book' (m e.entries) k.frames k.slots (flat_map guest_in rest) (free_list (flat_map frame_in rest) e.out) b;
    }

pub slots_settles : (k : Extent) (l : LedgerId) (g s : ShareIs Account) (ps' : List Page) (ns' : List ℕ) (book' : FreeList) (parts new : List Account) → MovedWithSlots l g s ps' ns' book'
    → parts ≡ s.parts ++ g.parts → new ≡ Slots book' ∷ guest_account ps' ns' ∷ [] → Become (Exact k) parts new
slots_settles k l g s ps' ns' book' parts new m from to =
    subst (λ (x : List Account). Become (Exact k) parts x) (sym to)
    (subst (λ (x : List Account). Become (Exact k) x (Slots book' ∷ guest_account ps' ns' ∷ []))
    (sym (from ∙ ap (λ (v : ShareIs Account). v.parts ++ g.parts) m.slots_were ∙ ap (λ (v : ShareIs Account). Slots m.book ∷ v.parts) m.was))
    (slots_become k m.pages ps' m.hand ns' m.book book' m.moves))

-- ---- a guest, the table and the slot book

pub exact_both : (k : Extent) (x : List Page) (es : EntriesAre) (book : FreeList) (rest : List Account) → (e : Exact k (Slots book ∷ Table es ∷ Guest x ∷ rest))
    → Books k.frames k.slots (x ∷ flat_map guest_in rest) es (free_list (flat_map frame_in rest) e.out) book
exact_both k x es book rest e =
    let pool : FreeList = free_list (flat_map frame_in rest) e.out in
    let all : List (List Page) = x ∷ flat_map guest_in rest in
    let a : Books k.frames k.slots all es pool e.book = subst (λ (t : EntriesAre). Books k.frames k.slots all t pool e.book) (sym (first_is es e.entries _ e.one_table)) e.exact in
    subst (λ (b : FreeList). Books k.frames k.slots all es pool b) (sym (first_is book e.book _ e.one_book)) a

both_become : (k : Extent) (ps ps' : List Page) (ns ns' : List ℕ) (es es' : EntriesAre) (book book' : FreeList) → Moves ps ns es book ps' ns' es' book'
    → Become (Exact k) (Slots book ∷ Table es ∷ guest_account ps ns ∷ []) (Slots book' ∷ Table es' ∷ guest_account ps' ns' ∷ [])
both_become k ps ps' ns ns' es es' book book' m rest e =
    let b = exact_both k (outline ps ++ on_its_way ns) es book rest e in
    record {
      entries = es';
      out = e.out;
      book = book';
      owners = omega (
        arith,
        e.owners,
        sum_by-cons one_owner (Slots book) (Table es ∷ guest_account ps ns ∷ rest),
        sum_by-cons one_owner (Table es) (guest_account ps ns ∷ rest),
        sum_by-cons one_owner (guest_account ps ns) rest,
        sum_by-cons one_owner (Slots book') (Table es' ∷ guest_account ps' ns' ∷ rest),
        sum_by-cons one_owner (Table es') (guest_account ps' ns' ∷ rest),
        sum_by-cons one_owner (guest_account ps' ns') rest,
      );
      one_table = ap (λ (t : List EntriesAre). es' ∷ t) (no_more es e.entries _ e.one_table);
      one_book = ap (λ (t : List FreeList). book' ∷ t) (no_more book e.book _ e.one_book);
      exact = moves_books ps ns es book ps' ns' es' book' m k.frames k.slots (flat_map guest_in rest) (free_list (flat_map frame_in rest) e.out) b;
    }

pub both_settles : (k : Extent) (l : LedgerId) (g t s : ShareIs Account) (ps' : List Page) (ns' : List ℕ) (es' : EntriesAre) (book' : FreeList) (parts new : List Account)
    → MovedWithBoth l g t s ps' ns' es' book' → parts ≡ s.parts ++ (t.parts ++ g.parts) → new ≡ Slots book' ∷ Table es' ∷ guest_account ps' ns' ∷ [] → Become (Exact k) parts new
both_settles k l g t s ps' ns' es' book' parts new m from to =
    subst (λ (x : List Account). Become (Exact k) parts x) (sym to)
    (subst (λ (x : List Account). Become (Exact k) x (Slots book' ∷ Table es' ∷ guest_account ps' ns' ∷ []))
    (sym (from ∙ ap (λ (v : ShareIs Account). v.parts ++ (t.parts ++ g.parts)) m.slots_were ∙ ap (λ (v : ShareIs Account). Slots m.book ∷ (v.parts ++ g.parts)) m.table_was
    ∙ ap (λ (v : ShareIs Account). Slots m.book ∷ Table m.entries ∷ v.parts) m.was))
    (both_become k m.pages ps' m.hand ns' m.entries es' m.book book' m.moves))
