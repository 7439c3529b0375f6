-- The accounts are exact when the ledger is made, and in any order.
use Rattle.std.proofs.Common.{◌≡◌, ℕ, zero, suc, List, [], ◌∷◌, ◌++◌, length, map, replicate, refl, sym, ap, ◌∙◌, subst, arith, None, length-append, append-nil}
use Rattle.std.specs.List.{flat_map, sum_by, range_with_len, All}
use Rattle.std.proofs.lemmas.Grind.{flat_map-append}
use Rattle.std.proofs.lemmas.List.Sums.{sum_by-append, sum_by-cons}
use Rattle.std.proofs.lemmas.List.Folds.{sum_by-replicate}
use Rattle.std.proofs.lemmas.List.Elements.{All-nil, All-cons, All-head, All-tail, All-append, All-replicate}
use Rattle.frames.specs.FreeList.{FreeList}
use Rattle.frames.specs.Counts.{one_at, count_of}
use Rattle.frames.proofs.Counting.{count_range}
use Rattle.sharetab.specs.Entries.{EntriesAre}
use Rattle.guest_pages.specs.declared.page.Page.{Page}
use Rattle.guest_pages.specs.declared.page.PageKind.TheVariants as kind
use Rattle.guest_pages.specs.Holdings.{frames_held, tickets_held, slots_held, private_pages, swapped_pages}
use Rattle.page_moves.specs.Moves.{Reads}
use Rattle.page_moves.specs.Books.{Books}
use Rattle.page_moves.proofs.Starting.{books_of_nothing}
use Rattle.accounts.specs.declared.account.Account.{Account}
use Rattle.accounts.specs.declared.account.Account.TheVariants.{Guest, Table, Frame, Slots}
use Rattle.accounts.specs.declared.account.Extent.{Extent}
use Rattle.accounts.specs.Exact.{guest_in, table_in, frame_in, slots_in, one_owner, free_list, Exact, opening}

parts3 : {A B : Type 0} (f : A → List B) (xs ys zs : List A) → flat_map f (xs ++ (ys ++ zs)) ≡ flat_map f xs ++ (flat_map f ys ++ flat_map f zs)
parts3 f xs ys zs = flat_map-append f xs (ys ++ zs) ∙ ap (λ (l : List _). flat_map f xs ++ l) (flat_map-append f ys zs)

rest_of : {A : Type 0} → List A → List A
rest_of [] = []
rest_of (x ∷ xs) = xs

-- a list of one element is that in any order of its parts
one_moves : {A : Type 0} (xs ys zs : List A) (e : A) → xs ++ (ys ++ zs) ≡ e ∷ [] → ys ++ (xs ++ zs) ≡ e ∷ []
one_moves [] ys zs e h = h
one_moves (x ∷ xs) [] zs e h = h
one_moves (x ∷ xs) (y ∷ ys) zs e h = absurd (omega (arith, ap length h, length-append xs (y ∷ (ys ++ zs))))

moved_one : {A B : Type 0} (f : A → List B) (xs ys zs : List A) (e : B) → flat_map f (xs ++ (ys ++ zs)) ≡ e ∷ [] → flat_map f (ys ++ (xs ++ zs)) ≡ e ∷ []
moved_one f xs ys zs e h = parts3 f ys xs zs ∙ one_moves (flat_map f xs) (flat_map f ys) (flat_map f zs) e (sym (parts3 f xs ys zs) ∙ h)

pub all_parts : {X : Type 0} (P : X → Type 0) (xs ys : List X) → All P (xs ++ ys) → All P xs × All P ys
all_parts P [] ys h = (All-nil P, h)
all_parts P (x ∷ xs) ys h =
    let t = all_parts P xs ys (All-tail P x (xs ++ ys) h) in
    (All-cons P x xs (All-head P x (xs ++ ys) h) t.0, t.1)

moved_all : {X : Type 0} (P : X → Type 0) (xs ys zs : List X) → All P (xs ++ (ys ++ zs)) → All P (ys ++ (xs ++ zs))
moved_all P xs ys zs h =
    let a = all_parts P xs (ys ++ zs) h in
    let b = all_parts P ys zs a.1 in
    All-append P ys (xs ++ zs) b.0 (All-append P xs zs a.0 b.1)

moved_sum : {X : Type 0} (f : X → ℕ) (xs ys zs : List X) → sum_by f (ys ++ (xs ++ zs)) ≡ sum_by f (xs ++ (ys ++ zs))
moved_sum f xs ys zs = omega (arith, sum_by-append f ys (xs ++ zs), sum_by-append f xs zs, sum_by-append f xs (ys ++ zs), sum_by-append f ys zs)

pub books_in_any_order : (frames slots : ℕ) (xs ys zs : List (List Page)) (es : EntriesAre) (pool book : FreeList)
    → Books frames slots (xs ++ (ys ++ zs)) es pool book → Books frames slots (ys ++ (xs ++ zs)) es pool book
books_in_any_order frames slots xs ys zs es pool book b = record {
  each_frame = λ k. omega (arith, b.each_frame k, moved_sum (frames_held k) xs ys zs);
  frames_out = omega (arith, b.frames_out, moved_sum private_pages xs ys zs);
  each_slot = λ k. omega (arith, b.each_slot k, moved_sum (slots_held k) xs ys zs);
  slots_out = omega (arith, b.slots_out, moved_sum swapped_pages xs ys zs);
  tickets = λ k. omega (arith, b.tickets k, moved_sum (tickets_held k) xs ys zs);
  places = b.places;
  reads = moved_all (Reads es) xs ys zs b.reads;
}

-- books ask of the free frames only how often each number is there
pub books_of_free : (frames slots : ℕ) (all : List (List Page)) (es : EntriesAre) (book : FreeList) (free free' : List ℕ) (out : ℕ) → ((k : ℕ) → count_of k free' ≡ count_of k free)
    → Books frames slots all es (free_list free out) book → Books frames slots all es (free_list free' out) book
books_of_free frames slots all es book free free' out same b = record {
  each_frame = λ k. omega (arith, b.each_frame k, same k);
  frames_out = b.frames_out;
  each_slot = b.each_slot;
  slots_out = b.slots_out;
  tickets = b.tickets;
  places = b.places;
  reads = b.reads;
}

pub exact_in_any_order : (k : Extent) (xs ys zs : List Account) → Exact k (xs ++ (ys ++ zs)) → Exact k (ys ++ (xs ++ zs))
exact_in_any_order k xs ys zs e =
    let free : List ℕ = flat_map frame_in (xs ++ (ys ++ zs)) in
    let free' : List ℕ = flat_map frame_in (ys ++ (xs ++ zs)) in
    let same : (n : ℕ) → count_of n free' ≡ count_of n free =
    λ n. ap (sum_by (one_at n)) (parts3 frame_in ys xs zs) ∙ moved_sum (one_at n) (flat_map frame_in xs) (flat_map frame_in ys) (flat_map frame_in zs) ∙ ap (sum_by (one_at n)) (sym (parts3 frame_in xs ys zs)) in
    record {
      entries = e.entries;
      out = e.out;
      book = e.book;
      owners = omega (arith, e.owners, moved_sum one_owner xs ys zs);
      one_table = moved_one table_in xs ys zs e.entries e.one_table;
      one_book = moved_one slots_in xs ys zs e.book e.one_book;
      exact = books_of_free k.frames k.slots (flat_map guest_in (ys ++ (xs ++ zs))) e.entries e.book free free' e.out same
          (subst (λ (all : List (List Page)). Books k.frames k.slots all e.entries (free_list free e.out) e.book) (sym (parts3 guest_in ys xs zs))
          (books_in_any_order k.frames k.slots (flat_map guest_in xs) (flat_map guest_in ys) (flat_map guest_in zs) e.entries (free_list free e.out) e.book
          (subst (λ (all : List (List Page)). Books k.frames k.slots all e.entries (free_list free e.out) e.book) (parts3 guest_in xs ys zs) e.exact)));
    }

pub none_in : {A B : Type 0} (f : A → List B) (n : ℕ) (x : A) → f x ≡ [] → flat_map f (replicate n x) ≡ []
none_in f zero x h = refl
none_in f (suc n) x h = ap (λ (l : List _). l ++ flat_map f (replicate n x)) h ∙ none_in f n x h

pub none_of : {A B C : Type 0} (f : B → List C) (g : A → B) (xs : List A) → ((x : A) → f (g x) ≡ []) → flat_map f (map g xs) ≡ []
none_of f g [] h = refl
none_of f g (x ∷ xs) h = ap (λ (l : List _). l ++ flat_map f (map g xs)) (h x) ∙ none_of f g xs h

pub frames_are : (numbers : List ℕ) → flat_map frame_in (map Frame numbers) ≡ numbers
frames_are [] = refl
frames_are (n ∷ ns) = ap (λ (l : List ℕ). n ∷ l) (frames_are ns)

pub no_pages : (n : ℕ) → flat_map guest_in (replicate n (Guest [])) ≡ replicate n []
no_pages zero = refl
no_pages (suc n) = ap (λ (l : List (List Page)). [] ∷ l) (no_pages n)

pub no_owner : (numbers : List ℕ) → sum_by one_owner (map Frame numbers) ≡ 0
no_owner [] = refl
no_owner (n ∷ ns) = omega (arith, no_owner ns, sum_by-cons one_owner (Frame n) (map Frame ns))

-- owners with no pages
books_of_none : (frames slots n : ℕ) → Books frames slots (replicate n []) (replicate frames None) (free_list (range_with_len 0 frames) 0) (free_list (range_with_len 0 slots) 0)
books_of_none frames slots n =
    let b = books_of_nothing frames slots (free_list (range_with_len 0 frames) 0) (free_list (range_with_len 0 slots) 0) (λ k. count_range k frames) refl (λ k. count_range k slots) refl in
    record {
      each_frame = λ k. omega (arith, b.each_frame k, sum_by-replicate (frames_held k) n []);
      frames_out = omega (arith, b.frames_out, sum_by-replicate private_pages n []);
      each_slot = λ k. omega (arith, b.each_slot k, sum_by-replicate (slots_held k) n []);
      slots_out = omega (arith, b.slots_out, sum_by-replicate swapped_pages n []);
      tickets = λ k. omega (arith, b.tickets k, sum_by-replicate (tickets_held k) n []);
      places = b.places;
      reads = All-replicate (Reads (replicate frames None)) n [] (λ p shared. absurd (zero_is_not_shared shared));
    }
  where
    zero_is_not_shared : kind.Zero ≡ kind.Shared → ⊥
    zero_is_not_shared e = absurd (cc)

pub opening_is_exact : (k : Extent) → Exact k (opening k)
opening_is_exact k =
    let none : List Account = replicate k.guests (Guest []) in
    let ns : List ℕ = range_with_len 0 k.frames in
    let es : EntriesAre = replicate k.frames None in
    let guests : flat_map guest_in (none ++ map Frame ns) ≡ replicate k.guests [] =
    flat_map-append guest_in none (map Frame ns) ∙ ap (λ (l : List (List Page)). flat_map guest_in none ++ l) (none_of guest_in Frame ns (λ n. refl)) ∙ append-nil (flat_map guest_in none) ∙ no_pages k.guests in
    let free : flat_map frame_in (none ++ map Frame ns) ≡ ns =
    flat_map-append frame_in none (map Frame ns) ∙ ap (λ (l : List ℕ). l ++ flat_map frame_in (map Frame ns)) (none_in frame_in k.guests (Guest []) refl) ∙ frames_are ns in
    let tables : flat_map table_in (none ++ map Frame ns) ≡ [] =
    flat_map-append table_in none (map Frame ns) ∙ ap (λ (l : List EntriesAre). l ++ flat_map table_in (map Frame ns)) (none_in table_in k.guests (Guest []) refl) ∙ none_of table_in Frame ns (λ n. refl) in
    let books : flat_map slots_in (none ++ map Frame ns) ≡ [] =
    flat_map-append slots_in none (map Frame ns) ∙ ap (λ (l : List FreeList). l ++ flat_map slots_in (map Frame ns)) (none_in slots_in k.guests (Guest []) refl) ∙ none_of slots_in Frame ns (λ n. refl) in
    record {
      entries = es;
      out = 0;
      book = free_list (range_with_len 0 k.slots) 0;
      owners = omega (arith, sum_by-append one_owner none (map Frame ns), no_owner ns, sum_by-replicate one_owner k.guests (Guest []), sum_by-cons one_owner (Table es) (none ++ map Frame ns), sum_by-cons one_owner (Slots (free_list (range_with_len 0 k.slots) 0)) (Table es ∷ (none ++ map Frame ns)));
      one_table = ap (λ (l : List EntriesAre). es ∷ l) tables;
      one_book = ap (λ (l : List FreeList). free_list (range_with_len 0 k.slots) 0 ∷ l) books;
      exact = subst (λ (all : List (List Page)). Books k.frames k.slots all es (free_list (flat_map frame_in (none ++ map Frame ns)) 0) (free_list (range_with_len 0 k.slots) 0)) (sym guests)
          (subst (λ (f : List ℕ). Books k.frames k.slots (replicate k.guests []) es (free_list f 0) (free_list (range_with_len 0 k.slots) 0)) (sym free) (books_of_none k.frames k.slots k.guests));
    }
