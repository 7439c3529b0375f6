-- What is known of slots when stakes are dealt.
use Rattle.std.proofs.Common.{◌≡◌, ℕ, zero, suc, ◌+◌, ◌<◌, ◌≤◌, List, [], ◌∷◌, ◌++◌, Option, Some, None, length, map, take, drop, get_or, inl, inr, refl, sym, ap, ◌∙◌, subst, arith, unwrap_or, append-nil}
use Rattle.std.specs.Option.{IsSome}
use Rattle.std.specs.List.{flat_map, sum_by}
use Rattle.std.proofs.Math.Numerals.{add-one}
use Rattle.std.proofs.lemmas.Bool.{cases_lt}
use Rattle.std.proofs.lemmas.Bool.Decides.{eqb_tells}
use Rattle.std.proofs.lemmas.List.Sums.{sum_by-cons, get_or-le-sum_by}
use Rattle.frames.specs.Counts.{one_at, count_of, below}
use Rattle.frames.proofs.Counting.{count_append, count_one, below_no, one_same}
use Rattle.ledger.specs.Shares.{LedgerId, ShareIs}
use Rattle.guest_pages.specs.declared.page.Page.{Page}
use Rattle.guest_pages.specs.declared.page.Page.TheVariants.{Zero, Given, Private, Shared, Swapped}
use Rattle.guest_pages.specs.Pages.{page_at}
use Rattle.guest_pages.specs.Holdings.{slot_in, slots_held}
use Rattle.page_moves.specs.Faith.{IsHeld, Kept}
use Rattle.slot_contents.specs.declared.content.Written.{Written}
use Rattle.slot_contents.specs.declared.content.Content.{Content}
use Rattle.slot_contents.specs.declared.content.Content.TheVariants.{Owner}
use Rattle.slot_contents.specs.Contents.{slots_of, written_to}
use Rattle.slot_contents.specs.Shares.{IsOwners, owner_share, its_written, found}
use Rattle.slot_contents.proofs.Becoming.{found_slots}
use Rattle.slot_contents.proofs.Writings.{found_there}
use Rattle.lent_pages.specs.Contents.{IsWritten, its_slots}
use Rattle.accounts.specs.declared.account.Account.{Account}
use Rattle.accounts.specs.declared.account.Account.TheVariants.{Guest}
use Rattle.guest_pages.specs.Outline.{outline}
use Rattle.accounts.specs.OwnerShares.{guest_share, guest_account}
use Rattle.shared_pool.specs.Pools.{PassIs}
use Rattle.machine_memory.specs.Memories.{MemoryIs, IsPassOf, HasInHand}
use Rattle.machine_memory.specs.declared.stake.Stake.{Stake}
use Rattle.machine_memory.specs.Dealt.{slot_list, slots_in, guest_part, Each, IsFound, IsKeptBy}
use Rattle.machine_memory.proofs.Stakes.{take_more}

-- ---- the slots of pages

one_slot : (k : ℕ) (q : Page) → count_of k (slot_list q) ≡ slot_in k q
one_slot k Zero = refl
one_slot k Given = refl
one_slot k (Private frame) = refl
one_slot k (Shared share ticket) = refl
one_slot k (Swapped slot digest) = count_one k slot

pub slots_counted : (k : ℕ) (ps : List Page) → count_of k (slots_in ps) ≡ slots_held k ps
slots_counted k [] = refl
slots_counted k (q ∷ ps) = omega (arith, slots_counted k ps, one_slot k q, count_append k (slot_list q) (slots_in ps), sum_by-cons (slot_in k) q ps)

pub owners_counted : {X : Type 0} (f : X → List Page) (k : ℕ) (xs : List X) → sum_by (count_of k) (map (λ x. slots_in (f x)) xs) ≡ sum_by (slots_held k) (map f xs)
owners_counted f k [] = refl
owners_counted f k (x ∷ xs) =
    omega (arith, owners_counted f k xs, slots_counted k (f x), sum_by-cons (count_of k) (slots_in (f x)) (map (λ z. slots_in (f z)) xs), sum_by-cons (slots_held k) (f x) (map f xs))

pub parts_of_owners : {X : Type 0} (held : ℕ → Option (List ℕ)) (f : X → List Page) (xs : List X) (owners : List (List ℕ)) → owners ≡ map (λ x. slots_in (f x)) xs
    → map (λ slots. Owner (found held slots)) owners ≡ map (λ x. guest_part held (f x)) xs
parts_of_owners held f xs owners is = ap (map (λ slots. Owner (found held slots))) is ∙ by xs
  where
    by : (ys : List _) → map (λ slots. Owner (found held slots)) (map (λ x. slots_in (f x)) ys) ≡ map (λ x. guest_part held (f x)) ys
    by [] = refl
    by (y ∷ ys) = ap (λ (l : List Content). guest_part held (f y) ∷ l) (by ys)

-- ---- the shares of guests

pub two_first : {Y : Type 0} (ys : List Y) → take 1 ys ++ take 1 (drop 1 ys) ≡ take 2 ys
two_first [] = refl
two_first (x ∷ []) = refl
two_first (x ∷ y ∷ ys) = refl

pub first_dropped : {X Y : Type 0} (f : X → Y) (xs : List X) (i : ℕ) (x : X) → i < length xs → x ≡ get_or xs i x → take 1 (drop i (map f xs)) ≡ f x ∷ []
first_dropped f [] i x inside is = absurd (omega (arith, inside))
first_dropped f (y ∷ more) zero x inside is = ap (λ (z : _). f z ∷ []) (sym is)
first_dropped f (y ∷ more) (suc i) x inside is = first_dropped f more i x (omega (arith, inside)) is

dropped_more : {Y : Type 0} (ys : List Y) (i : ℕ) → drop 1 (drop i ys) ≡ drop (suc i) ys
dropped_more [] zero = refl
dropped_more [] (suc i) = refl
dropped_more (y ∷ ys) zero = refl
dropped_more (y ∷ ys) (suc i) = dropped_more ys i

pub dealt_written : {X : Type 0} (l : LedgerId) (f : X → Content) (xs : List X) (i : ℕ) (s s' : ShareIs Content) → s ≡ record { ledger = l; parts = drop i (map f xs) }
    → s' ≡ record s { parts = drop 1 s.parts } → s' ≡ record { ledger = l; parts = drop (i + 1) (map f xs) }
dealt_written l f xs i s s' is left =
    left ∙ ap (λ (v : ShareIs Content). record v { parts = drop 1 v.parts }) is
    ∙ ap (λ (ps : List Content). record { ledger = l; parts = ps }) (dropped_more (map f xs) i ∙ ap (λ (n : ℕ). drop n (map f xs)) (sym (add-one i)))

pub dealt_part : {X : Type 0} (l : LedgerId) (held : ℕ → Option (List ℕ)) (f : X → List Page) (xs : List X) (i : ℕ) (x : X) (s part : ShareIs Content) → i < length xs → x ≡ get_or xs i x
    → s ≡ record { ledger = l; parts = drop i (map (λ z. guest_part held (f z)) xs) } → part ≡ record s { parts = take 1 s.parts } → part ≡ owner_share l (found held (slots_in (f x)))
dealt_part l held f xs i x s part inside at is taken =
    taken ∙ ap (λ (v : ShareIs Content). record v { parts = take 1 v.parts }) is ∙ ap (λ (ps : List Content). record { ledger = l; parts = ps }) (first_dropped (λ z. guest_part held (f z)) xs i x inside at)

pub part_written : (l : LedgerId) (held : ℕ → Option (List ℕ)) (part : ShareIs Content) (ps : List Page) → part ≡ owner_share l (found held (slots_in ps)) → IsWritten l part ps
part_written l held part ps is =
    let ws : its_written part ≡ found held (slots_in ps) = ap its_written is in
    record {
      owner = is ∙ ap (owner_share l) (sym ws);
      slots = λ k. ap (λ (l : List Written). count_of k (slots_of l)) ws ∙ ap (count_of k) (found_slots held (slots_in ps)) ∙ slots_counted k ps;
    }

pub each_more : (is : Stake → List Page → Type 0) (stakes : List Stake) (all : List (List Page)) (stake : Stake) (pages : List Page) → Each is stakes all → is stake pages
    → Each is (stakes ++ stake ∷ []) (all ++ pages ∷ [])
each_more is [] [] stake pages are one = (one, tt)
each_more is [] (ps ∷ all) stake pages are one = absurd are
each_more is (s ∷ stakes) [] stake pages are one = absurd are
each_more is (s ∷ stakes) (ps ∷ all) stake pages are one = (are.0, each_more is stakes all stake pages are.1 one)

pub dealt_each : {X : Type 0} (is : Stake → List Page → Type 0) (f : X → List Page) (xs : List X) (i : ℕ) (x : X) (stakes stakes' : List Stake) (stake : Stake) → i < length xs → x ≡ get_or xs i x
    → Each is stakes (take i (map f xs)) → stakes' ≡ stakes ++ stake ∷ [] → is stake (f x) → Each is stakes' (take (i + 1) (map f xs))
dealt_each is f xs i x stakes stakes' stake inside at are more one =
    subst (λ (n : ℕ). Each is stakes' (take n (map f xs))) (sym (add-one i))
    (subst (λ (l : List (List Page)). Each is stakes' l) (sym (take_more f xs i x inside at))
    (subst (λ (l : List Stake). Each is l (take i (map f xs) ++ f x ∷ [])) (sym more) (each_more is stakes (take i (map f xs)) stake (f x) are one)))

-- ---- pages that are kept by what a store holds

known_last : (held : Option (List ℕ)) (b last : List ℕ) → IsSome held → last ≡ unwrap_or held [] → ((l : List ℕ) → held ≡ Some l → b ≡ l) → b ≡ last
known_last None b last known is lies = absurd (cc)
known_last (Some there) b last known is lies = lies there refl ∙ sym is

kept_page : (held : ℕ → Option (List ℕ)) (slots : List ℕ) (b : List ℕ) (q : Page) → ((k : ℕ) → 0 < slot_in k q → IsSome (held k)) → IsHeld held b q → IsHeld (written_to (found held slots)) b q
kept_page held slots b Zero known lies = tt
kept_page held slots b Given known lies = tt
kept_page held slots b (Private frame) known lies = tt
kept_page held slots b (Shared share ticket) known lies = tt
kept_page held slots b (Swapped slot digest) known lies = λ last is. known_last (held slot) b last (known slot (omega (arith, one_same slot))) (found_there held slots slot last is) lies

kept_found : (held : ℕ → Option (List ℕ)) (stake : Stake) (ps : List Page) → ((k : ℕ) → 0 < slots_held k ps → IsSome (held k)) → IsFound held stake ps → IsKeptBy held stake ps
kept_found held stake ps known is view k =
    subst (λ (l : List Written). Kept (written_to l) view ps) (sym is)
    (record {
      faithful = k.faithful;
      lies = λ p inside. kept_page held (slots_in ps) (view p) (page_at ps p) (λ n some. known n (omega (arith, some, get_or-le-sum_by (slot_in n) ps p Zero inside))) (k.lies p inside);
    })

pub each_kept : (held : ℕ → Option (List ℕ)) (stakes : List Stake) (all : List (List Page)) → ((k : ℕ) → 0 < sum_by (slots_held k) all → IsSome (held k)) → Each (IsFound held) stakes all
    → Each (IsKeptBy held) stakes all
each_kept held [] [] known are = tt
each_kept held [] (ps ∷ all) known are = absurd are
each_kept held (s ∷ stakes) [] known are = absurd are
each_kept held (s ∷ stakes) (ps ∷ all) known are =
    (kept_found held s ps (λ k some. known k (omega (arith, some, sum_by-cons (slots_held k) ps all))) are.0, each_kept held stakes all (λ k some. known k (omega (arith, some, sum_by-cons (slots_held k) ps all))) are.1)

-- where a slot is a guest's it is one of the store's
pub slots_known : (free : List ℕ) (slots : ℕ) (held : ℕ → Option (List ℕ)) (all : List (List Page)) → ((k : ℕ) → count_of k free + sum_by (slots_held k) all ≡ below k slots)
    → ((k : ℕ) → k < slots → IsSome (held k)) → (k : ℕ) → 0 < sum_by (slots_held k) all → IsSome (held k)
slots_known free slots held all each known k some = elim (cases_lt k slots) [
  | inl inside ↦ known k inside
  | inr past ↦ absurd (omega (arith, some, each k, below_no k slots past))
]

-- ---- moves

pub kept_on : (s s' : ShareIs Content) (view : ℕ → List ℕ) (ps : List Page) → s' ≡ s → Kept (its_slots s) view ps → Kept (its_slots s') view ps
kept_on s s' view ps same k = subst (λ (t : ShareIs Content). Kept (its_slots t) view ps) (sym same) k

-- a guest whose pages are in the slots that they were in
pub stays_in_hand : {Store : Type 0} (memory : MemoryIs Store) (l : LedgerId) (share : ShareIs Account) (pass : PassIs) (contents : ShareIs Content) (ps ps' : List Page) (hand : List ℕ) → l ≡ memory.books.id
    → IsPassOf memory pass → IsWritten memory.contents.id contents ps → share ≡ guest_share l ps' hand → ((k : ℕ) → slots_held k ps' ≡ slots_held k ps)
    → HasInHand memory (record { share = share; pass = pass; contents = contents }) ps' hand
stays_in_hand memory l share pass contents ps ps' hand same its written is slots = record {
  share = is ∙ ap (λ (i : LedgerId). guest_share i ps' hand) same;
  pass = its;
  contents = record { owner = written.owner; slots = λ k. written.slots k ∙ sym (slots k) };
}

-- ---- the accounts of guests with nothing in hand

pub plain_accounts : {X : Type 0} (f : X → List Page) (xs : List X) → map (λ x. guest_account (f x) []) xs ≡ map (λ x. Guest (outline (f x))) xs
plain_accounts f [] = refl
plain_accounts f (x ∷ xs) =
    ap (λ (a : Account). a ∷ map (λ z. guest_account (f z) []) xs) (ap Guest (append-nil (outline (f x)))) ∙ ap (λ (l : List Account). Guest (outline (f x)) ∷ l) (plain_accounts f xs)
