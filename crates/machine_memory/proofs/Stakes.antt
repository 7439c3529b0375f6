-- Stakes that are dealt one after another.
use Rattle.std.proofs.Common.{◌≡◌, ℕ, zero, suc, ◌+◌, ◌<◌, List, [], ◌∷◌, ◌++◌, length, map, take, drop, get_or, set, Option, Some, None, length-append, refl, sym, ap, ◌∙◌, subst, arith, append-nil, inl, inr}
use Rattle.std.specs.List.{slice_get}
use Rattle.std.proofs.Math.Numerals.{add-one}
use Rattle.ledger.specs.Shares.{LedgerId, ShareIs}
use Rattle.guest_pages.specs.declared.page.Page.{Page}
use Rattle.accounts.specs.declared.account.Account.{Account}
use Rattle.guest_pages.specs.declared.page.Page.TheVariants.{Given}
use Rattle.guest_pages.specs.declared.page.Returned.{Returned}
use Rattle.guest_pages.specs.Pages.{page_at, handed_back}
use Rattle.guest_pages.specs.Outline.{outline}
use Rattle.accounts.specs.declared.account.Account.TheVariants.{Guest}
use Rattle.accounts.specs.OwnerShares.{share_of, guest_share, on_its_way}
use Rattle.std.proofs.lemmas.Bool.{cases_lt}
use Rattle.std.proofs.lemmas.List.{set_past}
use Rattle.guest_pages.specs.Holdings.{slot_in, slots_held}
use Rattle.page_moves.specs.Returns.{slot_of}
use Rattle.page_moves.proofs.Exchanging.{exchanged}
use Rattle.page_moves.proofs.GoingBack.{hands_back}
use Rattle.accounts.proofs.OnItsWay.{past_is_zero}
use Rattle.accounts.proofs.Outlines.{same_slots}
use Rattle.machine_memory.specs.declared.stake.Stake.{Stake}
use Rattle.machine_memory.specs.Memories.{MemoryIs, HasInHand, IsLevel, AreLevel}
use Rattle.machine_memory.specs.Returns.{Lags}

pub level_more : {Store : Type 0} (m : MemoryIs Store) (stakes : List Stake) (all : List (List Page)) (stake : Stake) (pages : List Page)
    → AreLevel m stakes all → IsLevel m stake pages → AreLevel m (stakes ++ stake ∷ []) (all ++ pages ∷ [])
level_more m [] [] stake pages are is = (is, tt)
level_more m [] (ps ∷ all) stake pages are is = absurd are
level_more m (s ∷ stakes) [] stake pages are is = absurd are
level_more m (s ∷ stakes) (ps ∷ all) stake pages are is = (are.0, level_more m stakes all stake pages are.1 is)

-- ---- lists

pub take_more : {X Y : Type 0} (f : X → Y) (xs : List X) (i : ℕ) (x : X) → i < length xs → x ≡ get_or xs i x → take (suc i) (map f xs) ≡ take i (map f xs) ++ f x ∷ []
take_more f [] i x inside is = absurd (omega (arith, inside))
take_more f (y ∷ ys) zero x inside is = ap (λ (z : _). f z ∷ []) (sym is)
take_more f (y ∷ ys) (suc i) x inside is = ap (λ (l : List _). f y ∷ l) (take_more f ys i x (omega (arith, inside)) is)

pub first_left : {X Y : Type 0} (f : X → Y) (xs : List X) (ys : List Y) (i : ℕ) (x : X) → i < length xs → x ≡ get_or xs i x → take 1 (drop i (map f xs ++ ys)) ≡ f x ∷ []
first_left f [] ys i x inside is = absurd (omega (arith, inside))
first_left f (y ∷ more) ys zero x inside is = ap (λ (z : _). f z ∷ []) (sym is)
first_left f (y ∷ more) ys (suc i) x inside is = first_left f more ys i x (omega (arith, inside)) is

pub left_after : {Y : Type 0} (ys : List Y) (i : ℕ) → drop 1 (drop i ys) ≡ drop (suc i) ys
left_after [] zero = refl
left_after [] (suc i) = refl
left_after (y ∷ ys) zero = refl
left_after (y ∷ ys) (suc i) = left_after ys i

pub left_at_end : {X Y : Type 0} (f : X → Y) (xs : List X) (ys : List Y) → drop (length xs) (map f xs ++ ys) ≡ ys
left_at_end f [] ys = refl
left_at_end f (x ∷ xs) ys = left_at_end f xs ys

pub take_whole : {X Y : Type 0} (f : X → Y) (xs : List X) → take (length xs) (map f xs) ≡ map f xs
take_whole f [] = refl
take_whole f (x ∷ xs) = ap (λ (l : List _). f x ∷ l) (take_whole f xs)

pub dealt_stakes : {Store X : Type 0} (m : MemoryIs Store) (f : X → List Page) (xs : List X) (i : ℕ) (x : X) (stakes stakes' : List Stake) (stake : Stake) → i < length xs → x ≡ get_or xs i x
    → AreLevel m stakes (take i (map f xs)) → stakes' ≡ stakes ++ stake ∷ [] → IsLevel m stake (f x) → AreLevel m stakes' (take (i + 1) (map f xs))
dealt_stakes m f xs i x stakes stakes' stake inside is are more level =
    subst (λ (n : ℕ). AreLevel m stakes' (take n (map f xs))) (sym (add-one i))
    (subst (λ (l : List (List Page)). AreLevel m stakes' l) (sym (take_more f xs i x inside is))
    (subst (λ (l : List Stake). AreLevel m l (take i (map f xs) ++ f x ∷ [])) (sym more) (level_more m stakes (take i (map f xs)) stake (f x) are level)))

pub dealt_accounts : {X : Type 0} (l : LedgerId) (f : X → Account) (xs : List X) (ys : List Account) (i : ℕ) (s s' : ShareIs Account) → s ≡ record { ledger = l; parts = drop i (map f xs ++ ys) }
    → s' ≡ record s { parts = drop 1 s.parts } → s' ≡ record { ledger = l; parts = drop (i + 1) (map f xs ++ ys) }
dealt_accounts l f xs ys i s s' is left =
    left ∙ ap (λ (v : ShareIs Account). record v { parts = drop 1 v.parts }) is
    ∙ ap (λ (ps : List Account). record { ledger = l; parts = ps }) (left_after (map f xs ++ ys) i ∙ ap (λ (n : ℕ). drop n (map f xs ++ ys)) (sym (add-one i)))

pub dealt_share : {X : Type 0} (l : LedgerId) (f : X → List Page) (xs : List X) (ys : List Account) (i : ℕ) (x : X) (s part : ShareIs Account) → i < length xs → x ≡ get_or xs i x
    → s ≡ record { ledger = l; parts = drop i (map (λ z. Guest (outline (f z))) xs ++ ys) } → part ≡ record s { parts = take 1 s.parts } → part ≡ guest_share l (f x) []
dealt_share l f xs ys i x s part inside at is taken =
    taken ∙ ap (λ (v : ShareIs Account). record v { parts = take 1 v.parts }) is
    ∙ ap (λ (ps : List Account). record { ledger = l; parts = ps }) (first_left (λ z. Guest (outline (f z))) xs ys i x inside at ∙ ap (λ (o : List Page). Guest o ∷ []) (sym (append-nil (outline (f x)))))

-- ---- laws

pub level_by_outline : {Store : Type 0} (m : MemoryIs Store) (stake : Stake) (ps ps' : List Page) (hand : List ℕ) → outline ps' ≡ outline ps → HasInHand m stake ps hand → HasInHand m stake ps' hand
level_by_outline m stake ps ps' hand same is = record {
  share = is.share ∙ ap (λ (o : List Page). share_of m.books.id (Guest (o ++ on_its_way hand))) (sym same);
  pass = is.pass;
  contents = record { owner = is.contents.owner; slots = λ k. is.contents.slots k ∙ sym (same_slots ps ps' same k) };
}

-- the slot of a page that is given is handed back
slots_back : (before new : List Page) (p : ℕ) (returned : Returned) → new ≡ set before p Given → returned ≡ handed_back (page_at before p) → (k : ℕ)
    → slots_held k before ≡ slots_held k new + slot_of k returned
slots_back before new p returned pages what k = elim (cases_lt p (length before)) [
  | inl there ↦ omega (arith, ap (slot_of k) what, (hands_back (page_at before p)).slot k, exchanged (slot_in k) before new p Given there pages)
  | inr past ↦
      let same : new ≡ before = pages ∙ set_past before p Given past in
      omega (arith, ap (slots_held k) same, ap (slot_of k) what, ap (λ (q : Page). slot_of k (handed_back q)) (past_is_zero before p past))
]

pub level_lags : {Store : Type 0} (m : MemoryIs Store) (stake : Stake) (old before new : List Page) (p : ℕ) (returned : Returned) → IsLevel m stake old
    → outline before ≡ outline old → new ≡ set before p Given → returned ≡ handed_back (page_at before p) → Lags m stake returned new
level_lags m stake old before new p returned is same pages what =
    let level = level_by_outline m stake old before [] same is in
    record {
      share = record { before = before; given = p; was = level.share; pages = pages; what = what };
      pass = level.pass;
      contents = record { owner = level.contents.owner; slots = λ k. level.contents.slots k ∙ slots_back before new p returned pages what k };
    }

pub level_count : {Store : Type 0} (m : MemoryIs Store) (stakes : List Stake) (all : List (List Page)) → AreLevel m stakes all → length stakes ≡ length all
level_count m [] [] are = refl
level_count m [] (ps ∷ all) are = absurd are
level_count m (s ∷ stakes) [] are = absurd are
level_count m (s ∷ stakes) (ps ∷ all) are = omega (arith, level_count m stakes all are.1)

none_is_some : {X : Type 0} (o : Option X) (x : X) → o ≡ None → o ≡ Some x → ⊥
none_is_some o x none some = absurd (cc)

some_is : {X : Type 0} (x y : X) → Some x ≡ Some y → x ≡ y
some_is x y e = cc

pub level_at : {Store : Type 0} (m : MemoryIs Store) (stakes : List Stake) (all : List (List Page)) (g : ℕ) (stake : Stake) (pages : List Page) → AreLevel m stakes all
    → slice_get stakes g ≡ Some stake → slice_get all g ≡ Some pages → IsLevel m stake pages
level_at m [] all g stake pages are this that = absurd (none_is_some (slice_get [] g) stake refl this)
level_at m (s ∷ stakes) [] g stake pages are this that = absurd are
level_at m (s ∷ stakes) (ps ∷ all) zero stake pages are this that =
    subst (λ (x : Stake). IsLevel m x pages) (some_is s stake this) (subst (λ (x : List Page). IsLevel m s x) (some_is ps pages that) are.0)
level_at m (s ∷ stakes) (ps ∷ all) (suc g) stake pages are this that = level_at m stakes all g stake pages are.1 this that

pub level_last : {Store : Type 0} (m : MemoryIs Store) (stakes : List Stake) (all : List (List Page)) (stake : Stake) (pages : List Page)
    → AreLevel m (stakes ++ stake ∷ []) (all ++ pages ∷ []) → IsLevel m stake pages × AreLevel m stakes all
level_last m [] [] stake pages are = (are.0, tt)
level_last m [] (ps ∷ all) stake pages are = absurd (omega (arith, level_count m [] (all ++ pages ∷ []) are.1, length-append all (pages ∷ [])))
level_last m (s ∷ stakes) [] stake pages are = absurd (omega (arith, level_count m (stakes ++ stake ∷ []) [] are.1, length-append stakes (stake ∷ [])))
level_last m (s ∷ stakes) (ps ∷ all) stake pages are =
    let more = level_last m stakes all stake pages are.1 in
    (more.0, (are.0, more.1))

map_last : {X Y : Type 0} (f : X → Y) (xs : List X) (x : X) → map f (xs ++ x ∷ []) ≡ map f xs ++ f x ∷ []
map_last f [] x = refl
map_last f (y ∷ ys) x = ap (λ (l : List _). f y ∷ l) (map_last f ys x)

-- the last stake and the last guest
pub level_popped : {Store X : Type 0} (m : MemoryIs Store) (f : X → List Page) (stakes left : List Stake) (stake : Stake) (xs more : List X) (x : X) → AreLevel m stakes (map f xs)
    → stakes ≡ left ++ stake ∷ [] → xs ≡ more ++ x ∷ [] → IsLevel m stake (f x) × AreLevel m left (map f more)
level_popped m f stakes left stake xs more x are first second =
    level_last m left (map f more) stake (f x)
    (subst (λ (l : List Stake). AreLevel m l (map f more ++ f x ∷ [])) first (subst (AreLevel m stakes) (ap (map f) second ∙ map_last f more x) are))
