-- One guest more, at its boot.
use Rattle.std.proofs.Common.{ℕ, zero, suc, ◌≡◌, ◌+◌, ◌<◌, inl, inr, All, Option, List, [], ◌∷◌, ◌++◌, length, map, set, get_or, take, replicate, sum_by, refl, sym, ap, subst, ◌∙◌, arith, length-append}
use Rattle.std.proofs.Math.Numerals.{add-one}
use Rattle.std.proofs.lemmas.Bool.{cases_lt}
use Rattle.std.proofs.lemmas.List.{get_or_append_left}
use Rattle.std.proofs.lemmas.List.Elements.{All-push, All-get_or, All-from_get_or}
use Rattle.std.proofs.lemmas.List.Sums.{get_or-le-sum_by}
use Rattle.frames.specs.Counts.{below, count_of}
use Rattle.frames.specs.FreeList.{FreeList}
use Rattle.sharetab.specs.Entries.{EntriesAre}
use Rattle.guest_pages.specs.declared.page.Page.{Page}
use Rattle.guest_pages.specs.declared.page.Page.TheVariants as page
use Rattle.guest_pages.specs.Pages.{page_at}
use Rattle.guest_pages.specs.Holdings.{slot_in, slots_held}
use Rattle.page_moves.specs.Books.{Books}
use Rattle.page_moves.specs.Moves.{Conserves, Reads}
use Rattle.page_moves.proofs.Booking.{below_one, books_after}
use Rattle.page_moves.proofs.Starting.{books_with_owner}
use Rattle.guest.specs.Guests.{GuestIs, view_of}
use Rattle.guest.specs.Views.{pages_seen}
use Rattle.tenant.specs.Lent.{UsedStay}
use Rattle.tenant.specs.Loading.{IsAtBoot}
use Rattle.tenant.proofs.Keeping.{used_held}
use Rattle.booting.specs.Boots.{AreAtBoot, KeepsPages, pages_in}
use Rattle.booting.specs.declared.asked.NewGuest.{NewGuest}

get_last : {X : Type 0} (xs : List X) (a d : X) → get_or (xs ++ a ∷ []) (length xs) d ≡ a
get_last [] a d = refl
get_last (x ∷ xs) a d = get_last xs a d

set_last : {X : Type 0} (xs : List X) (a b : X) → set (xs ++ a ∷ []) (length xs) b ≡ xs ++ b ∷ []
set_last [] a b = refl
set_last (x ∷ xs) a b = ap (λ (l : List _). x ∷ l) (set_last xs a b)

-- one more of those that were asked for
pub one_more_asked : {X : Type 0} (xs : List X) (i : ℕ) (x : X) → i < length xs → x ≡ get_or xs i x → take (i + 1) xs ≡ take i xs ++ x ∷ []
one_more_asked xs i x inside is = ap (λ (n : ℕ). take n xs) (add-one i) ∙ by xs i inside is
  where
    by : (ys : List _) (k : ℕ) → k < length ys → x ≡ get_or ys k x → take (suc k) ys ≡ take k ys ++ x ∷ []
    by [] k there at = absurd (omega (arith, there))
    by (y ∷ ys) zero there at = ap (λ (z : _). z ∷ []) (sym at)
    by (y ∷ ys) (suc k) there at = ap (λ (l : List _). y ∷ l) (by ys k (omega (arith, there)) at)

pub last_pages : (gs : List GuestIs) (g : GuestIs) → map pages_in (gs ++ g ∷ []) ≡ map pages_in gs ++ pages_in g ∷ []
last_pages [] g = refl
last_pages (h ∷ gs) g = ap (λ (l : List (List Page)). pages_in h ∷ l) (last_pages gs g)

-- ---- at its boot

pub none_at_boot : (runs : ℕ) → AreAtBoot runs [] []
none_at_boot runs = record { count = refl; each = λ g guest booted inside. absurd (omega (arith, inside)) }

pub one_at_boot : (runs : ℕ) (asked : List NewGuest) (guest : NewGuest) (gs : List GuestIs) (g : GuestIs) → IsAtBoot guest.profile guest.image.value guest.pages runs g
    → AreAtBoot runs asked gs → AreAtBoot runs (asked ++ guest ∷ []) (gs ++ g ∷ [])
one_at_boot runs asked guest gs g boots a = record {
  count = omega (arith, a.count, length-append asked (guest ∷ []), length-append gs (g ∷ []));
  each = λ k other d inside. elim (cases_lt k (length asked)) [
    | inl before ↦
        subst (λ (n : NewGuest). IsAtBoot n.profile n.image.value n.pages runs (get_or (gs ++ g ∷ []) k d)) (sym (get_or_append_left asked (guest ∷ []) other k before))
        (subst (λ (u : GuestIs). IsAtBoot (get_or asked k other).profile (get_or asked k other).image.value (get_or asked k other).pages runs u)
        (sym (get_or_append_left gs (g ∷ []) d k (omega (arith, before, a.count)))) (a.each k other d before))
    | inr past ↦
        let last : length asked ≡ k = omega (arith, past, inside, length-append asked (guest ∷ [])) in
        subst (λ (i : ℕ). IsAtBoot (get_or (asked ++ guest ∷ []) i other).profile (get_or (asked ++ guest ∷ []) i other).image.value (get_or (asked ++ guest ∷ []) i other).pages runs (get_or (gs ++ g ∷ []) i d)) last
        (subst (λ (n : NewGuest). IsAtBoot n.profile n.image.value n.pages runs (get_or (gs ++ g ∷ []) (length asked) d)) (sym (get_last asked guest other))
        (subst (λ (u : GuestIs). IsAtBoot guest.profile guest.image.value guest.pages runs u)
        (sym (ap (λ (i : ℕ). get_or (gs ++ g ∷ []) i d) (sym a.count) ∙ get_last gs g d)) boots))
  ];
}

-- ---- the books

pub one_more_exact : (frames slots n : ℕ) (gs : List GuestIs) (g : GuestIs) (pool pool' book book' : FreeList) (es : EntriesAre) → Conserves (replicate n page.Zero) pool book es (pages_in g) pool' book' es
    → Reads es (pages_in g) → Books frames slots (map pages_in gs) es pool book → Books frames slots (map pages_in (gs ++ g ∷ [])) es pool' book'
one_more_exact frames slots n gs g pool pool' book book' es conserves reads b =
    let all = map pages_in gs in
    let new = replicate n page.Zero in
    let inside : length all < length (all ++ new ∷ []) = omega (arith, length-append all (new ∷ [])) in
    let at : get_or (all ++ new ∷ []) (length all) [] ≡ new = get_last all new [] in
    subst (λ (l : List (List Page)). Books frames slots l es pool' book') (set_last all new (pages_in g) ∙ sym (last_pages gs g))
    (books_after frames slots (all ++ new ∷ []) (length all) (pages_in g) es es pool pool' book book' inside
    (subst (λ (ps : List Page). Conserves ps pool book es (pages_in g) pool' book' es) (sym at) conserves) reads
    (books_with_owner frames slots all es pool book n b))

-- ---- what the store holds

-- how many pages of the guests are in a slot
abbrev pub slots_of : ℕ → List GuestIs → ℕ
slots_of k gs = sum_by (λ g. slots_held k (pages_in g)) gs

pub one_more_keeps : (slots : ℕ) (held held' : ℕ → Option (List ℕ)) (book : FreeList) (gs : List GuestIs) (g : GuestIs) → ((k : ℕ) → count_of k book.free + slots_of k gs ≡ below k slots)
    → UsedStay book held held' → All (KeepsPages held) gs → KeepsPages held' g → All (KeepsPages held') (gs ++ g ∷ [])
one_more_keeps slots held held' book gs g once used all last =
    All-push (KeepsPages held') gs g (All-from_get_or (KeepsPages held') gs g each) last
  where
    each : (j : ℕ) → j < length gs → KeepsPages held' (get_or gs j g)
    each j inside =
        let h = get_or gs j g in
        let k : KeepsPages held h = All-get_or (KeepsPages held) gs j g inside all in
        record {
          faithful = k.faithful;
          lies = λ p there. used_held book held held' (pages_seen (view_of h) p) (page_at (pages_in h) p) used
              (λ slot some. omega (
                arith,
                some,
                once slot,
                below_one slot slots,
                get_or-le-sum_by (slot_in slot) (pages_in h) p page.Zero there,
                get_or-le-sum_by (λ (i : GuestIs). slots_held slot (pages_in i)) gs j g inside,
              )) (k.lies p there);
        }
