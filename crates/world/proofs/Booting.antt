-- Guests that are booted, with their seats, and guests that are admitted.
use Rattle.std.proofs.Common.{ℕ, suc, false, ◌≡◌, ◌+◌, ◌-◌, ◌<◌, ◌≤◌, inl, inr, All, Option, List, [], ◌∷◌, ◌++◌, length, map, get_or, drop, sum_by, refl, sym, ap, subst, ◌∙◌, arith, length-append}
use Rattle.std.proofs.lemmas.Bool.{cases_lt}
use Rattle.std.proofs.lemmas.List.{drop-drop, get_or-drop, get_or-map, get_or_append_left, length-map}
use Rattle.std.proofs.lemmas.List.Sums.{sum_by-cons}
use Rattle.page_moves.specs.Faith.{Kept}
use Rattle.booting.specs.Boots.{AreAtBoot, IsWithinLimits, KeepsPages}
use Rattle.booting.specs.Boots as booting
use Rattle.tenant.specs.Loading.{IsAtBoot}
use Rattle.tenant.specs.Tenants.{IsUnsampled}
use Rattle.world.specs.All.{AreBooted, GuestIs, HasFramesFor, HasSlotsFor, Intact, IsAdmitted, IsBooted, IsKept, NewGuest, Page, TenantIs, guest_in, page_at, pages_in, pages_seen, view_of, with_seats}
use Rattle.world.proofs.Worlds.{get_last}

abbrev IsBootOf : ℕ → NewGuest → TenantIs → Type 0
IsBootOf runs guest t = IsBooted guest.profile guest.image.value guest.pages guest.shares guest.minimum runs t

pub none_booted : (runs : ℕ) (ts : List TenantIs) → ts ≡ [] → AreBooted runs [] ts
none_booted runs ts none = record { count = ap length none; each = λ g guest t inside. absurd (omega (arith, inside)) }

pub one_booted : (runs : ℕ) (guests : List NewGuest) (guest : NewGuest) (ts : List TenantIs) (t : TenantIs) → IsBootOf runs guest t
    → AreBooted runs guests ts → AreBooted runs (guests ++ guest ∷ []) (ts ++ t ∷ [])
one_booted runs guests guest ts t boots a = record {
  count = omega (arith, a.count, length-append guests (guest ∷ []), length-append ts (t ∷ []));
  each = λ g other d inside. elim (cases_lt g (length guests)) [
    | inl before ↦
        subst (λ (n : NewGuest). IsBootOf runs n (get_or (ts ++ t ∷ []) g d)) (sym (get_or_append_left guests (guest ∷ []) other g before))
        (subst (λ (u : TenantIs). IsBootOf runs (get_or guests g other) u) (sym (get_or_append_left ts (t ∷ []) d g (omega (arith, before, a.count))))
        (a.each g other d before))
    | inr past ↦
        subst (λ (k : ℕ). IsBootOf runs (get_or (guests ++ guest ∷ []) k other) (get_or (ts ++ t ∷ []) k d)) (omega (arith, past, inside, length-append guests (guest ∷ [])))
        (subst (λ (n : NewGuest). IsBootOf runs n (get_or (ts ++ t ∷ []) (length guests) d)) (sym (get_last guests guest other))
        (subst (λ (u : TenantIs). IsBootOf runs guest u) (sym (ap (λ (k : ℕ). get_or (ts ++ t ∷ []) k d) (sym a.count) ∙ get_last ts t d)) boots))
  ];
}

-- ---- guests with their seats

-- the next one of a list that is gone through, and the rest
pub next_of : {X : Type 0} {rest more : List X} (xs : List X) (i : ℕ) (x : X) → rest ≡ drop i xs → rest ≡ x ∷ more → x ≡ get_or xs i x
next_of xs i x left here =
    ap (λ (l : List _). get_or l 0 x) (sym here ∙ left) ∙ get_or-drop i xs 0 x ∙ ap (λ (k : ℕ). get_or xs k x) (omega arith)

pub rest_of : {X : Type 0} {rest more : List X} {x : X} (xs : List X) (i : ℕ) → rest ≡ drop i xs → rest ≡ x ∷ more → more ≡ drop (i + 1) xs
rest_of xs i left here = ap (λ (l : List _). drop 1 l) (sym here ∙ left) ∙ drop-drop 1 i xs ∙ ap (λ (k : ℕ). drop k xs) (omega arith)

-- what a guest is at its boot, of those that are booted
pub its_boot : {runs : ℕ} (asked : List NewGuest) (gs : List GuestIs) (k : ℕ) (n : NewGuest) (g : GuestIs) → AreAtBoot runs asked gs → k < length asked → n ≡ get_or asked k n → g ≡ get_or gs k g
    → IsAtBoot n.profile n.image.value n.pages runs g
its_boot {runs} asked gs k n g a inside which is =
    subst (λ (m : NewGuest). IsAtBoot m.profile m.image.value m.pages runs g) (sym which)
    (subst (λ (h : GuestIs). IsAtBoot (get_or asked k n).profile (get_or asked k n).image.value (get_or asked k n).pages runs h) (sym is) (a.each k n g inside))

-- it has as many pages as it always keeps
pub minimum_fits : {runs : ℕ} (asked : List NewGuest) (k : ℕ) (n : NewGuest) (g : GuestIs) → All IsWithinLimits asked → k < length asked → n ≡ get_or asked k n
    → IsAtBoot n.profile n.image.value n.pages runs g → n.minimum ≤ length g.bus.pages
minimum_fits asked k n g within inside which at =
    subst (λ (count : ℕ). n.minimum ≤ count) (sym at.size) (subst (λ (m : NewGuest). m.minimum ≤ m.pages) (sym which) (within k n inside).minimum.1)

-- and with its seats it is as a world's guest is
pub seated_boot : {runs : ℕ} (n : NewGuest) (g : GuestIs) (t : TenantIs) → IsAtBoot n.profile n.image.value n.pages runs g → t.guest ≡ with_seats g → t.shares ≡ n.shares → t.minimum ≡ n.minimum
    → IsUnsampled t → t.blocked ≡ false → IsBootOf runs n t
seated_boot n g t at guest shares minimum unsampled unblocked = record {
  boot = ap (λ (h : GuestIs). h.boot) guest ∙ at.boot;
  items = ap (λ (h : GuestIs). h.log.items) guest ∙ at.items;
  limit = ap (λ (h : GuestIs). h.log.limit) guest ∙ at.limit;
  shares_are = shares;
  minimum_is = minimum;
  unsampled = unsampled;
  unblocked = unblocked;
  size = ap (λ (h : GuestIs). length h.bus.pages) guest ∙ at.size;
  beside = λ p away. ap (λ (h : GuestIs). page_at h.bus.pages p) guest ∙ at.beside p away;
}

-- the pages of a guest whose tenant has its seats
pub seated_pages : (gs : List GuestIs) (ts : List TenantIs) → map guest_in ts ≡ map with_seats gs → map booting.pages_in gs ≡ map pages_in ts
seated_pages gs ts same = by gs ∙ ap (map booting.pages_in) (sym same) ∙ sym (through ts)
  where
    by : (hs : List GuestIs) → map booting.pages_in hs ≡ map booting.pages_in (map with_seats hs)
    by [] = refl
    by (h ∷ hs) = ap (λ (l : List (List Page)). booting.pages_in h ∷ l) (by hs)

    through : (us : List TenantIs) → map pages_in us ≡ map booting.pages_in (map guest_in us)
    through [] = refl
    through (u ∷ us) = ap (λ (l : List (List Page)). pages_in u ∷ l) (through us)

pub seated_kept : (held : ℕ → Option (List ℕ)) (gs : List GuestIs) (ts : List TenantIs) → map guest_in ts ≡ map with_seats gs
    → All Intact gs → All (KeepsPages held) gs → All (IsKept held) ts
seated_kept held gs ts same intact kept = λ k t inside.
    let many : length gs ≡ length ts = omega (arith, length-map gs with_seats, length-map ts guest_in, ap length same) in
    let there : k < length gs = omega (arith, inside, many) in
    let g = get_or gs k t.guest in
    let at : with_seats g ≡ (get_or ts k t).guest =
    sym (get_or-map with_seats gs k t.guest t.guest there) ∙ ap (λ (l : List GuestIs). get_or l k t.guest) (sym same) ∙ get_or-map guest_in ts k t t.guest inside in
    let i = intact k t.guest there in
    record {
      intact = subst Intact at (record { shows = i.shows; accepted = i.accepted });
      pages = subst (λ (h : GuestIs). Kept held (pages_seen (view_of h)) h.bus.pages) at (kept k t.guest there);
    }

-- ---- guests that are admitted

one_fewer : (runs : ℕ) (guest : NewGuest) (guests : List NewGuest) (t : TenantIs) (ts : List TenantIs) → AreBooted runs (guest ∷ guests) (t ∷ ts) → AreBooted runs guests ts
one_fewer runs guest guests t ts b = record { count = omega (arith, b.count); each = λ g other u inside. b.each (suc g) other u (omega (arith, inside)) }

sums_wanted : (runs : ℕ) (f : TenantIs → ℕ) (h : NewGuest → ℕ) → ((guest : NewGuest) (t : TenantIs) → IsBootOf runs guest t → f t ≡ h guest) → (guests : List NewGuest) (ts : List TenantIs)
    → AreBooted runs guests ts → sum_by f ts ≡ sum_by h guests
sums_wanted runs f h same [] [] b = refl
sums_wanted runs f h same [] (t ∷ ts) b = absurd (omega (arith, b.count))
sums_wanted runs f h same (guest ∷ guests) [] b = absurd (omega (arith, b.count))
sums_wanted runs f h same (guest ∷ guests) (t ∷ ts) b =
    omega (arith, sum_by-cons f t ts, sum_by-cons h guest guests, same guest t (b.each 0 guest t (omega arith)), sums_wanted runs f h same guests ts (one_fewer runs guest guests t ts b))

pub booted_admitted : (runs frames slots : ℕ) (guests : List NewGuest) (ts : List TenantIs) → AreBooted runs guests ts → 1 ≤ length guests
    → HasFramesFor guests frames × HasSlotsFor guests slots → IsAdmitted frames slots ts
booted_admitted runs frames slots guests ts b some has = record {
  some = omega (arith, some, b.count);
  frames_for = omega (arith, sums_wanted runs (λ (t : TenantIs). t.minimum + 1) (λ (g : NewGuest). g.minimum + 1) (λ guest t is. omega (arith, is.minimum_is)) guests ts b, has.0);
  slots_for = omega (arith, sums_wanted runs (λ (t : TenantIs). length (pages_in t) - t.minimum) (λ (g : NewGuest). g.pages - g.minimum) (λ guest t is. omega (arith, is.minimum_is, is.size)) guests ts b, has.1);
}
