-- Pages that are needed, and frames for them.
use Rattle.std.proofs.Common.{ℕ, zero, suc, ◌≡◌, ◌≢◌, ◌+◌, ◌<◌, inl, inr, true, false, Option, List, [], ◌∷◌, ◌++◌, length, set, get_or, map, refl, sym, ap, subst, ◌∙◌, arith, Some, None}
use Rattle.std.proofs.lemmas.Bool.{cases_eq}
use Rattle.std.proofs.lemmas.List.{length-map, append-nil, get_or-set_other}
use Rattle.std.proofs.lemmas.Option.{same_Some, get_or_from_slice_get}
use Rattle.std.proofs.lemmas.List.Sums.{sum_by-set}
use Rattle.world.specs.All.{Changes, FreeList, IsEligible, IsEvicted, IsLeast, Item, OnlyPagesMove, OtherSparedStay, Page, PagesMove, SameNumbers, Spared, SparedStay, Stat, TenantIs, Why, all_resident, beside_pages, count_of, is_one_of, items_of, log_at, may_leave, one_private, one_shared, page_at, pages_in, resident_pages, spared_of, stat_of}
use Rattle.frames.proofs.Counting.{count_cons, one_same}
use Rattle.guest_pages.specs.declared.page.Page.TheVariants as page
use Rattle.page_moves.proofs.Exchanging.{exchanged}
use Rattle.victims.proofs.Searching.{counted_once, leaves_apart}

-- ---- resident pages

-- a page that has left its frame
pub one_less : (p : ℕ) (ps ps' : List Page) (slots : FreeList) → p < length ps → IsEvicted p ps ps' slots → resident_pages ps' + 1 ≡ resident_pages ps
one_less p ps ps' slots there e =
    omega (arith, counted_once (page_at ps p) e.resident, exchanged one_private ps ps' p _ there e.pages, exchanged one_shared ps ps' p _ there e.pages)

-- ---- guests of which only pages have moved

pub map_same : {Y : Type 0} (f : TenantIs → Y) (ts : List TenantIs) (g : ℕ) (t' d : TenantIs) → g < length ts → f t' ≡ f (get_or ts g d) → map f (set ts g t') ≡ map f ts
map_same f [] g t' d inside same = absurd (omega (arith, inside))
map_same f (t ∷ ts) zero t' d inside same = ap (λ y. y ∷ map f ts) same
map_same f (t ∷ ts) (suc g) t' d inside same = ap (λ ys. f t ∷ ys) (map_same f ts g t' d (omega (arith, inside)) same)

pub map_at : {Y : Type 0} (f : TenantIs → Y) (ts : List TenantIs) (g : ℕ) (d : TenantIs) (e : Y) → g < length ts → get_or (map f ts) g e ≡ f (get_or ts g d)
map_at f [] g d e inside = absurd (omega (arith, inside))
map_at f (t ∷ ts) zero d e inside = refl
map_at f (t ∷ ts) (suc g) d e inside = map_at f ts g d e (omega (arith, inside))

pub some_tenant : (ts : List TenantIs) (g : ℕ) → g < length ts → TenantIs
some_tenant [] g inside = absurd (omega (arith, inside))
some_tenant (t ∷ ts) g inside = t

-- what is the same of the one guest that changes is the same of all
pub changed : {Y : Type 0} (f : TenantIs → Y) {how : TenantIs → TenantIs → Type 0} {g : ℕ} {ts ts' : List TenantIs} → Changes how g ts ts' → g < length ts
    → ((t t' : TenantIs) → how t t' → f t' ≡ f t) → map f ts' ≡ map f ts
changed f {g = g} {ts = ts} {ts' = ts'} c inside same =
    let d = some_tenant ts g inside in
    ap (map f) (c.one d) ∙ map_same f ts g (get_or ts' g d) d inside (same (get_or ts g d) (get_or ts' g d) (c.so d))

pub only_pages : (g : ℕ) (ts ts' : List TenantIs) → g < length ts → Changes PagesMove g ts ts' → OnlyPagesMove ts ts'
only_pages g ts ts' inside c =
    record { beside = changed beside_pages c inside (λ t t' m. m.beside); counts = changed (λ t. length (pages_in t)) c inside (λ t t' m. m.count) }

pub pages_stay : (ts ts' : List TenantIs) → ts' ≡ ts → OnlyPagesMove ts ts'
pages_stay ts ts' same = record { beside = ap (map beside_pages) same; counts = ap (map (λ t. length (pages_in t))) same }

pub pages_then : (ts mid ts' : List TenantIs) → OnlyPagesMove ts mid → OnlyPagesMove mid ts' → OnlyPagesMove ts ts'
pages_then ts mid ts' a b = record { beside = b.beside ∙ a.beside; counts = b.counts ∙ a.counts }

pub same_count : (ts ts' : List TenantIs) → OnlyPagesMove ts ts' → length ts' ≡ length ts
same_count ts ts' m = omega (arith, length-map ts beside_pages, length-map ts' beside_pages, ap length m.beside)

pub same_pages : (ts ts' : List TenantIs) (g : ℕ) (d : TenantIs) → g < length ts → OnlyPagesMove ts ts' → length (pages_in (get_or ts' g d)) ≡ length (pages_in (get_or ts g d))
same_pages ts ts' g d inside m =
    sym (map_at (λ t. length (pages_in t)) ts' g d 0 (omega (arith, inside, same_count ts ts' m)))
    ∙ ap (λ (ns : List ℕ). get_or ns g 0) m.counts ∙ map_at (λ t. length (pages_in t)) ts g d 0 inside

pub fewer : (g p : ℕ) (ts ts' : List TenantIs) (slots : FreeList) → g < length ts → Changes PagesMove g ts ts'
    → ((t : TenantIs) → p < length (pages_in (get_or ts g t))) → ((t : TenantIs) → IsEvicted p (pages_in (get_or ts g t)) (pages_in (get_or ts' g t)) slots)
    → all_resident ts' + 1 ≡ all_resident ts
fewer g p ts ts' slots inside c there evicted =
    let d = some_tenant ts g inside in
    omega (
      arith,
      ap all_resident (c.one d),
      sum_by-set (λ t. resident_pages (pages_in t)) ts g (get_or ts' g d) d inside,
      one_less p (pages_in (get_or ts g d)) (pages_in (get_or ts' g d)) slots (there d) (evicted d),
    )

-- ---- pages that are spared

pub no_true : true ≡ false → ⊥
no_true e = cc

-- the pages of another guest
of_another : (g h q : ℕ) (ts ts' : List TenantIs) (t : TenantIs) → Changes PagesMove g ts ts' → h ≢ g → page_at (pages_in (get_or ts' h t)) q ≡ page_at (pages_in (get_or ts h t)) q
of_another g h q ts ts' t c apart =
    ap (λ (l : List TenantIs). page_at (pages_in (get_or l h t)) q) (c.one t) ∙ ap (λ (u : TenantIs). page_at (pages_in u) q) (get_or-set_other ts g h (get_or ts' g t) t apart)

pub evicted_spares : (g p : ℕ) (ts ts' : List TenantIs) (slots : FreeList) (spared : Option Spared) → Changes PagesMove g ts ts'
    → ((t : TenantIs) → may_leave (spared_of spared g) (pages_in (get_or ts g t)) p ≡ true)
    → ((t : TenantIs) → IsEvicted p (pages_in (get_or ts g t)) (pages_in (get_or ts' g t)) slots) → SparedStay spared ts ts'
evicted_spares g p ts ts' slots spared c leaves evicted = λ t h q is.
    elim (cases_eq h g) [
      | inl e ↦ same t h q is e
      | inr apart ↦ of_another g h q ts ts' t c apart
    ]
  where
    same : (t : TenantIs) (h q : ℕ) → is_one_of (spared_of spared h) q ≡ true → h ≡ g → page_at (pages_in (get_or ts' h t)) q ≡ page_at (pages_in (get_or ts h t)) q
    same t h q is e =
        let not_it : is_one_of (spared_of spared g) p ≡ false = leaves_apart (spared_of spared g) (pages_in (get_or ts g t)) p (leaves t) in
        let it : is_one_of (spared_of spared g) q ≡ true = subst (λ (n : ℕ). is_one_of (spared_of spared n) q ≡ true) e is in
        let other : q ≢ p = λ same. no_true (sym it ∙ ap (is_one_of (spared_of spared g)) same ∙ not_it) in
        subst (λ (n : ℕ). page_at (pages_in (get_or ts' n t)) q ≡ page_at (pages_in (get_or ts n t)) q) (sym e)
        (ap (λ (ps : List Page). page_at ps q) (evicted t).pages ∙ get_or-set_other (pages_in (get_or ts g t)) p q _ page.Zero other)

pub spared_same : (spared : Option Spared) (ts ts' : List TenantIs) → ts' ≡ ts → SparedStay spared ts ts'
spared_same spared ts ts' same = λ t h q is. ap (λ (l : List TenantIs). page_at (pages_in (get_or l h t)) q) same

pub spared_then : (spared : Option Spared) (ts mid ts' : List TenantIs) → SparedStay spared ts mid → SparedStay spared mid ts' → SparedStay spared ts ts'
spared_then spared ts mid ts' a b = λ t h q is. b t h q is ∙ a t h q is

pub spared_others : (g p : ℕ) (spared : Option Spared) (ts ts' : List TenantIs) → SparedStay spared ts ts' → OtherSparedStay g p spared ts ts'
spared_others g p spared ts ts' a = λ t h q apart is. a t h q is

pub supplied_spares : (g p : ℕ) (spared : Option Spared) (ts mid ts' : List TenantIs) → SparedStay spared ts mid → Changes PagesMove g mid ts'
    → ((t : TenantIs) (other : ℕ) → (other ≡ p → ⊥) → page_at (pages_in (get_or ts' g t)) other ≡ page_at (pages_in (get_or mid g t)) other) → OtherSparedStay g p spared ts ts'
supplied_spares g p spared ts mid ts' a c others = λ t h q apart is.
    elim (cases_eq h g) [
      | inl e ↦ same t h q (apart e) e ∙ a t h q is
      | inr away ↦ of_another g h q mid ts' t c away ∙ a t h q is
    ]
  where
    same : (t : TenantIs) (h q : ℕ) → q ≢ p → h ≡ g → page_at (pages_in (get_or ts' h t)) q ≡ page_at (pages_in (get_or mid h t)) q
    same t h q other e = subst (λ (n : ℕ). page_at (pages_in (get_or ts' n t)) q ≡ page_at (pages_in (get_or mid n t)) q) (sym e) (others t q other)

-- ---- the victim

pub stat_at : (ts : List TenantIs) (stats : List Stat) (g : ℕ) (d : TenantIs) (e : Stat) → stats ≡ map stat_of ts → g < length ts → get_or stats g e ≡ stat_of (get_or ts g d)
stat_at ts stats g d e is inside = ap (λ (l : List Stat). get_or l g e) is ∙ map_at stat_of ts g d e inside

-- no number is free where as many of each are as of an empty list
pub none_free : (old new : FreeList) → old.free ≡ [] → SameNumbers old new → new.free ≡ []
none_free old new none same = by new.free (λ k. same.numbers k ∙ ap (count_of k) none)
  where
    by : (xs : List ℕ) → ((k : ℕ) → count_of k xs ≡ 0) → xs ≡ []
    by [] zeros = refl
    by (x ∷ xs) zeros = absurd (omega (arith, zeros x, count_cons x x xs, one_same x))

-- the victim has more pages than its minimum
pub least_at : (tax : ℕ) (ts : List TenantIs) (stats : List Stat) (g : ℕ) (t : TenantIs) → stats ≡ map stat_of ts → g < length ts → t ≡ get_or ts g t → IsLeast tax stats g → IsEligible (stat_of t)
least_at tax ts stats g t is inside at least =
    subst IsEligible (sym (get_or_from_slice_get stats g least.guest least.guest least.there) ∙ stat_at ts stats g t least.guest is inside ∙ ap stat_of (sym at)) least.eligible

-- ---- the page that is needed

pub still_inside : (ts ts' : List TenantIs) (g : ℕ) → g < length ts → OnlyPagesMove ts ts' → g < length ts'
still_inside ts ts' g inside m = omega (arith, inside, same_count ts ts' m)

pub some_none : (needed : ℕ × Why) → Some needed ≡ None → ⊥
some_none needed e = cc

pub first_of : (needed : ℕ × Why) (p : ℕ) (why : Why) → Some needed ≡ Some (p, why) → needed.0 ≡ p
first_of needed p why e = ap (λ (n : ℕ × Why). n.0) (same_Some needed (p, why) e)

-- ---- logs of guests of which only pages have moved

module _ {Y : Type 0} (beside : TenantIs → TenantIs) (f : TenantIs → Y) (same : (t : TenantIs) → f (beside t) ≡ f t) where
  beside_map : (ts : List TenantIs) → map f (map beside ts) ≡ map f ts
  beside_map [] = refl
  beside_map (t ∷ ts) = λ i. same t i ∷ beside_map ts i

  -- what doesn't look at what has changed is as before
  pub same_beside : (ts ts' : List TenantIs) → map beside ts' ≡ map beside ts → map f ts' ≡ map f ts
  same_beside ts ts' is = sym (beside_map ts') ∙ ap (map f) is ∙ beside_map ts

pub stays_beside : {Y : Type 0} (f : TenantIs → Y) → ((t : TenantIs) → f (beside_pages t) ≡ f t) → (ts ts' : List TenantIs) → OnlyPagesMove ts ts' → map f ts' ≡ map f ts
stays_beside f same ts ts' m = same_beside beside_pages f same ts ts' m.beside

pub fault_logs : {ts ts' : List TenantIs} → OnlyPagesMove ts ts' → (h : ℕ) → log_at ts' h ≡ log_at ts h ++ []
fault_logs {ts} {ts'} m h = ap (λ (logs : List (List Item)). get_or logs h []) (stays_beside items_of (λ t. refl) ts ts' m) ∙ sym (append-nil (log_at ts h))

pub moved_logs : {g : ℕ} {ts ts' : List TenantIs} → Changes PagesMove g ts ts' → g < length ts → (h : ℕ) → log_at ts' h ≡ log_at ts h ++ []
moved_logs {g} {ts} {ts'} c inside = fault_logs (only_pages g ts ts' inside c)
