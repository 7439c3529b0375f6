-- One guest of a world changes, and the rest is as before.
use Rattle.std.proofs.Common.{ℕ, zero, suc, ◌≡◌, ◌≢◌, ◌<◌, ◌≤◌, inl, inr, Bool, true, false, if◌then◌else◌, ◌==◌, eq-eqb, eqb-true, ne_eqb, List, [], ◌∷◌, ◌++◌, length, set, get_or, map, replicate, Option, None, refl, sym, ap, subst, ◌∙◌, arith, length-set, append_assoc, Result, Ok, Err, IfErr, IfOk, OnOk, OnErr}
use Rattle.std.proofs.lemmas.Bool.{cases_eq, cases_lt}
use Rattle.std.proofs.lemmas.List.{get_or-set_same, get_or-set_other, get_or_past, map-set, length-map, append-nil, set-get_or}
use Rattle.std.proofs.lemmas.List.Elements.{All-get_or, All-from_get_or}
use Rattle.world.specs.All.{Adds, AddsSteps, AllHappen, Answer, AroundStays, Books, Changes, Conserves, EntriesAre, Event, FreeList, GuestIs, Happens, IsKept, Item, Lent, NothingHappens, OnlyBooksChange, Page, Reads, Refused, Reply, SameAround, SharesAre, Sound, Stays, StepOut, StoreFacts, Stream, SupplyError, TenantIs, UsedStay, WhyAway, WorldIs, beside_pages, boot_of, count_of, input_items, item_for, items_of, log_at, need_of, outline, own, own_items, pages_in, pages_of, slots_held, step_by, step_items, steps_for}
use Rattle.items.specs.Entries.{steps_of}
use Rattle.guest_log.specs.declared.stop.Stop.{Stop}
use Rattle.machine.specs.declared.access.StepOut.TheVariants as out
use Rattle.page_moves.specs.declared.supply.SupplyError.TheVariants.{SwapDamaged}
use Rattle.page_moves.proofs.Booking.{books_after, reads_each}
use Rattle.tenant.proofs.Lending.{lent as books_lend}
use Rattle.tenant.proofs.Giving.{outline_conserves, outline_reads}
use Rattle.tenant.proofs.Keeping.{used_kept}
use Rattle.booting.proofs.Stores.{store_same, store_then}
use Rattle.world.proofs.Victims.{some_tenant, changed}

-- ---- one guest

-- inside a list it doesn't matter what stands for nothing
pub any_default : {X : Type 0} (xs : List X) (k : ℕ) (a b : X) → k < length xs → get_or xs k a ≡ get_or xs k b
any_default [] k a b inside = absurd (omega (arith, inside))
any_default (x ∷ xs) zero a b inside = refl
any_default (x ∷ xs) (suc k) a b inside = any_default xs k a b (omega (arith, inside))

pub pages_at : (ts : List TenantIs) (g : ℕ) (d : TenantIs) → g < length ts → pages_of (map pages_in ts) g ≡ pages_in (get_or ts g d)
pages_at [] g d inside = absurd (omega (arith, inside))
pages_at (t ∷ ts) zero d inside = refl
pages_at (t ∷ ts) (suc g) d inside = pages_at ts g d (omega (arith, inside))

inside_map : (ts : List TenantIs) (g : ℕ) → g < length ts → g < length (map pages_in ts)
inside_map ts g inside = omega (arith, inside, length-map ts pages_in)

-- what exact books say of a guest's pages
pub lent : (frames slots : ℕ) (ts : List TenantIs) (g : ℕ) (d : TenantIs) (pool book : FreeList) (es : EntriesAre) → g < length ts → Books frames slots (map pages_in ts) es pool book
    → Lent slots (pages_in (get_or ts g d)) pool book es
lent frames slots ts g d pool book es inside b =
    subst (λ (ps : List Page). Lent slots ps pool book es) (pages_at ts g d inside)
    (books_lend frames slots (map pages_in ts) es pool book g b (inside_map ts g inside))

-- a slot that a guest has is not free
not_free : (frames slots : ℕ) (ts : List TenantIs) (g : ℕ) (d : TenantIs) (pool book : FreeList) (es : EntriesAre) (slot : ℕ) → g < length ts → Books frames slots (map pages_in ts) es pool book
    → 0 < slots_held slot (pages_in (get_or ts g d)) → count_of slot book.free ≡ 0
not_free frames slots ts g d pool book es slot inside b some =
    elim (cases_lt 0 (count_of slot book.free)) [
      | inl free ↦ absurd (omega (arith, some, (lent frames slots ts g d pool book es inside b).slot_apart slot free))
      | inr none ↦ omega (arith, none)
    ]

-- What a call for one guest leaves, where that guest's part of the books is still exact and it is still its run.
pub sound_after : {frames slots : ℕ} {trusted : Type 0} {held : ℕ → Option (List ℕ)} {ts : List TenantIs} {pool book : FreeList} {es : EntriesAre} → Sound frames slots trusted held ts pool book es
    → (g : ℕ) (t t' : TenantIs) (slots' : ℕ) (trusted' : Type 0) (held' : ℕ → Option (List ℕ)) (pool' book' : FreeList) (es' : EntriesAre) → g < length ts → t ≡ get_or ts g t → slots' ≡ slots
    → Conserves (pages_in t) pool book es (pages_in t') pool' book' es' → (Reads es (pages_in t) → Reads es' (pages_in t'))
    → (trusted' → trusted) → (trusted → IsKept held t → IsKept held' t') → (trusted → UsedStay book held held') → Sound frames slots' trusted' held' (set ts g t') pool' book' es'
sound_after {frames} {slots} {trusted} {held} {ts} {pool} {book} {es} s g t t' slots' trusted' held' pool' book' es' inside is same_slots conserves reads trust kept used =
    let all = map pages_in ts in
    let there = inside_map ts g inside in
    let same : pages_of all g ≡ pages_in t = pages_at ts g t inside ∙ ap pages_in (sym is) in
    record {
      books = subst (λ (n : ℕ). Books frames n (map pages_in (set ts g t')) es' pool' book') (sym same_slots)
          (subst (λ (l : List (List Page)). Books frames slots l es' pool' book') (sym (map-set pages_in ts g t'))
          (books_after frames slots all g (pages_in t') es es' pool pool' book book' there (subst (λ (ps : List Page). Conserves ps pool book es (pages_in t') pool' book' es') (sym same) conserves)
          (reads (subst (Reads es) same (reads_each frames slots all es pool book g s.books there))) s.books));
      kept = λ trust'. All-from_get_or (IsKept held') (set ts g t') t (λ j h. each (trust trust') j (omega (arith, h, length-set ts g t')));
    }
  where
    each : trusted → (j : ℕ) → j < length ts → IsKept held' (get_or (set ts g t') j t)
    each now j h =
        elim (cases_eq j g) [
          | inl e ↦
              subst (IsKept held') (sym (ap (λ (n : ℕ). get_or (set ts g t') n t) e ∙ get_or-set_same ts g t' t inside))
              (kept now (subst (IsKept held) (sym is) (All-get_or (IsKept held) ts g t inside (s.kept now))))
          | inr apart ↦
              subst (IsKept held') (sym (get_or-set_other ts g j t' t apart))
              (used_kept book held held' (get_or ts j t) (used now) (λ slot some. not_free frames slots ts j t pool book es slot h s.books some) (All-get_or (IsKept held) ts j t h (s.kept now)))
        ]

-- ---- what becomes of the guests

pub changes : (how : TenantIs → TenantIs → Type 0) (g : ℕ) (ts : List TenantIs) (t t' : TenantIs) → g < length ts → t ≡ get_or ts g t → how t t' → Changes how g ts (set ts g t')
changes how g ts t t' inside is so = record {
  one = λ d. ap (set ts g) (sym (get_or-set_same ts g t' d inside));
  so = λ d. subst (λ (u : TenantIs). how u (get_or (set ts g t') g d)) (is ∙ any_default ts g t d inside)
      (subst (how t) (sym (get_or-set_same ts g t' d inside)) so);
}

pub its_log : (ts : List TenantIs) (g : ℕ) (d : TenantIs) → g < length ts → log_at ts g ≡ items_of (get_or ts g d)
its_log [] g d inside = absurd (omega (arith, inside))
its_log (t ∷ ts) zero d inside = refl
its_log (t ∷ ts) (suc g) d inside = its_log ts g d (omega (arith, inside))

-- a choice by whether numbers are equal
chosen : {X : Type 0} (h g : ℕ) (a b : X) → h ≡ g → (if h == g then a else b) ≡ a
chosen h g a b e = ap (λ (t : Bool). if t then a else b) (eq-eqb h g e)

unchosen : {X : Type 0} (h g : ℕ) (a b : X) → h ≢ g → (if h == g then a else b) ≡ b
unchosen h g a b apart = ap (λ (t : Bool). if t then a else b) (ne_eqb h g apart)

pub log_past : (ts : List TenantIs) (h : ℕ) → length ts ≤ h → log_at ts h ≡ []
log_past ts h past = get_or_past (map items_of ts) h [] (omega (arith, past, length-map ts items_of))

-- a guest that becomes one, and then another
set_twice : (ts : List TenantIs) (g : ℕ) (t t' : TenantIs) → set (set ts g t) g t' ≡ set ts g t'
set_twice [] g t t' = refl
set_twice (u ∷ ts) zero t t' = refl
set_twice (u ∷ ts) (suc g) t t' = ap (λ (l : List TenantIs). u ∷ l) (set_twice ts g t t')

-- one of the guests becomes another, and then another
pub changes_then : (how how' how'' : TenantIs → TenantIs → Type 0) → ((t u v : TenantIs) → how t u → how' u v → how'' t v) → (g : ℕ) (ts mid ts' : List TenantIs)
    → Changes how g ts mid → Changes how' g mid ts' → Changes how'' g ts ts'
changes_then how how' how'' on g ts mid ts' before after = record {
  one = λ t. after.one t ∙ ap (λ (l : List TenantIs). set l g (get_or ts' g t)) (before.one t) ∙ set_twice ts g (get_or mid g t) (get_or ts' g t);
  so = λ t. on (get_or ts g t) (get_or mid g t) (get_or ts' g t) (before.so t) (after.so t);
}

-- the log of each guest, where that of one guest has become another
log_set : (ts : List TenantIs) (g h : ℕ) (t' d : TenantIs) → g < length ts → log_at (set ts g t') h ≡ (if h == g then items_of t' else log_at ts h)
log_set ts g h t' d inside =
    elim (cases_eq h g) [
      | inl e ↦
          ap (log_at (set ts g t')) e ∙ its_log (set ts g t') g d (omega (arith, inside, length-set ts g t')) ∙ ap items_of (get_or-set_same ts g t' d inside)
          ∙ sym (chosen h g (items_of t') (log_at ts h) e)
      | inr apart ↦ elim (cases_lt h (length ts)) [
        | inl there ↦
            its_log (set ts g t') h d (omega (arith, there, length-set ts g t')) ∙ ap items_of (get_or-set_other ts g h t' d apart) ∙ sym (its_log ts h d there)
            ∙ sym (unchosen h g (items_of t') (log_at ts h) apart)
        | inr past ↦
            log_past (set ts g t') h (omega (arith, past, length-set ts g t')) ∙ sym (log_past ts h past) ∙ sym (unchosen h g (items_of t') (log_at ts h) apart)
      ]
    ]

more_log : (b : Bool) (before own more : List Item) → (b ≡ true → before ≡ own) → (if b then own ++ more else before) ≡ before ++ (if b then more else [])
more_log true before own more is = ap (λ (xs : List Item). xs ++ more) (sym (is refl))
more_log false before own more is = sym (append-nil before)

-- one guest's log has these items more
log_more : (how : TenantIs → TenantIs → Type 0) (more : List Item) (g : ℕ) (ts ts' : List TenantIs) (d : TenantIs) → g < length ts → Changes how g ts ts'
    → ((t t' : TenantIs) → how t t' → items_of t' ≡ items_of t ++ more) → (h : ℕ) → log_at ts' h ≡ log_at ts h ++ (if h == g then more else [])
log_more how more g ts ts' d inside c adds h =
    ap (λ (l : List TenantIs). log_at l h) (c.one d)
    ∙ log_set ts g h (get_or ts' g d) d inside
    ∙ ap (λ (xs : List Item). if h == g then xs else log_at ts h) (adds (get_or ts g d) (get_or ts' g d) (c.so d))
    ∙ more_log (h == g) (log_at ts h) (items_of (get_or ts g d)) more (λ e. ap (log_at ts) (eqb-true h g e) ∙ its_log ts g d inside)

log_adds : (g : ℕ) (ts ts' : List TenantIs) (item : Item) (d : TenantIs) → g < length ts → Changes (λ t t'. Adds t item t') g ts ts' → (h : ℕ) → log_at ts' h ≡ log_at ts h ++ item_for h g item
log_adds g ts ts' item d inside c h = log_more (λ t t'. Adds t item t') (item ∷ []) g ts ts' d inside c (λ t t' adds. adds) h

pub chosen_join : (b : Bool) (xs ys : List Item) → (if b then (xs ++ ys) else []) ≡ (if b then xs else []) ++ (if b then ys else [])
chosen_join true xs ys = refl
chosen_join false xs ys = refl

pub none_chosen : (b : Bool) (nothing : List Item) → (if b then nothing else nothing) ≡ nothing
none_chosen true nothing = refl
none_chosen false nothing = refl

log_stays : (how : TenantIs → TenantIs → Type 0) (g : ℕ) (ts ts' : List TenantIs) (d : TenantIs) → g < length ts → Changes how g ts ts'
    → ((t t' : TenantIs) → how t t' → items_of t' ≡ items_of t) → (h : ℕ) → log_at ts' h ≡ log_at ts h ++ []
log_stays how g ts ts' d inside c same h =
    log_more how [] g ts ts' d inside c (λ t t' s. same t t' s ∙ sym (append-nil (items_of t))) h ∙ ap (λ (xs : List Item). log_at ts h ++ xs) (none_chosen (h == g) [])

-- ---- one guest of a world, by what is seen of the world

pub tenants_of : {Store : Type 0} {w w' : WorldIs Store} → w ≡ w' → w.tenants ≡ w'.tenants
tenants_of {Store} e = ap (λ (x : WorldIs Store). x.tenants) e

pub guest_inside : {Store : Type 0} {w w' : WorldIs Store} {g : ℕ} → w ≡ w' → g < length w'.tenants → g < length w.tenants
guest_inside {Store} e inside = omega (arith, inside, ap (λ (x : WorldIs Store). length x.tenants) e)

pub guest_at : {Store : Type 0} {w w' : WorldIs Store} {g : ℕ} {t : TenantIs} → w ≡ w' → g < length w'.tenants → t ≡ get_or w.tenants g t → (d : TenantIs) → t ≡ get_or w'.tenants g d
guest_at {Store} {w} {w'} {g} {t} e inside is d = is ∙ any_default w.tenants g t d (guest_inside e inside) ∙ ap (λ (x : WorldIs Store). get_or x.tenants g d) e

pub lent_of : {frames slots : ℕ} {trusted : Type 0} {held : ℕ → Option (List ℕ)} {ts : List TenantIs} {pool book : FreeList} {es : EntriesAre} {g : ℕ} {t : TenantIs}
    → Sound frames slots trusted held ts pool book es → g < length ts → t ≡ get_or ts g t → Lent slots (pages_in t) pool book es
lent_of {frames} {slots} {trusted} {held} {ts} {pool} {book} {es} {g} {t} s inside is =
    subst (λ (u : TenantIs). Lent slots (pages_in u) pool book es) (sym is) (lent frames slots ts g t pool book es inside s.books)

pub kept_of : {frames slots : ℕ} {trusted : Type 0} {held : ℕ → Option (List ℕ)} {ts : List TenantIs} {pool book : FreeList} {es : EntriesAre} {g : ℕ} {t : TenantIs}
    → Sound frames slots trusted held ts pool book es → g < length ts → t ≡ get_or ts g t → trusted → IsKept held t
kept_of {held = held} {ts = ts} {g = g} {t = t} s inside is trust = subst (IsKept held) (sym is) (All-get_or (IsKept held) ts g t inside (s.kept trust))

-- of a guest that a call hands out
pub guest_of : {x : GuestIs} {t : TenantIs} (ts : List TenantIs) (g : ℕ) → x ≡ t.guest → ((d : TenantIs) → t ≡ get_or ts g d) → (d : TenantIs) → x ≡ (get_or ts g d).guest
guest_of ts g is at d = is ∙ ap (λ (u : TenantIs). u.guest) (at d)

pub kept_at : {frames slots : ℕ} {trusted : Type 0} {held : ℕ → Option (List ℕ)} {ts : List TenantIs} {pool book : FreeList} {es : EntriesAre} {g : ℕ} {t : TenantIs}
    → Sound frames slots trusted held ts pool book es → g < length ts → ((d : TenantIs) → t ≡ get_or ts g d) → trusted → (d : TenantIs) → IsKept held (get_or ts g d)
kept_at {held = held} {t = t} s inside at trust d = subst (IsKept held) (at d) (kept_of s inside (at t) trust)

-- a guest neither whose pages nor else anything has changed is the same
with_pages_of : List Page → TenantIs → TenantIs
with_pages_of pages t = record t { guest = record t.guest { bus = record t.guest.bus { pages = pages } } }

pub same_guests : {Store : Type 0} {w w' : WorldIs Store} {g : ℕ} {t : TenantIs} (t' : TenantIs) → w ≡ w' → g < length w'.tenants → t ≡ get_or w.tenants g t
    → beside_pages t' ≡ beside_pages t → pages_in t' ≡ pages_in t → set w.tenants g t' ≡ w'.tenants
unfolding with_pages_of
same_guests {w = w} {g = g} {t = t} t' e inside is beside pages =
    let same : t' ≡ t = λ i. with_pages_of (pages i) (beside i) in
    ap (set w.tenants g) (same ∙ is) ∙ set-get_or w.tenants g t ∙ tenants_of e

-- ---- a page that isn't supplied

pub why_away : {T : Type 0} (r : Result T SupplyError) (pool : FreeList) (failed damaged wanted : Type 0) → (r ≡ Err SwapDamaged → damaged → wanted)
    → IfErr r (WhyAway pool failed damaged) → IfErr r (WhyAway pool failed wanted)
why_away (Ok x) pool failed damaged wanted why w = tt
why_away (Err SwapDamaged) pool failed damaged wanted why w = (w.0, why refl w.1)
why_away (Err e) pool failed damaged wanted why w = w

pub get_last : {X : Type 0} (xs : List X) (a d : X) → get_or (xs ++ a ∷ []) (length xs) d ≡ a
get_last [] a d = refl
get_last (x ∷ xs) a d = get_last xs a d

-- an item that is no step leaves where pages are
pub input_sound : {frames slots : ℕ} {trusted : Type 0} {held : ℕ → Option (List ℕ)} {ts : List TenantIs} {pool book : FreeList} {es : EntriesAre} → Sound frames slots trusted held ts pool book es
    → (g : ℕ) (t t' : TenantIs) → g < length ts → t ≡ get_or ts g t → outline (pages_in t') ≡ outline (pages_in t) → (IsKept held t → IsKept held t')
    → Sound frames slots trusted held (set ts g t') pool book es
input_sound {pool = pool} {book = book} {es = es} s g t t' inside is same kept =
    sound_after s g t t' _ _ _ pool book es inside is refl (outline_conserves (pages_in t) (pages_in t') same pool book es) (outline_reads (pages_in t) (pages_in t') same es)
    (λ trust. trust) (λ trust k. kept k) (λ trust slot none. refl)

-- ---- what events add to logs

pub step_logs : (Around : Type 0) (g : ℕ) (ts ts' : List TenantIs) (r : Result StepOut Stop) → g < length ts
    → IfOk r (λ s. need_of s ≡ None → Changes (λ t t'. Adds t (step_by 0) t') g ts ts') → IfOk r (λ s. need_of s ≢ None → Changes NothingHappens g ts ts' × Around)
    → OnErr r (Changes NothingHappens g ts ts' × Around) → (h : ℕ) → log_at ts' h ≡ log_at ts h ++ step_items h g r
step_logs Around g ts ts' (Ok out.Done) inside adds needs err h = log_adds g ts ts' (step_by 0) (some_tenant ts g inside) inside (adds refl) h
step_logs Around g ts ts' (Ok (out.Need page why)) inside adds needs err h =
    log_stays NothingHappens g ts ts' (some_tenant ts g inside) inside (needs (λ e. absurd (cc))).0 (λ t t' n. n.items) h
step_logs Around g ts ts' (Err stop) inside adds needs err h = log_stays NothingHappens g ts ts' (some_tenant ts g inside) inside err.0 (λ t t' n. n.items) h

pub steps_logs : (g : ℕ) (ts ts' : List TenantIs) (count : ℕ) → g < length ts → Changes (λ t t'. AddsSteps t count t') g ts ts' → (h : ℕ) → log_at ts' h ≡ log_at ts h ++ steps_for h g count
unfolding steps_of
steps_logs g ts ts' count inside c = log_more (λ t t'. AddsSteps t count t') (replicate count (step_by 0)) g ts ts' (some_tenant ts g inside) inside c (λ t t' adds. adds)

pub same_logs : (g : ℕ) (ts ts' : List TenantIs) → g < length ts → Changes NothingHappens g ts ts' → (h : ℕ) → log_at ts' h ≡ log_at ts h
same_logs g ts ts' inside c h =
    log_stays NothingHappens g ts ts' (some_tenant ts g inside) inside c (λ t t' n. n.items) h ∙ append-nil (log_at ts h)

pub input_logs : (g : ℕ) (ts ts' : List TenantIs) (item : Item) (r : Result Reply Refused) → g < length ts
    → OnOk r (Changes (λ t t'. Adds t item t') g ts ts') → OnErr r (Changes NothingHappens g ts ts') → (h : ℕ) → log_at ts' h ≡ log_at ts h ++ input_items h g item r
input_logs g ts ts' item (Ok reply) inside adds err h = log_adds g ts ts' item (some_tenant ts g inside) inside adds h
input_logs g ts ts' item (Err refused) inside adds err h = log_stays NothingHappens g ts ts' (some_tenant ts g inside) inside err (λ t t' n. n.items) h

pub same_boots : {g : ℕ} {ts ts' : List TenantIs} → Changes Stays g ts ts' → g < length ts → map boot_of ts' ≡ map boot_of ts
same_boots c inside = changed boot_of c inside (λ t t' s. s.boot)

-- ---- what lies around the guests

pub around_then : {Store : Type 0} {facts : StoreFacts Store} {w mid w' : WorldIs Store}
    → AroundStays facts w mid → AroundStays facts mid w' → AroundStays facts w w'
around_then a b = record { hints = b.hints ∙ a.hints; frames = b.frames ∙ a.frames; level = b.level ∙ a.level; store = store_then a.store b.store }

pub around_same : {Store : Type 0} {facts : StoreFacts Store} {w : WorldIs Store} → AroundStays facts w w
around_same = record { hints = refl; frames = refl; level = refl; store = store_same refl }

-- only the books have changed
pub around_books : {Store : Type 0} {facts : StoreFacts Store} {w w' : WorldIs Store} → OnlyBooksChange w w' → AroundStays facts w w'
around_books o = record { hints = o.hints; frames = o.frames; level = o.level; store = store_same o.store }

pub books_then : {Store : Type 0} {w mid w' : WorldIs Store} → OnlyBooksChange w mid → OnlyBooksChange mid w' → OnlyBooksChange w w'
books_then a b = record { hints = b.hints ∙ a.hints; store = b.store ∙ a.store; frames = b.frames ∙ a.frames; level = b.level ∙ a.level }

-- nothing has changed
pub books_same : {Store : Type 0} {w w' : WorldIs Store} → SameAround w w' → OnlyBooksChange w w'
books_same a = record { hints = ap (λ (x : SharesAre). x.hints) a.shares; store = a.store; frames = a.frames; level = a.level }

pub same_then : {Store : Type 0} {w mid w' : WorldIs Store} → SameAround w mid → SameAround mid w' → SameAround w w'
same_then a b = record {
  pool = b.pool ∙ a.pool;
  slots = b.slots ∙ a.slots;
  shares = b.shares ∙ a.shares;
  store = b.store ∙ a.store;
  frames = b.frames ∙ a.frames;
  level = b.level ∙ a.level;
}

-- ---- events, one after another

pub own_more : (h : ℕ) (es : List Event) (answers : List Answer) (e : Event) (a : Answer) → length es ≡ length answers → own h (es ++ e ∷ []) (answers ++ a ∷ []) ≡ own h es answers ++ own_items h e a
own_more h [] [] e a same = append-nil (own_items h e a)
own_more h [] (b ∷ answers) e a same = absurd (omega (arith, same))
own_more h (d ∷ es) [] e a same = absurd (omega (arith, same))
own_more h (d ∷ es) (b ∷ answers) e a same =
    ap (λ (xs : List Item). own_items h d b ++ xs) (own_more h es answers e a (omega (arith, same))) ∙ sym (append_assoc (own_items h d b) (own h es answers) (own_items h e a))

pub logs_more : (h : ℕ) (es : List Event) (answers : List Answer) (e : Event) (a : Answer) (old now after : List Item) → length es ≡ length answers → now ≡ old ++ own h es answers
    → after ≡ now ++ own_items h e a → after ≡ old ++ own h (es ++ e ∷ []) (answers ++ a ∷ [])
logs_more h es answers e a old now after same so_far more =
    more ∙ ap (λ (xs : List Item). xs ++ own_items h e a) so_far ∙ append_assoc old (own h es answers) (own_items h e a)
    ∙ ap (λ (xs : List Item). old ++ xs) (sym (own_more h es answers e a same))

pub all_more : {Kept : Type 0} (facts : StoreFacts Kept) (tax : ℕ) (words left rest : Stream) (w mid w' : WorldIs Kept) (es : List Event) (answers : List Answer) (e : Event) (a : Answer)
    → AllHappen facts tax words w es answers left mid → Happens facts tax left mid e a rest w' → AllHappen facts tax words w (es ++ e ∷ []) (answers ++ a ∷ []) rest w'
all_more {Kept} facts tax words left rest w mid w' [] [] e a same one = (
  rest,
  w',
  subst (λ (v : WorldIs Kept). Happens facts tax words v e a rest w') same.1
      (subst (λ (s : Stream). Happens facts tax s mid e a rest w') same.0 one),
  (refl, refl),
)
all_more facts tax words left rest w mid w' [] (b ∷ answers) e a before one = absurd before
all_more facts tax words left rest w mid w' (d ∷ es) [] e a before one = absurd before
all_more facts tax words left rest w mid w' (d ∷ es) (b ∷ answers) e a before one =
    (before.0, before.1, before.2, all_more facts tax before.0 left rest before.1 mid w' es answers e a before.3 one)
