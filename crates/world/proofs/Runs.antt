-- Steps of a guest, one after another.
use Rattle.std.proofs.Common.{ℕ, suc, ◌≡◌, ◌+◌, ◌<◌, if◌then◌else◌, ◌==◌, List, [], ◌∷◌, ◌++◌, length, get_or, map, replicate, refl, sym, ap, subst, ◌∙◌, arith, append_assoc, ◌≢◌, Option, Some, None, Result, Ok, Err, OnErr}
use Rattle.std.specs.List.{Contains}
use Rattle.std.proofs.lemmas.List.{append-nil, length-map, replicate-append-replicate, set-get_or}
use Rattle.world.specs.All.{Changes, End, IsFull, IsSupplied, Item, Machine, NothingHappens, OnlyPagesMove, Page, PageKind, GuestBusIs, Private, Stays, TenantIs, Why, accesses, beside_pages, boot_of, first_lack, kind_at, lack_of, lacks_in, log_at, pages_in, run, step_by, steps_for, view_of}
use Rattle.machine.specs.Accesses.{Access}
use Rattle.mips_tlb.specs.declared.kind.Kind.{Kind}
use Rattle.world.specs.declared.running.End.TheVariants as end
use Rattle.world.specs.declared.running.RunStop.TheVariants as stop
use Rattle.world.proofs.Worlds.{same_logs, same_boots, changes_then, chosen_join, none_chosen}
use Rattle.world.proofs.Victims.{map_at, still_inside, first_of, stays_beside, fault_logs}

-- ---- so many steps

pub steps_join : (h g m n : ℕ) (old now after : List Item) → now ≡ old ++ steps_for h g m → after ≡ now ++ steps_for h g n → after ≡ old ++ steps_for h g (m + n)
steps_join h g m n old now after so_far more =
    more ∙ ap (λ (xs : List Item). xs ++ steps_for h g n) so_far ∙ append_assoc old (steps_for h g m) (steps_for h g n)
    ∙ ap (λ (xs : List Item). old ++ xs) (sym (chosen_join (h == g) (replicate m (step_by 0)) (replicate n (step_by 0))) ∙ ap (λ (xs : List Item). if h == g then xs else []) (replicate-append-replicate m n (step_by 0)))

pub steps_none : (h g : ℕ) (old : List Item) → old ≡ old ++ steps_for h g 0
steps_none h g old = sym (append-nil old) ∙ ap (λ (xs : List Item). old ++ xs) (sym (none_chosen (h == g) []))

-- ---- the guest is still there, and needs what it needed

pub still_there : (g : ℕ) (ts ts' : List TenantIs) → g < length ts → map boot_of ts' ≡ map boot_of ts → g < length ts'
still_there g ts ts' inside boots = omega (arith, inside, ap length boots, length-map ts boot_of, length-map ts' boot_of)

pub stays_there : {g : ℕ} {ts ts' : List TenantIs} → Changes Stays g ts ts' → g < length ts → g < length ts'
stays_there {g} {ts} {ts'} c inside = still_there g ts ts' inside (same_boots c inside)

pub fault_stays : {ts ts' : List TenantIs} → OnlyPagesMove ts ts' → (h : ℕ) → log_at ts' h ≡ log_at ts h
fault_stays {ts} m h = fault_logs m h ∙ append-nil (log_at ts h)

same_view : (t t' : TenantIs) → NothingHappens t t' → Stays t t' → view_of t'.guest ≡ view_of t.guest
same_view t t' n s = ap (λ (items : List Item). run items t'.guest.boot) n.items ∙ ap (run t.guest.log.items) s.boot

-- ---- steps that are not made

stays_same : (t : TenantIs) → Stays t t
stays_same t = record { boot = refl; limit = refl; shares = refl; minimum = refl; sample = refl; blocked = refl; count = refl }

stays_on : (t u v : TenantIs) → Stays t u → Stays u v → Stays t v
stays_on t u v s r = record {
  boot = r.boot ∙ s.boot;
  limit = r.limit ∙ s.limit;
  shares = r.shares ∙ s.shares;
  minimum = r.minimum ∙ s.minimum;
  sample = r.sample ∙ s.sample;
  blocked = r.blocked ∙ s.blocked;
  count = r.count ∙ s.count;
}

pub stays_none : (g : ℕ) (ts : List TenantIs) → Changes Stays g ts ts
stays_none g ts = record { one = λ t. sym (set-get_or ts g t); so = λ t. stays_same (get_or ts g t) }

pub stays_then : {g : ℕ} {ts mid ts' : List TenantIs} → Changes Stays g ts mid → Changes Stays g mid ts' → Changes Stays g ts ts'
stays_then {g} {ts} {mid} {ts'} before after = changes_then Stays Stays Stays stays_on g ts mid ts' before after

pub not_made_on : {E : Type 0} (r : Result ℕ E) (g : ℕ) (old ts ts' : List TenantIs) (Around : Type 0) → g < length ts
    → ((h : ℕ) → log_at ts h ≡ log_at old h) → OnErr r (Changes NothingHappens g ts ts' × Around) → OnErr r ((h : ℕ) → log_at ts' h ≡ log_at old h)
not_made_on (Ok steps) g old ts ts' Around inside before nothing = tt
not_made_on (Err end) g old ts ts' Around inside before nothing = λ h. same_logs g ts ts' inside nothing.0 h ∙ before h

pub on_err : {T E : Type 0} (r : Result T E) (e : E) (P : Type 0) → r ≡ Err e → OnErr r P → P
on_err (Ok t) e P is so = absurd (cc)
on_err (Err d) e P is so = so

pub need_not_full : (e : End) (p : ℕ) (why : Why) → e ≡ end.Need p why → e ≢ end.Stop stop.LogFull
need_not_full e p why is = λ full. absurd (cc)

-- ---- a page that was supplied

-- a page that the guest's step accesses has a frame of its own
pub record IsReady (t : TenantIs) : Type 0 where
  pub page : ℕ
  pub accessed : Contains (map (λ (a : Access). a.page) (accesses (view_of t.guest))) page
  pub private : kind_at (pages_in t) page ≡ Private

lack_or : Option Why → ℕ → Option (ℕ × Why) → Option (ℕ × Why)
lack_or None page rest = rest
lack_or (Some why) page rest = Some (page, why)

first_of_all : (lacks : ℕ → Kind → Option Why) (a : Access) (xs : List Access) → first_lack lacks (a ∷ xs) ≡ lack_or (lacks a.page a.kind) a.page (first_lack lacks xs)
unfolding lack_or
first_of_all lacks a xs = by (lacks a.page a.kind)
  where
    by : (l : Option Why) → (elim l as (λ _. Option (ℕ × Why)) [ None ↦ first_lack lacks xs | Some why ↦ Some (a.page, why) ]) ≡ lack_or l a.page (first_lack lacks xs)
    by None = refl
    by (Some why) = refl

one_later : (x y : ℕ) (xs : List ℕ) → Contains xs y → Contains (x ∷ xs) y
one_later x y xs c = (suc c.0, omega (arith, c.1), c.2)

accessed_of : (lacks : ℕ → Kind → Option Why) (xs : List Access) (p : ℕ) (why : Why) → first_lack lacks xs ≡ Some (p, why) → Contains (map (λ (a : Access). a.page) xs) p
unfolding lack_or
accessed_of lacks [] p why e = absurd (cc)
accessed_of lacks (a ∷ xs) p why e = by (λ f. accessed_of lacks xs p why f) (lacks a.page a.kind) (sym (first_of_all lacks a xs) ∙ e)
  where
    by : (first_lack lacks xs ≡ Some (p, why) → Contains (map (λ (a : Access). a.page) xs) p) → (l : Option Why) → lack_or l a.page (first_lack lacks xs) ≡ Some (p, why)
        → Contains (map (λ (a : Access). a.page) (a ∷ xs)) p
    by rest None f = one_later a.page p (map (λ (a : Access). a.page) xs) (rest f)
    by rest (Some w) f = (0, omega arith, first_of (a.page, w) p why f)

not_private : (pages : List Page) (xs : List Access) (q p : ℕ) (why : Why) → kind_at pages q ≡ Private → first_lack (lacks_in pages) xs ≡ Some (p, why) → q ≢ p
unfolding lack_or
not_private pages [] q p why here e = λ same. absurd (cc)
not_private pages (a ∷ xs) q p why here e = λ same. by (λ f. not_private pages xs q p why here f same) same (lacks_in pages a.page a.kind) refl (sym (first_of_all (lacks_in pages) a xs) ∙ e)
  where
    by : (first_lack (lacks_in pages) xs ≡ Some (p, why) → ⊥) → q ≡ p → (l : Option Why) → lacks_in pages a.page a.kind ≡ l
        → lack_or l a.page (first_lack (lacks_in pages) xs) ≡ Some (p, why) → ⊥
    by rest same None is f = rest f
    by rest same (Some w) is f =
        let at : a.page ≡ q = first_of (a.page, w) p why f ∙ sym same in
        let none : None ≡ Some w = sym (ap (λ (n : ℕ). lack_of (kind_at pages n) a.kind) at ∙ ap (λ (k : PageKind). lack_of k a.kind) here) ∙ is in
        absurd (cc)

-- what only the pages that move do not touch
pub moved_same : {Y : Type 0} (f : TenantIs → Y) → ((t : TenantIs) → f (beside_pages t) ≡ f t) → (ts ts' : List TenantIs) (g : ℕ) (d : TenantIs) → g < length ts → OnlyPagesMove ts ts'
    → f (get_or ts' g d) ≡ f (get_or ts g d)
moved_same f same ts ts' g d inside m =
    sym (map_at f ts' g d (f d) (still_inside ts ts' g inside m)) ∙ ap (λ (ys : List _). get_or ys g (f d)) (stays_beside f same ts ts' m) ∙ map_at f ts g d (f d) inside

pub moved_room : (ts ts' : List TenantIs) (g : ℕ) (d : TenantIs) → g < length ts → OnlyPagesMove ts ts' → IsFull (get_or ts' g d).guest.log → IsFull (get_or ts g d).guest.log
moved_room ts ts' g d inside m full = subst IsFull (moved_same (λ t. t.guest.log) (λ t. refl) ts ts' g d inside m) full

-- what a guest's step needed it accesses still
pub still_accessed : (ts ts' : List TenantIs) (g : ℕ) (p : ℕ) (why : Why) (d : TenantIs) → g < length ts → OnlyPagesMove ts ts'
    → first_lack (lacks_in (pages_in (get_or ts g d))) (accesses (view_of (get_or ts g d).guest)) ≡ Some (p, why)
    → Contains (map (λ (a : Access). a.page) (accesses (view_of (get_or ts' g d).guest))) p
still_accessed ts ts' g p why d inside m need =
    subst (λ (v : Machine). Contains (map (λ (a : Access). a.page) (accesses v)) p) (sym (moved_same (λ t. view_of t.guest) (λ t. refl) ts ts' g d inside m))
    (accessed_of (lacks_in (pages_in (get_or ts g d))) (accesses (view_of (get_or ts g d).guest)) p why need)

-- after a fault
pub fault_ready : (ts ts' : List TenantIs) (g : ℕ) (p : ℕ) (why : Why) (d : TenantIs) → g < length ts → OnlyPagesMove ts ts'
    → first_lack (lacks_in (pages_in (get_or ts g d))) (accesses (view_of (get_or ts g d).guest)) ≡ Some (p, why)
    → kind_at (pages_in (get_or ts' g d)) p ≡ Private → IsReady (get_or ts' g d)
fault_ready ts ts' g p why d inside m need private = record { page = p; accessed = still_accessed ts ts' g p why d inside m need; private = private }

pub ready_stays : (g : ℕ) (ts ts' : List TenantIs) (d : TenantIs) → Changes NothingHappens g ts ts' → Changes Stays g ts ts' → IsReady (get_or ts g d) → IsReady (get_or ts' g d)
ready_stays g ts ts' d n s r =
    let t = get_or ts g d in
    let t' = get_or ts' g d in
    record {
      page = r.page;
      accessed = subst (λ (v : Machine). Contains (map (λ (a : Access). a.page) (accesses v)) r.page) (sym (same_view t t' (n.so d) (s.so d))) r.accessed;
      private = ap (λ (b : GuestBusIs). kind_at b.pages r.page) (n.so d).bus ∙ r.private;
    }

pub ready_supplied : (t : TenantIs) (p : ℕ) (why : Why) → first_lack (lacks_in (pages_in t)) (accesses (view_of t.guest)) ≡ Some (p, why) → IsReady t → IsSupplied p t
ready_supplied t p why need r = record {
  page = r.page;
  accessed = r.accessed;
  private = r.private;
  other = not_private (pages_in t) (accesses (view_of t.guest)) r.page p why r.private need;
}
