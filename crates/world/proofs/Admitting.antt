-- Guests that are admitted by their minimums.
use Rattle.std.proofs.Common.{ℕ, suc, ◌≡◌, ◌+◌, ◌-◌, ◌<◌, ◌≤◌, inl, inr, List, [], ◌∷◌, All, false, Option, Some, None, Result, Ok, Err, IfOk, IfErr, OnErr, length, drop, get_or, map, sum_by, refl, sym, ap, subst, ◌∙◌, arith}
use Rattle.std.proofs.lemmas.List.Sums.{sum_by-cons}
use Rattle.std.proofs.lemmas.List.Elements.{All-head, All-tail}
use Rattle.frames.specs.Frames.{SharedIs}
use Rattle.world.specs.All.{Action, Aim, AllFit, Answer, AreTurned, Changes, DebugError, End, EntriesAre, Event, FailsOnce, FaultError, FindsRoom, Fits, FreeList, GuestsStay, IfStop, IfStopped, IsAccessWithRoom, IsAdmitted, IsAnswered, IsEligible, IsEndWithRoom, IsForRoom, IsNoRoom, IsNoRoomIn, IsSoundWorld, IsTurn, LimitsStay, OnlyPagesMove, OnlySamplesChange, Page, PagesMove, RunStop, Sound, Stays, StoreFacts, TenantIs, Turn, WhyLacking, WhyStopped, WhyUnsupplied, WorldIs, actions_in, all_resident, boot_of, entry_at, entry_count, one_entry, one_private, one_shared, one_swapped, pages_in, private_pages, resident_pages, shared_pages, stat_of, swapped_pages, ticket_count, tickets_of}
use Rattle.guest_pages.specs.declared.page.Page.TheVariants as page
use Rattle.page_moves.proofs.Totals.{frames_add_up, slots_add_up, tickets_add_up}
use Rattle.tenant.specs.declared.turning.Aim.TheVariants as aim
use Rattle.world.specs.declared.events.Answer.TheVariants as answer
use Rattle.world.specs.declared.events.Event.TheVariants as event
use Rattle.world.specs.declared.debugging.DebugError.TheVariants as debug
use Rattle.world.specs.declared.faulting.FaultError.TheVariants as lacking
use Rattle.world.specs.declared.running.End.TheVariants as end
use Rattle.world.specs.declared.running.RunStop.TheVariants as stop
use Rattle.world.proofs.Sampling.{stays, same_map}
use Rattle.world.proofs.Victims.{some_tenant, changed, only_pages, stays_beside}
use Rattle.world.proofs.Totals.{each_at_most, sum_map}
use Rattle.world.proofs.Worlds.{same_boots}

-- ---- boots, limits and blocked guests

pub limits_then : {ts mid ts' : List TenantIs} → LimitsStay ts mid → LimitsStay mid ts' → LimitsStay ts ts'
limits_then a b = record { pages = b.pages ∙ a.pages; shares = b.shares ∙ a.shares; minimums = b.minimums ∙ a.minimums }

pub guests_then : {ts mid ts' : List TenantIs} → GuestsStay ts mid → GuestsStay mid ts' → GuestsStay ts ts'
guests_then a b = record { boots = b.boots ∙ a.boots; limits = limits_then a.limits b.limits; blocked = b.blocked ∙ a.blocked }

pub guests_stay : {g : ℕ} {ts ts' : List TenantIs} → Changes Stays g ts ts' → g < length ts → GuestsStay ts ts'
guests_stay c inside = record {
  boots = same_boots c inside;
  limits = record {
    pages = changed (λ t. length (pages_in t)) c inside (λ t t' s. s.count);
    shares = changed (λ (t : TenantIs). t.shares) c inside (λ t t' s. s.shares);
    minimums = changed (λ (t : TenantIs). t.minimum) c inside (λ t t' s. s.minimum);
  };
  blocked = changed (λ (t : TenantIs). t.blocked) c inside (λ t t' s. s.blocked);
}

pub guests_move : {ts ts' : List TenantIs} → OnlyPagesMove ts ts' → GuestsStay ts ts'
guests_move {ts} {ts'} m = record {
  boots = stays_beside boot_of (λ t. refl) ts ts' m;
  limits = record {
    pages = m.counts;
    shares = stays_beside (λ (t : TenantIs). t.shares) (λ t. refl) ts ts' m;
    minimums = stays_beside (λ (t : TenantIs). t.minimum) (λ t. refl) ts ts' m;
  };
  blocked = stays_beside (λ (t : TenantIs). t.blocked) (λ t. refl) ts ts' m;
}

pub guests_one : {g : ℕ} {ts ts' : List TenantIs} → Changes PagesMove g ts ts' → g < length ts → GuestsStay ts ts'
guests_one {g} {ts} {ts'} c inside = guests_move (only_pages g ts ts' inside c)

pub guests_sampled : {ts ts' : List TenantIs} → OnlySamplesChange ts ts' → GuestsStay ts ts'
guests_sampled {ts} {ts'} s = record {
  boots = stays boot_of (λ t. refl) ts ts' s;
  limits = record {
    pages = stays (λ t. length (pages_in t)) (λ t. refl) ts ts' s;
    shares = stays (λ (t : TenantIs). t.shares) (λ t. refl) ts ts' s;
    minimums = stays (λ (t : TenantIs). t.minimum) (λ t. refl) ts ts' s;
  };
  blocked = stays (λ (t : TenantIs). t.blocked) (λ t. refl) ts ts' s;
}

pub limits_turned : (actions : List Action) (made : List Aim) (ts mid ts' : List TenantIs) → Action → AreTurned actions ts made mid → OnlyPagesMove mid ts' → LimitsStay ts ts'
limits_turned actions made ts mid ts' d turned moves =
    let first : LimitsStay ts mid = record {
      pages = same_map (λ t. length (pages_in t)) ts mid turned.count (λ g t inside. (turned.each g t d aim.Kept inside).stays.count);
      shares = same_map (λ (t : TenantIs). t.shares) ts mid turned.count (λ g t inside. (turned.each g t d aim.Kept inside).stays.shares);
      minimums = same_map (λ (t : TenantIs). t.minimum) ts mid turned.count (λ g t inside. (turned.each g t d aim.Kept inside).stays.minimum);
    } in
    limits_then first (guests_move moves).limits

-- ---- admitted guests stay admitted

same_sum : (f : TenantIs → ℕ) (ts ts' : List TenantIs) → map f ts' ≡ map f ts → sum_by f ts' ≡ sum_by f ts
same_sum f ts ts' same = sym (sum_map f (λ n. n) ts') ∙ ap (sum_by (λ n. n)) same ∙ sum_map f (λ n. n) ts

lengths : (ts : List TenantIs) → length (map (λ (t : TenantIs). t.minimum) ts) ≡ length ts
lengths [] = refl
lengths (t ∷ ts) = ap (λ n. suc n) (lengths ts)

one_more_each : (ts : List TenantIs) → sum_by (λ (t : TenantIs). t.minimum + 1) ts ≡ sum_by (λ (t : TenantIs). t.minimum) ts + length ts
one_more_each [] = refl
one_more_each (t ∷ ts) = omega (arith, sum_by-cons (λ (u : TenantIs). u.minimum + 1) t ts, sum_by-cons (λ (u : TenantIs). u.minimum) t ts, one_more_each ts)

same_others : (ts ts' : List TenantIs) → map (λ t. length (pages_in t)) ts' ≡ map (λ t. length (pages_in t)) ts
    → map (λ (t : TenantIs). t.minimum) ts' ≡ map (λ (t : TenantIs). t.minimum) ts → sum_by (λ t. length (pages_in t) - t.minimum) ts' ≡ sum_by (λ t. length (pages_in t) - t.minimum) ts
same_others [] [] pages least = refl
same_others [] (u ∷ us) pages least = absurd (omega (arith, ap length pages))
same_others (t ∷ ts) [] pages least = absurd (omega (arith, ap length pages))
same_others (t ∷ ts) (u ∷ us) pages least =
    omega (
      arith,
      sum_by-cons (λ (v : TenantIs). length (pages_in v) - v.minimum) t ts,
      sum_by-cons (λ (v : TenantIs). length (pages_in v) - v.minimum) u us,
      ap (λ (ns : List ℕ). get_or ns 0 0) pages,
      ap (λ (ns : List ℕ). get_or ns 0 0) least,
      same_others ts us (ap (drop 1) pages) (ap (drop 1) least),
    )

-- a guest has no more pages than these and those that it always keeps
few_pages : (ts : List TenantIs) → sum_by (λ t. length (pages_in t)) ts ≤ sum_by (λ t. length (pages_in t) - t.minimum) ts + sum_by (λ (t : TenantIs). t.minimum) ts
few_pages ts = each_at_most (λ (t : TenantIs). length (pages_in t)) (λ (t : TenantIs). length (pages_in t) - t.minimum) (λ (t : TenantIs). t.minimum) (λ t. omega arith) ts

pub still_admitted : {frames slots frames' slots' : ℕ} {ts ts' : List TenantIs} → frames' ≡ frames → slots' ≡ slots → LimitsStay ts ts' → IsAdmitted frames slots ts → IsAdmitted frames' slots' ts'
still_admitted {ts = ts} {ts' = ts'} same_frames same_slots s a =
    let count : length ts' ≡ length ts = sym (lengths ts') ∙ ap length s.minimums ∙ lengths ts in
    let least = same_sum (λ (t : TenantIs). t.minimum) ts ts' s.minimums in
    record {
      some = omega (arith, a.some, count);
      frames_for = omega (arith, a.frames_for, one_more_each ts, one_more_each ts', least, count, same_frames);
      slots_for = omega (arith, a.slots_for, same_others ts ts' s.pages s.minimums, same_slots);
    }

-- ---- where no frame is free, somebody may lose a page, and a slot is free

at_most_one : (q : Page) → one_private q + one_shared q + one_swapped q ≤ 1
at_most_one page.Zero = omega arith
at_most_one q = omega arith

pages_held : (ps : List Page) → private_pages ps + shared_pages ps + swapped_pages ps ≤ length ps
pages_held [] = omega arith
pages_held (q ∷ ps) = omega (arith, sum_by-cons one_private q ps, sum_by-cons one_shared q ps, sum_by-cons one_swapped q ps, at_most_one q, pages_held ps)

resident_in_all : (ts : List TenantIs) → sum_by private_pages (map pages_in ts) + sum_by shared_pages (map pages_in ts) ≡ all_resident ts
resident_in_all [] = refl
resident_in_all (t ∷ ts) =
    omega (
      arith,
      sum_by-cons private_pages (pages_in t) (map pages_in ts),
      sum_by-cons shared_pages (pages_in t) (map pages_in ts),
      sum_by-cons (λ u. resident_pages (pages_in u)) t ts,
      resident_in_all ts,
    )

all_held : (ts : List TenantIs) → all_resident ts + sum_by swapped_pages (map pages_in ts) ≤ sum_by (λ t. length (pages_in t)) ts
all_held [] = omega arith
all_held (t ∷ ts) =
    omega (
      arith,
      sum_by-cons swapped_pages (pages_in t) (map pages_in ts),
      sum_by-cons (λ u. resident_pages (pages_in u)) t ts,
      sum_by-cons (λ u. length (pages_in u)) t ts,
      pages_held (pages_in t),
      all_held ts,
    )

nobody_above : (ts : List TenantIs) → All (λ s. ¬ IsEligible s) (map stat_of ts) → all_resident ts ≤ sum_by (λ (t : TenantIs). t.minimum) ts
nobody_above [] none = omega arith
nobody_above (t ∷ ts) none =
    let one : t.minimum < resident_pages (pages_in t) → ⊥ = All-head (λ s. ¬ IsEligible s) (stat_of t) (map stat_of ts) none in
    omega (
      arith,
      one,
      sum_by-cons (λ u. resident_pages (pages_in u)) t ts,
      sum_by-cons (λ (u : TenantIs). u.minimum) t ts,
      nobody_above ts (All-tail (λ s. ¬ IsEligible s) (stat_of t) (map stat_of ts) none),
    )

one_fits : (k : ℕ) (e : Option SharedIs) → Fits k e → one_entry e ≤ tickets_of e
one_fits k None fits = omega arith
one_fits k (Some entry) fits = omega (arith, fits.1)

few_entries : (k : ℕ) (es : EntriesAre) → ((j : ℕ) → Fits (k + j) (entry_at es j)) → entry_count es ≤ ticket_count es
few_entries k [] fit = omega arith
few_entries k (e ∷ es) fit =
    omega (
      arith,
      sum_by-cons one_entry e es,
      sum_by-cons tickets_of e es,
      one_fits (k + 0) e (fit 0),
      few_entries (k + 1) es (λ j. let same : k + suc j ≡ k + 1 + j = omega arith in subst (λ (n : ℕ). Fits n (entry_at es j)) same (fit (suc j))),
    )

module _ {frames slots : ℕ} {trusted : Type 0} {held : ℕ → Option (List ℕ)} {ts : List TenantIs} {pool book : FreeList} {es : EntriesAre}
    (sound : Sound frames slots trusted held ts pool book es) (fit : AllFit es) (admitted : IsAdmitted frames slots ts) where
  out : pool.free ≡ [] → sum_by private_pages (map pages_in ts) + entry_count es ≡ frames
  out none = omega (arith, frames_add_up frames slots (map pages_in ts) es pool book sound.books, ap length none)

  entries : entry_count es ≤ sum_by shared_pages (map pages_in ts)
  entries = omega (arith, few_entries 0 es (λ j. let same : j ≡ 0 + j = omega arith in subst (λ (n : ℕ). Fits n (entry_at es j)) same (fit j)), tickets_add_up frames slots (map pages_in ts) es pool book sound.books)

  pub somebody : pool.free ≡ [] → All (λ s. ¬ IsEligible s) (map stat_of ts) → ⊥
  somebody none nobody = omega (arith, out none, entries, resident_in_all ts, nobody_above ts nobody, admitted.frames_for, one_more_each ts, admitted.some)

  pub some_slot : pool.free ≡ [] → book.free ≡ [] → ⊥
  some_slot none full =
      omega (
        arith,
        out none,
        entries,
        resident_in_all ts,
        all_held ts,
        slots_add_up frames slots (map pages_in ts) es pool book sound.books,
        ap length full,
        admitted.frames_for,
        admitted.slots_for,
        few_pages ts,
        one_more_each ts,
        admitted.some,
      )

  -- ---- what is answered

  pub finds_frame : (failed damaged : Type 0) (e : FaultError) → WhyLacking pool book (map stat_of ts) failed damaged e → IsNoRoom failed e
  finds_frame failed damaged lacking.NoFrame why = elim why.1 [
    | inl broke ↦ broke
    | inr nobody ↦ absurd (somebody why.0 nobody)
  ]
  finds_frame failed damaged lacking.NoSwap why = some_slot why.0 why.1
  finds_frame failed damaged e why = tt

  pub finds_frames : (failed damaged : Type 0) (e : RunStop) → WhyStopped pool book (map stat_of ts) failed damaged e → IsNoRoomIn failed e
  finds_frames failed damaged stop.NoFrame why = finds_frame failed damaged lacking.NoFrame why
  finds_frames failed damaged stop.NoSwap why = finds_frame failed damaged lacking.NoSwap why
  finds_frames failed damaged e why = tt

  pub ends_with_room : (failed damaged : Type 0) (e : End) → IfStop e (WhyStopped pool book (map stat_of ts) failed damaged) → IsEndWithRoom failed e
  ends_with_room failed damaged end.Done why = tt
  ends_with_room failed damaged (end.Need page w) why = tt
  ends_with_room failed damaged (end.Stop s) why = finds_frames failed damaged s why

  pub access_with_room : (failed damaged : Type 0) (e : DebugError) → IfStopped e (WhyStopped pool book (map stat_of ts) failed damaged) → IsAccessWithRoom failed e
  access_with_room failed damaged debug.NoPlace why = tt
  access_with_room failed damaged (debug.Stop s) why = finds_frames failed damaged s why

-- steps for which no page is supplied stop for want of room in their log alone
for_its_log : (failed : Type 0) (e : End) → IfStop e IsForRoom → IsEndWithRoom failed e
for_its_log failed (end.Stop stop.NoFrame) why = absurd why
for_its_log failed (end.Stop stop.NoSwap) why = absurd why
for_its_log failed e why = tt

-- each page that an event needs finds room where the guests are admitted
module _ {Kept : Type 0} (facts : StoreFacts Kept) (tax : ℕ) (w w' : WorldIs Kept) where
  one_of : IsAdmitted w'.frames (facts.slots w'.store) w'.tenants → TenantIs
  one_of admitted = some_tenant w'.tenants 0 admitted.some

  pub room_of : (e : Event) (a : Answer) → IsAnswered facts tax w w' e a
      → IsSoundWorld facts w' → AllFit w'.shares.entries
      → IsAdmitted w'.frames (facts.slots w'.store) w'.tenants → FindsRoom (FailsOnce facts w w') a
  room_of (event.Steps g count) (answer.Ran ran) is sound fit admitted = for_its_log (FailsOnce facts w w') ran.end (is (one_of admitted)).0.stop
  room_of (event.Run g count) (answer.Ran ran) is sound fit admitted = ends_with_room sound fit admitted (FailsOnce facts w w') _ ran.end (is (one_of admitted)).0.stop
  room_of e (answer.Ran ran) is sound fit admitted = absurd is
  room_of (event.Probe g address count) (answer.Probed (Err error)) is sound fit admitted = access_with_room sound fit admitted (FailsOnce facts w w') _ error (is (one_of admitted)).stop
  room_of e (answer.Probed (Err error)) is sound fit admitted = absurd is
  room_of (event.Write g address bytes) (answer.Written (Err error)) is sound fit admitted = access_with_room sound fit admitted (FailsOnce facts w w') _ error (is (one_of admitted)).stop
  room_of e (answer.Written (Err error)) is sound fit admitted = absurd is
  room_of (event.Fault g) (answer.Faulted (Err error)) is sound fit admitted = finds_frame sound fit admitted (FailsOnce facts w w') _ error (is (one_of admitted)).err
  room_of e (answer.Faulted (Err error)) is sound fit admitted = absurd is
  room_of e a is sound fit admitted = tt

-- a turn of the policy
pub done_limits : {Store E : Type 0} (tax : ℕ) (failed : Type 0) (w w' : WorldIs Store) (r : Result Turn E) → IfOk r (λ turn. IsTurn tax failed w turn w') → OnErr r (w' ≡ w) → LimitsStay w.tenants w'.tenants
done_limits tax failed w w' (Ok turn) made unchanged =
    limits_turned (actions_in tax w turn) turn.aims.items w.tenants made.mid w'.tenants (record { balloon = None; swap_out = 0; blocked = false }) made.turned made.moves
done_limits tax failed w w' (Err error) made unchanged = subst (λ (x : WorldIs _). LimitsStay w.tenants x.tenants) (sym unchanged) (record { pages = refl; shares = refl; minimums = refl })

pub fault_room : {Kept T : Type 0} (facts : StoreFacts Kept) (g : ℕ) (IsFor : ℕ → Type 0) (w w' : WorldIs Kept) (r : Result T FaultError) → IfErr r (WhyUnsupplied facts g IsFor w w')
    → IsSoundWorld facts w' → AllFit w'.shares.entries
    → IsAdmitted w'.frames (facts.slots w'.store) w'.tenants → IfErr r (IsNoRoom (FailsOnce facts w w'))
fault_room facts g IsFor w w' (Ok done) why sound fit admitted = tt
fault_room facts g IsFor w w' (Err error) why sound fit admitted = finds_frame sound fit admitted (FailsOnce facts w w') _ error why
