-- Pages that leave their frames, one after another.
use Rattle.std.proofs.Common.{ℕ, ◌≡◌, ◌+◌, ◌<◌, ◌≤◌, ◌⊎◌, ◌++◌, length-append, IsErrOf, IfErr, inl, inr, List, [], ◌∷◌, Option, None, Result, Ok, Err, OnOk, OnErr, IfOk, length, get_or, refl, ap, subst, ◌∙◌, arith}
use Rattle.world.specs.All.{AreSteps, AreSwapOuts, AroundStays, Chain, End, EndsBy, FaultError, IsBooked, IsEviction, IsFault, IsForNeed, IsForStep, IsMet, IsRun, IsStuck, IsSuppliedFor, IsSwapOut, MakesNone, MakesRoom, MakesSome, MakesSteps, Moment, NoneLeaves, Private, RunStop, Spared, StopsBy, StoreFacts, SwapOuts, SwapOutsEnd, TenantIs, WorldIs, kind_at, pages_in, stop_of}
use Rattle.world.specs.declared.faulting.FaultError.TheVariants as lacking
use Rattle.world.specs.declared.running.End.TheVariants as ending
use Rattle.world.specs.declared.running.RunStop.TheVariants as halted

-- ---- from moment to moment

then_one : (leads : Moment → Moment → Type 0) (m : Moment) (ms : List Moment) (mid m' : Moment) → Chain leads m ms mid → leads mid m' → Chain leads m (ms ++ m' ∷ []) m'
then_one leads m [] mid m' same one = (subst (λ (from : Moment). leads from m') same one, refl)
then_one leads m (next ∷ ms) mid m' all one = (all.0, then_one leads next ms mid m' all.1 one)

chain_where : (leads leads' : Moment → Moment → Type 0) → ((m m' : Moment) → leads m m' → leads' m m') → (m : Moment) (ms : List Moment) (m' : Moment) → Chain leads m ms m' → Chain leads' m ms m'
chain_where leads leads' more m [] m' all = all
chain_where leads leads' more m (next ∷ ms) m' all = (more m next all.0, chain_where leads leads' more next ms m' all.1)

-- ---- evictions

-- pages that have left their frames one after another
pub record Evicted (frames slots tax : ℕ) (spared : Option Spared) (m m' : Moment) : Type 0 where
  pub moments : List Moment
  pub evictions : Chain (IsEviction frames slots tax spared) m moments m'

pub none_evicted : (frames slots tax : ℕ) (spared : Option Spared) (m : Moment) → Evicted frames slots tax spared m m
none_evicted frames slots tax spared m = record { moments = []; evictions = refl }

pub one_more_evicted : {frames slots tax : ℕ} {spared : Option Spared} {m mid m' : Moment} → Evicted frames slots tax spared m mid → IsEviction frames slots tax spared mid m'
    → Evicted frames slots tax spared m m'
one_more_evicted {frames} {slots} {tax} {spared} {m} {mid} {m'} so_far one =
    record { moments = so_far.moments ++ m' ∷ []; evictions = then_one (IsEviction frames slots tax spared) m so_far.moments mid m' so_far.evictions one }

pub room_made : (frames slots tax : ℕ) (spared : Option Spared) (m last m' : Moment) → Evicted frames slots tax spared m last → NoneLeaves tax last m' → MakesRoom frames slots tax spared m m'
room_made frames slots tax spared m last m' so_far end = record { moments = so_far.moments; last = last; evictions = so_far.evictions; end = end }

-- ---- pages that are supplied for a step

-- so many of them
pub record Supplied (frames slots : ℕ) (trusted : Type 0) (tax g count : ℕ) (m m' : Moment) : Type 0 where
  pub moments : List Moment
  pub many : length moments ≡ count
  pub supplied : Chain (IsForStep frames slots trusted tax g) m moments m'

pub none_supplied : (frames slots : ℕ) (trusted : Type 0) (tax g : ℕ) (m : Moment) → Supplied frames slots trusted tax g 0 m m
none_supplied frames slots trusted tax g m = record { moments = []; many = refl; supplied = refl }

pub one_more_supplied : {frames slots : ℕ} {trusted : Type 0} {tax g count : ℕ} {m mid m' : Moment} → Supplied frames slots trusted tax g count m mid
    → IsForStep frames slots trusted tax g mid m' → Supplied frames slots trusted tax g (count + 1) m m'
one_more_supplied {frames} {slots} {trusted} {tax} {g} {count} {m} {mid} {m'} so_far one = record {
  moments = so_far.moments ++ m' ∷ [];
  many = length-append so_far.moments (m' ∷ []) ∙ ap (λ (n : ℕ). n + 1) so_far.many;
  supplied = then_one (IsForStep frames slots trusted tax g) m so_far.moments mid m' so_far.supplied one;
}

pub then_made : {frames slots : ℕ} {trusted : Type 0} {tax g tries count : ℕ} {m mid m' : Moment} → Supplied frames slots trusted tax g tries m mid → tries ≤ 64 → 0 < count
    → AreSteps frames slots trusted g count mid m' → MakesSteps frames slots trusted tax g count m m'
then_made {mid = mid} so_far few some steps =
    record { moments = so_far.moments; few = omega (arith, so_far.many, few); last = mid; supplied = so_far.supplied; some = some; steps = steps }

pub then_none : {frames slots : ℕ} {trusted : Type 0} {tax g tries : ℕ} {end : End} {m mid m' : Moment} → Supplied frames slots trusted tax g tries m mid → tries ≤ 64
    → StopsBy frames slots trusted tax g end mid m' → MakesNone frames slots trusted tax g end m m'
then_none {mid = mid} so_far few stops =
    record { moments = so_far.moments; few = omega (arith, so_far.many, few); last = mid; supplied = so_far.supplied; stops = stops }

pub last_made : {E : Type 0} (r : Result ℕ E) (Given : ℕ → Type 0) {frames slots : ℕ} {trusted : Type 0} {tax g tries : ℕ} {m mid : Moment} (m' : Moment) → Supplied frames slots trusted tax g tries m mid
    → tries ≤ 64 → ((count : ℕ) → Given count → AreSteps frames slots trusted g count mid m') → IfOk r (λ count. 0 < count) → IfOk r Given → IfOk r (λ count. MakesSteps frames slots trusted tax g count m m')
last_made (Ok count) Given m' so_far few so some given = then_made so_far few some (so count given)
last_made (Err error) Given m' so_far few so some given = tt

stuck : (frames slots : ℕ) (trusted : Type 0) (tax g : ℕ) (m m' : Moment) → AreSteps frames slots trusted g 0 m m' → IsStuck frames slots trusted tax g m m'
stuck frames slots trusted tax g m m' none = record { between = m'; none = none; fault = inl refl }

-- where no fault was tried
pub stops_unmade : (frames slots : ℕ) (trusted : Type 0) (tax g : ℕ) (end : End) (m m' : Moment) → (end ≡ ending.Done → ⊥) → AreSteps frames slots trusted g 0 m m'
    → StopsBy frames slots trusted tax g end m m'
stops_unmade frames slots trusted tax g ending.Done m m' early none = absurd (early refl)
stops_unmade frames slots trusted tax g (ending.Need p why) m m' early none = none
stops_unmade frames slots trusted tax g (ending.Stop halted.LogFull) m m' early none = none
stops_unmade frames slots trusted tax g (ending.Stop why) m m' early none = stuck frames slots trusted tax g m m' none

pub last_none : {T : Type 0} (r : Result T End) (Given : Type 0) {frames slots : ℕ} {trusted : Type 0} {tax g tries : ℕ} {m mid : Moment} (m' : Moment) → Supplied frames slots trusted tax g tries m mid
    → tries ≤ 64 → (Given → AreSteps frames slots trusted g 0 mid m') → (IsErrOf r ending.Done → ⊥) → OnErr r Given → IfErr r (λ end. MakesNone frames slots trusted tax g end m m')
last_none (Ok t) Given m' so_far few so early given = tt
last_none (Err end) Given {frames} {slots} {trusted} {tax} {g} {tries} {m} {mid} m' so_far few so early given =
    then_none so_far few (stops_unmade frames slots trusted tax g end mid m' (λ is. early (ap Err is)) (so given))

pub stop_not_done : (why : RunStop) → ending.Stop why ≡ ending.Done → ⊥
stop_not_done why is = cc

-- where a fault was tried
pub stops_faulted : (frames slots : ℕ) (trusted : Type 0) (tax g : ℕ) (error : FaultError) (m m' : Moment) → IsStuck frames slots trusted tax g m m'
    → StopsBy frames slots trusted tax g (ending.Stop (stop_of error)) m m'
stops_faulted frames slots trusted tax g lacking.NoFrame m m' it = it
stops_faulted frames slots trusted tax g error m m' it = it

-- ---- steps, and more of them

-- for which pages were supplied
pub record Made (frames slots : ℕ) (trusted : Type 0) (tax g : ℕ) (m m' : Moment) : Type 0 where
  pub moments : List Moment
  pub steps : Chain (MakesSome frames slots trusted tax g) m moments m'

pub none_yet : (frames slots : ℕ) (trusted : Type 0) (tax g : ℕ) (m : Moment) → Made frames slots trusted tax g m m
none_yet frames slots trusted tax g m = record { moments = []; steps = refl }

pub more_made : {frames slots : ℕ} {trusted : Type 0} {tax g count : ℕ} {m mid m' : Moment} → Made frames slots trusted tax g m mid → MakesSteps frames slots trusted tax g count mid m'
    → Made frames slots trusted tax g m m'
more_made {frames} {slots} {trusted} {tax} {g} {count} {m} {mid} {m'} so_far one =
    record { moments = so_far.moments ++ m' ∷ []; steps = then_one (MakesSome frames slots trusted tax g) m so_far.moments mid m' so_far.steps (count, one) }

ends : (frames slots : ℕ) (trusted : Type 0) (tax g : ℕ) (end : End) (m m' : Moment) → MakesNone frames slots trusted tax g end m m' → EndsBy frames slots trusted tax g end m m'
ends frames slots trusted tax g ending.Done m m' none = absurd none.stops
ends frames slots trusted tax g (ending.Need p why) m m' none = none
ends frames slots trusted tax g (ending.Stop why) m m' none = none

pub run_ends : {frames slots : ℕ} {trusted : Type 0} {tax g : ℕ} {end : End} {m mid m' : Moment} → Made frames slots trusted tax g m mid → MakesNone frames slots trusted tax g end mid m'
    → IsRun frames slots trusted tax g end m m'
run_ends {frames} {slots} {trusted} {tax} {g} {end} {m} {mid} {m'} so_far none =
    record { moments = so_far.moments; last = mid; steps = so_far.steps; ends = ends frames slots trusted tax g end mid m' none }

pub run_done : {frames slots : ℕ} {trusted : Type 0} {tax g : ℕ} {m m' : Moment} → Made frames slots trusted tax g m m' → IsRun frames slots trusted tax g ending.Done m m'
run_done {m' = m'} so_far = record { moments = so_far.moments; last = m'; steps = so_far.steps; ends = refl }

-- ---- by the world that came before, where what lies around the guests is as it was

module _ {Store : Type 0} {facts : StoreFacts Store} {w w' : WorldIs Store} (around : AroundStays facts w w') where
  -- what is so of the frames and slots there are
  booked : (P : ℕ → ℕ → Type 0) → P w'.frames (facts.slots w'.store) → P w.frames (facts.slots w.store)
  booked P p = subst (λ (n : ℕ). P n (facts.slots w.store)) around.frames (subst (λ (n : ℕ). P w'.frames n) around.store.slots p)

  pub booked_where : (m : Moment) → IsBooked w'.frames (facts.slots w'.store) m → IsBooked w.frames (facts.slots w.store) m
  booked_where m b = booked (λ frames slots. IsBooked frames slots m) b

  pub steps_where : {g count : ℕ} {m m' : Moment} → AreSteps w'.frames (facts.slots w'.store) (facts.true_to_digests w'.store) g count m m' → AreSteps w.frames (facts.slots w.store) (facts.true_to_digests w.store) g count m m'
  steps_where {m' = m'} a = record { words = a.words; logs = a.logs; stays = a.stays; needs_none = λ now. a.needs_none (around.store.true_to_digests.1 now); booked = booked_where m' a.booked }

  need_where : {tax g : ℕ} {m m' : Moment} → IsForNeed w'.frames (facts.slots w'.store) (facts.true_to_digests w'.store) tax g m m' → IsForNeed w.frames (facts.slots w.store) (facts.true_to_digests w.store) tax g m m'
  need_where {tax} {g} {m} {m'} a = record {
    p = a.p;
    needed = λ now. a.needed (around.store.true_to_digests.1 now);
    supplied = booked (λ frames slots. IsSuppliedFor frames slots tax None g a.p m m') a.supplied;
  }

  pub fault_where : (tax g : ℕ) (m m' : Moment) → IsFault w'.frames (facts.slots w'.store) (facts.true_to_digests w'.store) tax g m m' → IsFault w.frames (facts.slots w.store) (facts.true_to_digests w.store) tax g m m'
  fault_where tax g m m' (inl same) = inl same
  fault_where tax g m m' (inr a) = inr (need_where a)

  pub met_where : (tax g : ℕ) (m m' : Moment) → IsMet w'.frames (facts.slots w'.store) (facts.true_to_digests w'.store) tax g m m' → IsMet w.frames (facts.slots w.store) (facts.true_to_digests w.store) tax g m m'
  unfolding need_where
  met_where tax g m m' (inl same) = inl same
  met_where tax g m m' (inr a) = inr (record { its = need_where a.its; private = a.private })

  supplied_where : (tax g : ℕ) (m : Moment) (ms : List Moment) (m' : Moment) → Chain (IsForStep w'.frames (facts.slots w'.store) (facts.true_to_digests w'.store) tax g) m ms m'
      → Chain (IsForStep w.frames (facts.slots w.store) (facts.true_to_digests w.store) tax g) m ms m'
  supplied_where tax g m ms m' all =
      chain_where (IsForStep w'.frames (facts.slots w'.store) (facts.true_to_digests w'.store) tax g) (IsForStep w.frames (facts.slots w.store) (facts.true_to_digests w.store) tax g)
      (λ from to one. record { between = one.between; none = steps_where one.none; met = met_where tax g one.between to one.met }) m ms m' all

  pub makes_where : {tax g count : ℕ} {m m' : Moment} → MakesSteps w'.frames (facts.slots w'.store) (facts.true_to_digests w'.store) tax g count m m' → MakesSteps w.frames (facts.slots w.store) (facts.true_to_digests w.store) tax g count m m'
  makes_where {tax} {g} {count} {m} a = record {
    moments = a.moments;
    few = a.few;
    last = a.last;
    supplied = supplied_where tax g m a.moments a.last a.supplied;
    some = a.some;
    steps = steps_where a.steps;
  }

  stuck_where : {tax g : ℕ} {m m' : Moment} → IsStuck w'.frames (facts.slots w'.store) (facts.true_to_digests w'.store) tax g m m' → IsStuck w.frames (facts.slots w.store) (facts.true_to_digests w.store) tax g m m'
  stuck_where {tax} {g} {m} {m'} a = record { between = a.between; none = steps_where a.none; fault = fault_where tax g a.between m' a.fault }

  stops_where : (tax g : ℕ) (end : End) (m m' : Moment) → StopsBy w'.frames (facts.slots w'.store) (facts.true_to_digests w'.store) tax g end m m' → StopsBy w.frames (facts.slots w.store) (facts.true_to_digests w.store) tax g end m m'
  stops_where tax g ending.Done m m' a = a
  stops_where tax g (ending.Need p why) m m' a = steps_where a
  stops_where tax g (ending.Stop halted.LogFull) m m' a = steps_where a
  stops_where tax g (ending.Stop why) m m' a = stuck_where a

  pub makes_none_where : {tax g : ℕ} {end : End} {m m' : Moment} → MakesNone w'.frames (facts.slots w'.store) (facts.true_to_digests w'.store) tax g end m m' → MakesNone w.frames (facts.slots w.store) (facts.true_to_digests w.store) tax g end m m'
  makes_none_where {tax} {g} {end} {m} {m'} a = record {
    moments = a.moments;
    few = a.few;
    last = a.last;
    supplied = supplied_where tax g m a.moments a.last a.supplied;
    stops = stops_where tax g end a.last m' a.stops;
  }

-- ---- a page that gets a frame, or stays

pub moves_or_stays : {E : Type 0} (r : Result (Unit {0}) E) (g p : ℕ) (ts ts' : List TenantIs) → OnOk r ((t : TenantIs) → kind_at (pages_in (get_or ts' g t)) p ≡ Private) → OnErr r (ts' ≡ ts)
    → ((t : TenantIs) → kind_at (pages_in (get_or ts' g t)) p ≡ Private) ⊎ (ts' ≡ ts)
moves_or_stays (Ok done) g p ts ts' private stays = inl private
moves_or_stays (Err error) g p ts ts' private stays = inr stays

-- ---- turns of the policy

pub none_out : (frames slots g : ℕ) (m : Moment) → SwapOuts frames slots g g m m
none_out frames slots g m = record { moments = []; swap_outs = (omega arith, refl) }

from_lower : (frames slots from from' to : ℕ) (m : Moment) (ms : List Moment) (m' : Moment) → from ≤ from' → AreSwapOuts frames slots from' to m ms m' → AreSwapOuts frames slots from to m ms m'
from_lower frames slots from from' to m [] m' lower all = (omega (arith, lower, all.0), all.1)
from_lower frames slots from from' to m (next ∷ ms) m' lower all = (all.0, omega (arith, lower, all.1), all.2, all.3)

to_higher : (frames slots from to to' : ℕ) (m : Moment) (ms : List Moment) (m' : Moment) → to ≤ to' → AreSwapOuts frames slots from to m ms m' → AreSwapOuts frames slots from to' m ms m'
to_higher frames slots from to to' m [] m' higher all = (omega (arith, higher, all.0), all.1)
to_higher frames slots from to to' m (next ∷ ms) m' higher all = (all.0, all.1, all.2, to_higher frames slots all.0 to to' next ms m' higher all.3)

outs_joined : (frames slots from g to : ℕ) (m : Moment) (ms ns : List Moment) (mid m' : Moment) → AreSwapOuts frames slots from g m ms mid → AreSwapOuts frames slots g to mid ns m'
    → AreSwapOuts frames slots from to m (ms ++ ns) m'
outs_joined frames slots from g to m [] ns mid m' same more =
    from_lower frames slots from g to m ns m' same.0 (subst (λ (start : Moment). AreSwapOuts frames slots g to start ns m') same.1 more)
outs_joined frames slots from g to m (next ∷ ms) ns mid m' all more = (all.0, all.1, all.2, outs_joined frames slots all.0 g to next ms ns mid m' all.3 more)

pub up_to : (frames slots from to to' : ℕ) (m m' : Moment) → to ≤ to' → SwapOuts frames slots from to m m' → SwapOuts frames slots from to' m m'
up_to frames slots from to to' m m' higher a = record { moments = a.moments; swap_outs = to_higher frames slots from to to' m a.moments m' higher a.swap_outs }

-- and more of them
pub then_outs : {Store : Type 0} {facts : StoreFacts Store} {w w' : WorldIs Store} → AroundStays facts w w' → {from g to : ℕ} {m mid m' : Moment}
    → SwapOuts w.frames (facts.slots w.store) from g m mid → SwapOuts w'.frames (facts.slots w'.store) g to mid m' → SwapOuts w.frames (facts.slots w.store) from to m m'
then_outs {facts = facts} {w = w} around {from} {g} {to} {m} {mid} {m'} a b =
    let here : SwapOuts w.frames (facts.slots w.store) g to mid m' = booked around (λ frames slots. SwapOuts frames slots g to mid m') b in
    record { moments = a.moments ++ here.moments; swap_outs = outs_joined w.frames (facts.slots w.store) from g to m a.moments here.moments mid m' a.swap_outs here.swap_outs }

pub then_end : {Store : Type 0} {facts : StoreFacts Store} {w w' : WorldIs Store} → AroundStays facts w w' → {from g to : ℕ} {m mid m' : Moment}
    → SwapOuts w.frames (facts.slots w.store) from g m mid → SwapOutsEnd w'.frames (facts.slots w'.store) g to mid m' → SwapOutsEnd w.frames (facts.slots w.store) from to m m'
then_end around a b = record { last = b.last; before = then_outs around a b.before; stay = b.stay }

pub end_up_to : (frames slots from to to' : ℕ) (m m' : Moment) → to ≤ to' → SwapOutsEnd frames slots from to m m' → SwapOutsEnd frames slots from to' m m'
end_up_to frames slots from to to' m m' higher a = record { last = a.last; before = up_to frames slots from to to' m a.last higher a.before; stay = a.stay }

pub one_out : (frames slots g : ℕ) (m m' : Moment) → IsSwapOut frames slots g m m' → SwapOuts frames slots g g m m'
one_out frames slots g m m' out = record { moments = m' ∷ []; swap_outs = (g, omega arith, out, (omega arith, refl)) }

pub outs_or_end : {T E : Type 0} (r : Result T E) (A B : Type 0) → OnOk r A → OnErr r B → A ⊎ B
outs_or_end (Ok t) A B a b = inl a
outs_or_end (Err e) A B a b = inr b

-- all of a moment but its guests is as before
pub same_around : (m n : Moment) → n.words ≡ m.words → n.pool ≡ m.pool → n.slots ≡ m.slots → n.entries ≡ m.entries → n ≡ record m { tenants = n.tenants }
same_around m n words pool slots entries = λ i. record { words = words i; tenants = n.tenants; pool = pool i; slots = slots i; entries = entries i }
