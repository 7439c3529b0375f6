-- What is answered to events, and why.
use Rattle.std.specs.Prelude.{◌≡◌, ◌≢◌, ◌↔◌, ◌<◌, ◌≤◌, ◌^◌, ℕ, false, true, Result, Ok, Err, Some, None, IfOk, IfErr, OnOk, IsErrOf, List, [], ◌∷◌, ◌++◌, length, map, slice_index, slice_index_or}
use Rattle.world.specs.Below.{Answered, Comes, EvictError, FreeList, HintsAfter, In, IsFull, Item, Private, Refused, Reply, SharesAre, StepOut, Stream, SupplyError, TenantIs, Why, WhyAway, WhyStays, Write, WritesTo, accepts, bytes_at, kind_at, lacks_in, need_of, page_at, pages_in, replied, reply, sha256, shown, standing, view_of}
use Rattle.guest_log.specs.declared.stop.Stop.{Stop}
use Rattle.guest_log.specs.declared.stop.Stop.TheVariants as halt
use Rattle.mips_tlb.specs.declared.kind.Kind.TheVariants.{Store}
use Rattle.page_moves.specs.declared.scan.Scan.{Scan}
use Rattle.guest.specs.declared.refused.Refused.TheVariants as refusal
use Rattle.world.specs.declared.events.Event.{Event}
use Rattle.world.specs.declared.events.Event.TheVariants as event
use Rattle.world.specs.declared.events.Answer.{Answer}
use Rattle.world.specs.declared.events.Answer.TheVariants as answer
use Rattle.world.specs.declared.events.Fed.{Fed}
use Rattle.world.specs.declared.debugging.DebugError.{DebugError}
use Rattle.world.specs.declared.debugging.DebugError.TheVariants as debug
use Rattle.world.specs.declared.faulting.FaultError.{FaultError}
use Rattle.world.specs.declared.running.End.TheVariants as ending
use Rattle.world.specs.declared.running.Ran.{Ran}
use Rattle.world.specs.declared.running.RunStop.{RunStop}
use Rattle.world.specs.declared.running.RunStop.TheVariants as halted
use Rattle.world.specs.declared.world.Evicted.{Evicted}
use Rattle.world.specs.Damage.{HasDamage, IsNeeded, IsAccessed, LieIn}
use Rattle.world.specs.Debugging.{IfStopped}
use Rattle.world.specs.Events.{own_items, IfStop, IsForRoom, IsSupplied, WhyHalted}
use Rattle.world.specs.Evictions.{Became}
use Rattle.world.specs.Admission.{IsAdmitted, LimitsStay, BlockedStay, NotTurned, FindsRoom}
use Rattle.world.specs.Samples.{IsSampling}
use Rattle.world.specs.Turns.{IsTurn}
use Rattle.world.specs.Victims.{WhyUnsupplied}
use Rattle.world.specs.Words.{GoesByWords}
use Rattle.world.specs.Worlds.{WorldIs, IsSoundWorld, SameAround, StoreFacts, StoreStays, boot_of, log_at, guest_at, needed_by, FailsOnce}

-- a step answers the page that it needs, and else is made; it stops for a full log exactly where the log is full
pub record IsStepAnswer (trusted : Type 0) (t : TenantIs) (stepped : Result StepOut Stop) : Type 0 where
  pub need : trusted → IfOk stepped (λ s. need_of s ≡ needed_by t)
  pub full : IsErrOf stepped halt.LogFull ↔ IsFull t.guest.log

-- as many steps are made as were wanted, or it is said why not: the next one needs this page, the log is full, or this stop
pub record IsRunAnswer (trusted : Type 0) (count : ℕ) (t' : TenantIs) (why : RunStop → Type 0) (ran : Ran) : Type 0 where
  pub most : ran.steps ≤ count
  pub done : (ran.end ≡ ending.Done) ↔ (ran.steps ≡ count)
  pub need : trusted → (p : ℕ) (w : Why) → ran.end ≡ ending.Need p w → needed_by t' ≡ Some (p, w)
  pub full : ran.end ≡ ending.Stop halted.LogFull → IsFull t'.guest.log
  pub room : ran.end ≢ ending.Done → ran.end ≢ ending.Stop halted.LogFull → IsFull t'.guest.log → ⊥
  pub stop : IfStop ran.end why

-- where pages are supplied, the step that needs a page has one already that was supplied for it
abbrev pub AreSupplied : Type 0 → TenantIs → Ran → Type 0
AreSupplied trusted t' ran = trusted → (p : ℕ) (w : Why) → ran.end ≡ ending.Need p w → IsSupplied p t'

-- an item is accepted and replied to as by the guest's view, and by the guest as it stands, and refused only where these refuse it, where
-- a page that it writes to is away, or where the log is full, and then always
pub record IsInputAnswer (trusted : Type 0) (item : Item) (t : TenantIs) (done : Result Reply Refused) : Type 0 where
  pub accepted : OnOk done (trusted → accepts item.what (view_of t.guest) ≡ true)
  pub reply_as_it_stands : IfOk done (λ r. replied r ≡ reply item.what (standing t.guest))
  pub reply : IfOk done (λ r. trusted → replied r ≡ reply item.what (view_of t.guest))
  pub refused : IsErrOf done refusal.Machine → trusted → accepts item.what (view_of t.guest) ≡ false
  pub refused_as_it_stands : IsErrOf done refusal.Machine → accepts item.what (standing t.guest) ≡ false
  pub away : (page : ℕ) → IsErrOf done (refusal.Away page) → lacks_in (pages_in t) page Store ≢ None
  pub its_page : (page : ℕ) → IsErrOf done (refusal.Away page) → WritesTo item.what (standing t.guest) page
  pub full : IsErrOf done (refusal.Stop halt.LogFull) ↔ IsFull t.guest.log

-- So many bytes of input were taken, from the first on. Fewer than all are taken only where the next one is refused by the guest's view, or
-- the log has no room for it: it is full, or a request for memory was refused.
pub record IsFeedAnswer (trusted : Type 0) (bytes : List ℕ) (t' : TenantIs) (fed : Fed) : Type 0 where
  pub most : fed.count ≤ length bytes
  pub refused : fed.stop ≡ None → fed.count < length bytes → trusted → accepts (In (slice_index bytes fed.count)) (view_of t'.guest) ≡ false
  pub stopped : fed.stop ≢ None → fed.count < length bytes
  pub full : fed.stop ≡ Some halt.LogFull → IsFull t'.guest.log
  pub room : fed.stop ≢ Some halt.LogFull → fed.count < length bytes → IsFull t'.guest.log → ⊥

-- why no bytes are read: one has no place, or it is said why a page is away
pub record IsProbeRefusal (trusted : Type 0) (address count : ℕ) (t : TenantIs) (why : RunStop → Type 0) (error : DebugError) : Type 0 where
  pub no_place : error ≡ debug.NoPlace → trusted → bytes_at (view_of t.guest) address count ≡ None
  pub stop : IfStopped error why
  pub never_full : error ≡ debug.Stop halted.LogFull → ⊥

-- bytes are written as the guest's view accepts them, and refused exactly where that refuses them, or it is said why not
pub record IsWriteAnswer (trusted : Type 0) (address : ℕ) (bytes : List ℕ) (t : TenantIs) (why : RunStop → Type 0) (done : Result (Unit {0}) DebugError) : Type 0 where
  pub accepted : OnOk done (trusted → accepts (Write address bytes) (view_of t.guest) ≡ true)
  pub no_place : trusted → (IsErrOf done debug.NoPlace ↔ (accepts (Write address bytes) (view_of t.guest) ≡ false))
  pub stop : IfErr done (λ error. IfStopped error why)
  pub full : IsErrOf done (debug.Stop halted.LogFull) → IsFull t.guest.log
  pub room : OnOk done (IsFull t.guest.log → ⊥)

-- a page has a frame of its own, or it is said why not
pub record IsSupplyAnswer (p : ℕ) (t' : TenantIs) (pool : FreeList) (failed damaged : Type 0) (done : Result (Unit {0}) SupplyError) : Type 0 where
  pub private : OnOk done (kind_at (pages_in t') p ≡ Private)
  pub err : IfErr done (WhyAway pool failed damaged)

-- the page that the next step needs has one, or it is said why not
pub record IsFaultAnswer (trusted : Type 0) (t t' : TenantIs) (why : FaultError → Type 0) (done : Result (Unit {0}) FaultError) : Type 0 where
  pub private : OnOk done (trusted → (p : ℕ) (w : Why) → needed_by t ≡ Some (p, w) → kind_at (pages_in t') p ≡ Private)
  pub err : IfErr done why

-- a page has left its frame, or was in none; or it is said why it stays
pub record IsEvictAnswer (p : ℕ) (t t' : TenantIs) (slots : FreeList) (failed : Type 0) (done : Result Evicted EvictError) : Type 0 where
  pub page : IfOk done (λ evicted. Became p evicted (pages_in t) (pages_in t') slots)
  pub err : IfErr done (WhyStays slots failed)

-- the scan of a page has an answer that is so, and the page, the entries and the hints become what it says
pub record IsScanAnswer (g p : ℕ) (shares shares' : SharesAre) (t t' : TenantIs) (scan : Scan) : Type 0 where
  pub answer : Answered shares (pages_in t) (record { guest = g; page = p }) scan
  pub hints : HintsAfter shares.hints (sha256 (shown (page_at (pages_in t) p))) (record { guest = g; page = p }) scan shares'.hints
  pub came_free : List ℕ
  pub comes : Comes shares.entries (pages_in t) p scan shares'.entries (pages_in t') came_free

-- There is no such guest, or no such page to supply. The table of shared frames knows guests by numbers below 2^32.
abbrev pub IsNowhere : List TenantIs → Event → Type 0
IsNowhere ts (event.Step g) = length ts ≤ g
IsNowhere ts (event.Steps g count) = length ts ≤ g
IsNowhere ts (event.Run g count) = length ts ≤ g
IsNowhere ts (event.Input g item) = length ts ≤ g
IsNowhere ts (event.Feed g bytes) = length ts ≤ g
IsNowhere ts (event.Probe g address count) = length ts ≤ g
IsNowhere ts (event.Write g address bytes) = length ts ≤ g
IsNowhere ts (event.Supply g p) = (t : TenantIs) → g < length ts → length (pages_in (slice_index_or ts g t)) ≤ p
IsNowhere ts (event.Fault g) = length ts ≤ g
IsNowhere ts (event.Evict g p) = length ts ≤ g
IsNowhere ts (event.Scan g p) = g < length ts → 2 ^ 32 ≤ g
IsNowhere ts event.Sample = ⊥
IsNowhere ts event.Level = ⊥

-- a guest is there that is to make no step, and nothing has happened
pub record IsBlocked {Kept : Type 0} (g : ℕ) (w w' : WorldIs Kept) : Type 0 where
  pub there : g < length w.tenants
  pub blocked : (t : TenantIs) → (guest_at w g t).blocked ≡ true
  pub nothing : w' ≡ w

-- a guest may make steps
abbrev pub IsGoing : TenantIs → Type 0
IsGoing t = t.blocked ≡ false

-- What is answered to an event, and why, at a tax in percent.
abbrev pub IsAnswered : {Kept : Type 0} → StoreFacts Kept → (tax : ℕ) → WorldIs Kept → WorldIs Kept → Event → Answer → Type 0
IsAnswered facts tax w w' (event.Step g) (answer.Stepped stepped) =
    (t : TenantIs) → IsStepAnswer (facts.true_to_digests w.store) (guest_at w g t) stepped × IsGoing (guest_at w g t)
IsAnswered facts tax w w' (event.Steps g count) (answer.Ran ran) =
    (t : TenantIs) → IsRunAnswer (facts.true_to_digests w.store) count (guest_at w' g t) IsForRoom ran × IsGoing (guest_at w g t)
IsAnswered facts tax w w' (event.Run g count) (answer.Ran ran) =
    (t : TenantIs) → IsRunAnswer (facts.true_to_digests w.store) count (guest_at w' g t) (WhyHalted facts g (IsAccessed facts w' g) w w') ran
    × AreSupplied (facts.true_to_digests w.store) (guest_at w' g t) ran × IsGoing (guest_at w g t)
IsAnswered facts tax w w' (event.Input g item) (answer.Input done) =
    (t : TenantIs) → IsInputAnswer (facts.true_to_digests w.store) item (guest_at w g t) done
IsAnswered facts tax w w' (event.Feed g bytes) (answer.Fed fed) =
    (t : TenantIs) → IsFeedAnswer (facts.true_to_digests w.store) bytes.items (guest_at w' g t) fed
IsAnswered facts tax w w' (event.Probe g address count) (answer.Probed (Ok bytes)) =
    (length bytes.items ≡ count) × ((t : TenantIs) → facts.true_to_digests w.store → bytes_at (view_of (guest_at w g t).guest) address count ≡ Some bytes.items)
IsAnswered facts tax w w' (event.Probe g address count) (answer.Probed (Err error)) =
    (t : TenantIs) → IsProbeRefusal (facts.true_to_digests w.store) address count (guest_at w g t) (WhyHalted facts g (LieIn w g address count) w w') error
IsAnswered facts tax w w' (event.Write g address bytes) (answer.Written done) =
    (t : TenantIs) → IsWriteAnswer (facts.true_to_digests w.store) address bytes.items (guest_at w g t) (WhyHalted facts g (LieIn w g address (length bytes.items)) w w') done
IsAnswered facts tax w w' (event.Supply g p) (answer.Supplied done) =
    (t : TenantIs) → IsSupplyAnswer p (guest_at w' g t) w.pool (FailsOnce facts w w') (HasDamage facts w.store w.tenants g p) done
IsAnswered facts tax w w' (event.Fault g) (answer.Faulted done) =
    (t : TenantIs) → IsFaultAnswer (facts.true_to_digests w.store) (guest_at w g t) (guest_at w' g t)
    (WhyUnsupplied facts g (IsNeeded facts w g) w w') done
IsAnswered facts tax w w' (event.Evict g p) (answer.Evicted done) =
    (t : TenantIs) → IsEvictAnswer p (guest_at w g t) (guest_at w' g t) w.slots (FailsOnce facts w w') done
IsAnswered facts tax w w' (event.Scan g p) (answer.Scanned scan) =
    (t : TenantIs) → IsScanAnswer g p w.shares w'.shares (guest_at w g t) (guest_at w' g t) scan
IsAnswered facts tax w w' event.Sample answer.Sampled = IsSampling w.tenants w'.tenants × SameAround w w'
IsAnswered facts tax w w' event.Level (answer.Turned (Ok turn)) = IsTurn tax (FailsOnce facts w w') w turn w'
IsAnswered facts tax w w' event.Level (answer.Turned (Err error)) = w' ≡ w
IsAnswered facts tax w w' (event.Step g) answer.Blocked = IsBlocked g w w'
IsAnswered facts tax w w' (event.Steps g count) answer.Blocked = IsBlocked g w w'
IsAnswered facts tax w w' (event.Run g count) answer.Blocked = IsBlocked g w w'
IsAnswered facts tax w w' e answer.Nowhere = IsNowhere w.tenants e
IsAnswered facts tax w w' e a = ⊥

-- An event has happened by the words of a generator, and left the rest of them: it is answered as `IsAnswered` has it, each log has the items more that the event adds to it, and the machines
-- that the guests booted, their limits, how many frames and slots there are, and what the store is said to be, are as before; only a turn
-- of the policy changes who is blocked; and where guests are admitted by their minimums each page that it needs found room. The world is
-- sound after it.
pub record Happens {Kept : Type 0} (facts : StoreFacts Kept) (tax : ℕ) (words : Stream) (w : WorldIs Kept) (e : Event) (a : Answer) (rest : Stream) (w' : WorldIs Kept) : Type 0 where
  pub answered : IsAnswered facts tax w w' e a
  pub by_words : GoesByWords facts tax words w e a rest w'
  pub logs : (h : ℕ) → log_at w'.tenants h ≡ log_at w.tenants h ++ own_items h e a
  pub boots : map boot_of w'.tenants ≡ map boot_of w.tenants
  pub limits : LimitsStay w.tenants w'.tenants
  pub blocked : NotTurned a → BlockedStay w.tenants w'.tenants
  pub frames : w'.frames ≡ w.frames
  pub store : StoreStays facts w.store w'.store
  pub room : IsAdmitted w.frames (facts.slots w.store) w.tenants → FindsRoom (FailsOnce facts w w') a
  pub sound : IsSoundWorld facts w'

-- events have happened one after another, each in the world that the one before it left, and by the words that it left
abbrev pub AllHappen : {Kept : Type 0} → StoreFacts Kept → (tax : ℕ) → Stream → WorldIs Kept → List Event → List Answer → Stream → WorldIs Kept → Type 0
AllHappen facts tax words w [] [] rest w' = (rest ≡ words) × (w' ≡ w)
AllHappen facts tax words w [] (a ∷ answers) rest w' = ⊥
AllHappen facts tax words w (e ∷ events) [] rest w' = ⊥
AllHappen {Kept} facts tax words w (e ∷ events) (a ∷ answers) rest w' =
    (left : Stream) × (mid : WorldIs Kept) × Happens facts tax words w e a left mid × AllHappen facts tax left mid events answers rest w'
