-- Events, one after another.
use Rattle.std.proofs.Common.{Result, Ok, Err, IfOk, OnOk, ◌≡◌, refl, sym, ap, subst, ◌∙◌, ℕ, zero, suc, ◌+◌, ◌<◌, ◌≤◌, arith, Bool, true, false, nat_lt, Option, Some, None, All, List, [], ◌∷◌, ◌++◌, append_assoc, if◌then◌else◌, length, map, take, drop, get_or}
use Rattle.std.specs.Io.KnownBytes.{Appends, Keeps}
use Rattle.std.specs.Result.{IsErrAnd}
use Rattle.std.specs.List.{flat_map, range_with_len}
use Rattle.std.proofs.lemmas.List.{append-nil, get_or-map, length-map, map-append, take_more, take-append-drop}
use Rattle.std.proofs.lemmas.List.FromFn.{get_or-map-range_with_len, length-map-range_with_len}
use Rattle.std.proofs.lemmas.List.Concat.{flat_map-append, flat_map-cons}
use Rattle.std.proofs.lemmas.List.Elements.{All-nil, All-cons, All-append}
use Rattle.script.specs.Actions.{Action, Single, StepEach, RunEach}
use Rattle.script.specs.Courses.{LineEvent, action_events, of_each}
use Rattle.script.specs.Events as script
use Rattle.script.specs.Views.{event_view}
use Rattle.world.specs.All.{StoreFacts, Stream, TenantIs, WorldIs}
use Rattle.script.specs.declared.event.Event.{Event}
use Rattle.script.specs.declared.event.Event.TheVariants as event
use Rattle.world.specs.declared.events.Event.{Event as Happening}
use Rattle.world.specs.declared.events.Event.TheVariants as happening
use Rattle.simulation.specs.declared.acts.Act.TheVariants as act
use Rattle.simulation.specs.declared.said.Said.{Said}
use Rattle.simulation.specs.Acts.{IsActionFor, IsFor, HasRegister, IsDoable, act_of}
use Rattle.simulation.specs.Lines.{NumberedEvent, reply_text, lines_of}
use Rattle.simulation.specs.Playing.{CanBe, HasBegun, HasPlayed, IsOutcome}
use Rattle.simulation.specs.Transcripts.{IsDone, AllDone, IsPlayed, line_event}
use Rattle.simulation.specs.declared.blocks.Interruption.{Interruption}
use Rattle.simulation.specs.declared.blocks.Interruption.TheVariants.{Memory}

-- ---- what can be done

-- an event that can be done names a register that is there, and its act can be done
pub record CanBeDone (guests slots : ℕ) (e : Event) : Type 0 where
  pub register : HasRegister e
  pub act : IsDoable guests slots (act_of e)

either : (guests slots : ℕ) (b : Bool) (e : Happening) → IsDoable guests slots (act.World e) → IsDoable guests slots (if b then act.World e else act.Skip)
either guests slots true e can = can
either guests slots false e can = tt

pub for_act : (guests slots : ℕ) (e : Event) → IsFor guests slots (event_view e) → CanBeDone guests slots e
for_act guests slots (event.Step guest count) is = record { register = tt; act = (tt, tt) }
for_act guests slots (event.Run guest count) is = record { register = tt; act = (tt, tt) }
for_act guests slots (event.In guest bytes) is = record { register = tt; act = (tt, tt) }
for_act guests slots (event.Drain guest) is = record { register = tt; act = (refl, is) }
for_act guests slots (event.Target guest pages) is = record { register = tt; act = (refl, is) }
for_act guests slots (event.Poke guest register value) is = record { register = is.1; act = (refl, is.0) }
for_act guests slots (event.Write guest address bytes) is = record { register = tt; act = ((is.1, is.2), is.0) }
for_act guests slots (event.Probe guest address count) is = record { register = tt; act = ((is.1, is.2), is.0) }
for_act guests slots (event.Fault guest) is = record { register = tt; act = (tt, tt) }
for_act guests slots (event.Scan guest page) is = record { register = tt; act = either guests slots (nat_lt page 1048576) (happening.Scan guest page) (tt, tt) }
for_act guests slots (event.Evict guest page) is = record { register = tt; act = either guests slots (nat_lt page 1048576) (happening.Evict guest page) (tt, tt) }
for_act guests slots event.Sample is = record { register = tt; act = (tt, tt) }
for_act guests slots event.Level is = record { register = tt; act = (tt, tt) }
for_act guests slots event.Audit is = record { register = tt; act = tt }
for_act guests slots (event.Dump guest) is = record { register = tt; act = is }
for_act guests slots (event.AuditGuest guest) is = record { register = tt; act = is }
for_act guests slots (event.Stats guest) is = record { register = tt; act = is }
for_act guests slots (event.Damage slot byte) is = record { register = tt; act = is }

each_for : (guests slots : ℕ) (f : ℕ → script.Event) → ((g : ℕ) → g < guests → IsFor guests slots (f g)) → All (IsFor guests slots) (of_each guests f)
each_for guests slots f can = λ k d inside.
    let less : k < guests = omega (arith, inside, length-map-range_with_len f 0 guests) in
    subst (IsFor guests slots) (sym (get_or-map-range_with_len f 0 guests k k d less (omega arith))) (can k less)

-- the events that an action comes to can be done where it can
pub events_for : (guests slots : ℕ) (a : Action) → IsActionFor guests slots a → All (IsFor guests slots) (action_events guests a)
events_for guests slots (Single e) can = All-cons (IsFor guests slots) e [] can (All-nil (IsFor guests slots))
events_for guests slots (StepEach count) can = each_for guests slots (λ g. script.Step g count) (λ g less. less)
events_for guests slots (RunEach count) can = each_for guests slots (λ g. script.Run g count) (λ g less. less)

-- ---- a store that is damaged

-- all of a world but its store is as before
pub beside_store : {Store : Type 0} (w w' : WorldIs Store) → w'.tenants ≡ w.tenants → w'.pool ≡ w.pool → w'.slots ≡ w.slots → w'.shares ≡ w.shares → w'.frames ≡ w.frames
    → w'.level ≡ w.level → w' ≡ record w { store = w'.store }
beside_store w w' tenants pool slots shares frames level =
    λ i. record { tenants = tenants i; pool = pool i; slots = slots i; shares = shares i; store = w'.store; frames = frames i; level = level i }

-- what is so where a byte was damaged, by parts
pub damaged : {X E : Type 0} (r : Result X E) (P Q R : Type 0) {T : Type 0} → (P → Q → R → T) → OnOk r P → OnOk r Q → OnOk r R → OnOk r T
damaged (Ok x) P Q R so p q r = so p q r
damaged (Err e) P Q R so p q r = tt

-- what is so of a text where the store is trusted is so of it there, if there is one
pub told_dump : {X E : Type 0} (r : Result X E) (trusted : Type 0) (So : TenantIs → X → Type 0) → (trusted → (t : TenantIs) → IfOk r (So t)) → IfOk r (λ x. trusted → (t : TenantIs) → So t x)
told_dump (Ok x) trusted So f = f
told_dump (Err e) trusted So f = tt

-- ---- events of a line

-- events that come from the line of a number
abbrev pub of_line : ℕ → List Event → List LineEvent
of_line line events = map (λ e. record { line = line; event = e }) (map event_view events)

pub of_line_more : (line : ℕ) (es fs : List Event) → of_line line (es ++ fs) ≡ of_line line es ++ of_line line fs
of_line_more line es fs =
    ap (map (λ e. let l : LineEvent = record { line = line; event = e } in l)) (map-append event_view es fs)
    ∙ map-append (λ e. let l : LineEvent = record { line = line; event = e } in l) (map event_view es) (map event_view fs)

-- ---- known bytes

pub appends_none : (k k' : Option (List ℕ)) → k' ≡ k → Appends k k' []
appends_none None k' same = tt
appends_none (Some xs) k' same = subst (λ (o : Option (List ℕ)). Appends (Some xs) o []) (sym same) (sym (append-nil xs))

pub appends_more : (k k' k'' : Option (List ℕ)) (s t : List ℕ) → Appends k k' s → Appends k' k'' t → Appends k k'' (s ++ t)
appends_more None k' k'' s t a b = tt
appends_more (Some xs) None k'' s t a b = absurd a
appends_more (Some xs) (Some ys) None s t a b = absurd b
appends_more (Some xs) (Some ys) (Some zs) s t a b = b ∙ ap (λ (l : List ℕ). l ++ t) a ∙ append_assoc xs s t

-- ---- more events

module _ {Store : Type 0} (facts : StoreFacts Store) (numbered : Bool) where
  lines_more : (words left : Stream) (w now : WorldIs Store) (es fs : List NumberedEvent) (ss ts : List Said) → AllDone facts words w es ss left now
      → lines_of numbered (es ++ fs) (ss ++ ts) ≡ lines_of numbered es ss ++ lines_of numbered fs ts
  lines_more words left w now [] fs [] ts done = refl
  lines_more words left w now [] fs (s ∷ ss) ts done = absurd done
  lines_more words left w now (e ∷ es) fs [] ts done = absurd done
  lines_more words left w now (e ∷ es) fs (s ∷ ss) ts done =
      ap (λ (l : List ℕ). reply_text numbered e s ++ l) (lines_more done.0 left done.1 now es fs ss ts done.3)
      ∙ sym (append_assoc (reply_text numbered e s) (lines_of numbered es ss) (lines_of numbered fs ts))

  done_more : (words left rest : Stream) (w now after : WorldIs Store) (es fs : List NumberedEvent) (ss ts : List Said) → AllDone facts words w es ss left now
      → AllDone facts left now fs ts rest after → AllDone facts words w (es ++ fs) (ss ++ ts) rest after
  done_more words left rest w now after [] fs [] ts done more =
      subst (λ (v : WorldIs Store). AllDone facts words v fs ts rest after) done.1 (subst (λ (u : Stream). AllDone facts u now fs ts rest after) done.0 more)
  done_more words left rest w now after [] fs (s ∷ ss) ts done more = absurd done
  done_more words left rest w now after (e ∷ es) fs [] ts done more = absurd done
  done_more words left rest w now after (e ∷ es) fs (s ∷ ss) ts done more = (done.0, done.1, done.2, done_more done.0 left rest done.1 now after es fs ss ts done.3 more)

  played_more : (words left rest : Stream) (w now after : WorldIs Store) (es fs : List NumberedEvent) (text text' : List ℕ) → IsPlayed facts numbered words w es left now text
      → IsPlayed facts numbered left now fs rest after text' → IsPlayed facts numbered words w (es ++ fs) rest after (text ++ text')
  played_more words left rest w now after es fs text text' a b = record {
    said = a.said ++ b.said;
    lines = ap (λ (l : List ℕ). l ++ text') a.lines ∙ ap (λ (l : List ℕ). lines_of numbered es a.said ++ l) b.lines ∙ sym (lines_more words left w now es fs a.said b.said a.done);
    done = done_more words left rest w now after es fs a.said b.said a.done b.done;
  }

  pub played_one : (words rest : Stream) (w after : WorldIs Store) (e : NumberedEvent) (s : Said) (text : List ℕ) → IsDone facts words w (act_of e.event) s rest after
      → text ≡ reply_text numbered e s → IsPlayed facts numbered words w (e ∷ []) rest after text
  played_one words rest w after e s text one line = record {
    said = s ∷ [];
    lines = line ∙ sym (append-nil (reply_text numbered e s));
    done = (rest, after, one, (refl, refl));
  }

  module _ (guests slots : ℕ) where
    pub nothing_played : (words : Stream) (w : WorldIs Store) (k k' : Option (List ℕ)) → k' ≡ k → HasPlayed facts numbered guests slots words w [] words w k k'
    nothing_played words w k k' same = record {
      events = [];
      text = [];
      are = refl;
      can = All-nil (CanBe guests slots);
      played = record { said = []; lines = refl; done = (refl, refl) };
      written = appends_none k k' same;
    }

    pub more : (words left rest : Stream) (w now after : WorldIs Store) (es fs : List LineEvent) (k k' k'' : Option (List ℕ)) → HasPlayed facts numbered guests slots words w es left now k k'
        → HasPlayed facts numbered guests slots left now fs rest after k' k'' → HasPlayed facts numbered guests slots words w (es ++ fs) rest after k k''
    more words left rest w now after es fs k k' k'' a b = record {
      events = a.events ++ b.events;
      text = a.text ++ b.text;
      are = map-append line_event a.events b.events ∙ ap (λ (l : List LineEvent). l ++ map line_event b.events) a.are ∙ ap (λ (l : List LineEvent). es ++ l) b.are;
      can = All-append (CanBe guests slots) a.events b.events a.can b.can;
      played = played_more words left rest w now after a.events b.events a.text b.text a.played b.played;
      written = appends_more k k' k'' a.text b.text a.written b.written;
    }

-- ---- one part after another

-- the guests and slots are as many as at first, and what comes first of a course is played
abbrev pub SoFar : {Store : Type 0} → StoreFacts Store → Bool → ℕ → ℕ → Stream → WorldIs Store → List LineEvent → Stream → WorldIs Store → Option (List ℕ) → Option (List ℕ) → Type 0
SoFar facts numbered n m words w course rest now k k' =
    record { guests : length now.tenants ≡ n; slots : facts.slots now.store ≡ m; played : HasPlayed facts numbered n m words w course rest now k k' }

module _ {Store : Type 0} (facts : StoreFacts Store) (numbered : Bool) (guests slots : ℕ) {words left rest : Stream} {w now after : WorldIs Store} {es part : List LineEvent} {k k' k'' : Option (List ℕ)}
    (so_far : HasPlayed facts numbered guests slots words w es left now k k') (guests_then : length now.tenants ≡ guests) (slots_then : facts.slots now.store ≡ slots) where
  -- an outcome in a world of as many guests and slots
  at_first : (g s : ℕ) (r : Result (Unit {0}) Interruption) → g ≡ guests → s ≡ slots → IsOutcome facts numbered g s left now part rest after k' k'' r
      → IsOutcome facts numbered guests slots left now part rest after k' k'' r
  at_first g s r same_guests same_slots is =
      subst (λ (n : ℕ). IsOutcome facts numbered n slots left now part rest after k' k'' r) same_guests
      (subst (λ (n : ℕ). IsOutcome facts numbered g n left now part rest after k' k'' r) same_slots is)

  -- a part of a course is played
  pub next : {g s : ℕ} {done : Unit {0}} {longer : List LineEvent} → IsOutcome facts numbered g s left now part rest after k' k'' (Ok done) → g ≡ guests → s ≡ slots → longer ≡ es ++ part
      → SoFar facts numbered guests slots words w longer rest after k k''
  next {g} {s} {done} one same_guests same_slots is =
      let out = at_first g s (Ok done) same_guests same_slots one in
      record {
        guests = out.guests_stay ∙ guests_then;
        slots = out.slots_stay ∙ slots_then;
        played = subst (λ (l : List LineEvent). HasPlayed facts numbered guests slots words w l rest after k k'') (sym is)
            (more facts numbered guests slots words left rest w now after es part k k' k'' so_far out.done);
      }

  -- a part of a course is not played whole
  pub broken : {g s : ℕ} {e : Interruption} {course : List LineEvent} (fs : List LineEvent) (r : Result (Unit {0}) Interruption) → IsOutcome facts numbered g s left now part rest after k' k'' (Err e) → g ≡ guests → s ≡ slots
      → course ≡ (es ++ part) ++ fs → IsErrAnd r (λ x. x ≡ e) → length w.tenants ≡ guests → facts.slots w.store ≡ slots → IsOutcome facts numbered guests slots words w course rest after k k'' r
  broken fs (Ok done) one same_guests same_slots whole passed guests_first slots_first = absurd passed
  broken {g} {s} {e} fs (Err x) one same_guests same_slots whole passed guests_first slots_first =
      let out = at_first g s (Err e) same_guests same_slots one in
      record {
        done = tt;
        begun = λ want.
            let b = out.begun (ap (λ (y : Interruption). let q : Result (Unit {0}) Interruption = Err y in q) (sym passed) ∙ want) in
            record {
              before = es ++ b.before;
              after = b.after ++ fs;
              whole = whole ∙ append_assoc es part fs ∙ ap (λ (l : List LineEvent). es ++ l) (ap (λ (l : List LineEvent). l ++ fs) b.whole ∙ append_assoc b.before b.after fs)
                  ∙ sym (append_assoc es b.before (b.after ++ fs));
              rest = b.rest;
              now = b.now;
              played = more facts numbered guests slots words left b.rest w now b.now es b.before k k' k'' so_far b.played;
            };
        guests_stay = out.guests_stay ∙ guests_then ∙ sym guests_first;
        slots_stay = out.slots_stay ∙ slots_then ∙ sym slots_first;
      }

-- ---- parts of a list

module _ {X Y : Type 0} (f : X → Y) (h : Y → List LineEvent) (xs : List X) (i : ℕ) (x : X) (inside : i < length xs) (is : x ≡ get_or xs i x) where
  here : f x ≡ get_or (map f xs) i (f x)
  here = ap f is ∙ sym (get_or-map f xs i x (f x) inside)

  within : i < length (map f xs)
  within = omega (arith, inside, length-map xs f)

  pub part_more : flat_map h (take (i + 1) (map f xs)) ≡ flat_map h (take i (map f xs)) ++ h (f x)
  part_more =
      ap (flat_map h) (take_more (map f xs) i (f x) within) ∙ flat_map-append h (take i (map f xs)) (get_or (map f xs) i (f x) ∷ [])
      ∙ ap (λ (l : List LineEvent). flat_map h (take i (map f xs)) ++ l) (flat_map-cons h (get_or (map f xs) i (f x)) [] ∙ append-nil (h (get_or (map f xs) i (f x))))
      ∙ ap (λ (y : Y). flat_map h (take i (map f xs)) ++ h y) (sym here)

  pub parts : flat_map h (map f xs) ≡ (flat_map h (take i (map f xs)) ++ h (f x)) ++ flat_map h (drop (i + 1) (map f xs))
  parts =
      ap (flat_map h) (sym (take-append-drop (i + 1) (map f xs))) ∙ flat_map-append h (take (i + 1) (map f xs)) (drop (i + 1) (map f xs))
      ∙ ap (λ (l : List LineEvent). l ++ flat_map h (drop (i + 1) (map f xs))) part_more

  pub can_at : (P : Y → Type 0) → All P (map f xs) → P (f x)
  can_at P all = subst P (sym here) (all i (f x) within)

-- ---- turns

module _ (es : List LineEvent) where
  abbrev pub turns : ℕ → ℕ → List LineEvent
  turns a n = flat_map (λ (turn : ℕ). es) (range_with_len a n)

  turn_after : (a n : ℕ) → turns a (suc n) ≡ turns a n ++ es
  turn_after a zero = append-nil es
  turn_after a (suc n) = ap (λ (l : List LineEvent). es ++ l) (turn_after (a + 1) n) ∙ sym (append_assoc es (turns (a + 1) n) es)

  pub turn_more : (n : ℕ) → turns 0 (n + 1) ≡ turns 0 n ++ es
  turn_more n =
      let one : n + 1 ≡ suc n = omega arith in
      ap (turns 0) one ∙ turn_after 0 n

  turns_after : (a n i : ℕ) → i ≤ n → (fs : List LineEvent) × (turns a n ≡ turns a i ++ fs)
  turns_after a n zero few = (turns a n, refl)
  turns_after a zero (suc i) few = absurd (omega (arith, few))
  turns_after a (suc n) (suc i) few =
      let rest = turns_after (a + 1) n i (omega (arith, few)) in
      (rest.0, ap (λ (l : List LineEvent). es ++ l) rest.1 ∙ sym (append_assoc es (turns (a + 1) i) rest.0))

  pub turns_left : (n i : ℕ) → i < n → (fs : List LineEvent) × (turns 0 n ≡ (turns 0 i ++ es) ++ fs)
  turns_left n i few =
      let rest = turns_after 0 n (i + 1) (omega (arith, few)) in
      (rest.0, rest.1 ∙ ap (λ (l : List LineEvent). l ++ rest.0) (turn_more i))

-- ---- one event

pub outcome_one : {Store : Type 0} (facts : StoreFacts Store) (numbered : Bool) (words rest : Stream) (w after : WorldIs Store) (e : NumberedEvent) (s : Said) (text : List ℕ) (k k' : Option (List ℕ))
    (r : Result (Unit {0}) Interruption) → CanBe (length w.tenants) (facts.slots w.store) e → IsDone facts words w (act_of e.event) s rest after → text ≡ reply_text numbered e s
    → OnOk r (Appends k k' text) → (r ≡ Err Memory → ⊥) → length after.tenants ≡ length w.tenants
    → IsOutcome facts numbered (length w.tenants) (facts.slots w.store) words w (line_event e ∷ []) rest after k k' r
outcome_one facts numbered words rest w after e s text k k' (Ok x) can one line written no_want guests = record {
  done = record {
    events = e ∷ [];
    text = text;
    are = refl;
    can = All-cons (CanBe (length w.tenants) (facts.slots w.store)) e [] can (All-nil (CanBe (length w.tenants) (facts.slots w.store)));
    played = played_one facts numbered words rest w after e s text one line;
    written = written;
  };
  begun = λ want. absurd (no_want want);
  guests_stay = guests;
  slots_stay = one.slots_stay;
}
outcome_one facts numbered words rest w after e s text k k' (Err x) can one line written no_want guests = record {
  done = tt;
  begun = λ want. absurd (no_want want);
  guests_stay = guests;
  slots_stay = one.slots_stay;
}

-- where nothing was written
pub outcome_none : {Store : Type 0} (facts : StoreFacts Store) (numbered : Bool) (g s : ℕ) (words rest : Stream) (w after : WorldIs Store) (course : List LineEvent) (k : Option (List ℕ))
    (r : Result (Unit {0}) Interruption) (Q : Interruption → Type 0) → IsErrAnd r Q → length after.tenants ≡ length w.tenants → facts.slots after.store ≡ facts.slots w.store
    → IsOutcome facts numbered g s words w course rest after k k r
outcome_none facts numbered g s words rest w after course k (Ok done) Q is guests slots = absurd is
outcome_none facts numbered g s words rest w after course k (Err e) Q is guests slots =
    record {
      done = tt;
      begun = λ want. record { before = []; after = course; whole = refl; rest = words; now = w; played = nothing_played facts numbered g s words w k k refl };
      guests_stay = guests;
      slots_stay = slots;
    }

-- ---- bytes that are handed on

appends_kept : (k k' k'' : Option (List ℕ)) (t : List ℕ) → Appends k k' t → Keeps k' k'' → Appends k k'' t
appends_kept None k' k'' t a kept = tt
appends_kept (Some xs) None k'' t a kept = absurd a
appends_kept (Some xs) (Some ys) None t a kept = absurd kept
appends_kept (Some xs) (Some ys) (Some zs) t a kept = kept ∙ a

pub kept_appends : (k k' k'' : Option (List ℕ)) (t : List ℕ) → Keeps k k' → Appends k' k'' t → Appends k k'' t
kept_appends None k' k'' t kept a = tt
kept_appends (Some xs) None k'' t kept a = absurd kept
kept_appends (Some xs) (Some ys) None t kept a = absurd a
kept_appends (Some xs) (Some ys) (Some zs) t kept a = a ∙ ap (λ (l : List ℕ). l ++ t) kept

pub on_ok : {X E : Type 0} (r : Result X E) {P Q : Type 0} → (P → Q) → OnOk r P → OnOk r Q
on_ok (Ok x) so p = so p
on_ok (Err e) so p = tt

same_interruption : (x y : Interruption) → (let q : Result (Unit {0}) Interruption = Err x in q) ≡ Err y → x ≡ y
same_interruption x y same = ap (λ (r : Result (Unit {0}) Interruption). elim r [ Ok done ↦ x | Err e ↦ e ]) same

-- an outcome, where what is known is handed on behind it
pub outcome_kept : {Store : Type 0} (facts : StoreFacts Store) (numbered : Bool) (g s : ℕ) (words : Stream) (w : WorldIs Store) (course : List LineEvent) (rest : Stream) (after : WorldIs Store)
    (k k' k'' : Option (List ℕ)) (r : Result (Unit {0}) Interruption) → IsOutcome facts numbered g s words w course rest after k k' r → Keeps k' k'' → IsOutcome facts numbered g s words w course rest after k k'' r
outcome_kept facts numbered g s words w course rest after k k' k'' r is kept = record {
  done = on_ok r (λ (p : HasPlayed facts numbered g s words w course rest after k k'). record {
    events = p.events;
    text = p.text;
    are = p.are;
    can = p.can;
    played = p.played;
    written = appends_kept k k' k'' p.text p.written kept;
  }) is.done;
  begun = λ want. let b = is.begun want in record {
    before = b.before;
    after = b.after;
    whole = b.whole;
    rest = b.rest;
    now = b.now;
    played = record {
      events = b.played.events;
      text = b.played.text;
      are = b.played.are;
      can = b.played.can;
      played = b.played.played;
      written = appends_kept k k' k'' b.played.text b.played.written kept;
    };
  };
  guests_stay = is.guests_stay;
  slots_stay = is.slots_stay;
}

-- where what was written can't be handed on, nothing is claimed of it
pub outcome_lost : {Store : Type 0} (facts : StoreFacts Store) (numbered : Bool) (g s : ℕ) (words : Stream) (w : WorldIs Store) (course : List LineEvent) (rest : Stream) (after : WorldIs Store) (k k' : Option (List ℕ))
    (e : Interruption) (r : Result (Unit {0}) Interruption) → IsErrAnd r (λ x. x ≡ e) → (e ≡ Memory → ⊥) → length after.tenants ≡ length w.tenants → facts.slots after.store ≡ facts.slots w.store
    → IsOutcome facts numbered g s words w course rest after k k' r
outcome_lost facts numbered g s words w course rest after k k' e (Ok done) is no_want guests slots = absurd is
outcome_lost facts numbered g s words w course rest after k k' e (Err x) is no_want guests slots = record {
  done = tt;
  begun = λ want. absurd (no_want (sym is ∙ same_interruption x Memory want));
  guests_stay = guests;
  slots_stay = slots;
}
