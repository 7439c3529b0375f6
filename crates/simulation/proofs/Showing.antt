-- What is shown of guests, by what is done.
use Rattle.std.proofs.Common.{◌≡◌, refl, sym, ap, subst, ◌∙◌, arith, ℕ, zero, suc, ◌<◌, All, List, [], ◌∷◌, ◌++◌, Result, Ok, Err, IsErrOf, OnOk, Option, Some, None, Bool, false, length, map, get_or, string_bytes}
use Rattle.std.proofs.lemmas.List.{length-map}
use Rattle.std.proofs.lemmas.List.Elements.{All-head, All-tail}
use Rattle.std.specs.declared.alloc.Global.{Global}
use Rattle.std.specs.declared.string.String.{String}
use Rattle.std.specs.declared.vec.Vec.{Vec}
use Rattle.world.specs.All.{AreBooted, Item, Machine, Reply, StoreFacts, Stream, TenantIs, WorldIs, Write, accepts, boot_of, bytes_at, items_of, log_at, replied, reply, run, view_of}
use Rattle.dump.specs.Dumps.{dump_text}
use Rattle.dump.specs.Steps.{step_count}
use Rattle.script.specs.Actions.{Block}
use Rattle.script.specs.Courses.{LineEvent, course_of}
use Rattle.booting.specs.declared.asked.NewGuest.{NewGuest}
use Rattle.world.specs.declared.debugging.DebugError.TheVariants.{NoPlace}
use Rattle.world.specs.declared.events.Answer.TheVariants as answer
use Rattle.world.specs.declared.events.Event.TheVariants as happening
use Rattle.world.proofs.Victims.{map_at, some_tenant}
use Rattle.world.proofs.Worlds.{its_log}
use Rattle.simulation.specs.declared.acts.Act.{Act}
use Rattle.simulation.specs.declared.acts.Act.TheVariants as act
use Rattle.simulation.specs.declared.said.Said.{Said}
use Rattle.simulation.specs.declared.said.Said.TheVariants as said
use Rattle.simulation.specs.Acts.{IsDoable, act_of}
use Rattle.simulation.specs.Lines.{NumberedEvent}
use Rattle.simulation.specs.Playing.{CanBe, HasPlayed, IsOutcome}
use Rattle.simulation.specs.Transcripts.{BreaksOff, IsTold, AllDone, IsFirst, Shows, AllShow, WritesTranscript, added, machine_of, words_of}
use Rattle.booting.specs.declared.asked.Config.{Config}
use Rattle.simulation.specs.declared.blocks.Interruption.{Interruption}
use Rattle.simulation.specs.declared.blocks.Interruption.TheVariants.{Memory}
use Rattle.simulation.specs.declared.transcript.SimError.{SimError}
use Rattle.simulation.proofs.Playing.{for_act}

-- ---- one act

-- the view of a guest is the machine that it booted, after the items of its log
its_view : (ts : List TenantIs) (g : ℕ) (t : TenantIs) (any : Machine) → g < length ts → view_of (get_or ts g t).guest ≡ run (log_at ts g) (get_or (map boot_of ts) g any)
its_view ts g t any inside =
    ap (λ (l : List Item). run l (boot_of (get_or ts g t))) (sym (its_log ts g t inside)) ∙ ap (run (log_at ts g)) (sym (map_at boot_of ts g t any inside))

module _ {Store : Type 0} (facts : StoreFacts Store) where
  module _ (any : Machine) (words rest : Stream) (w w' : WorldIs Store) (a : Act) (s : Said) (all_slots : ℕ) (trust : facts.true_to_digests w.store) (can : IsDoable (length w.tenants) all_slots a)
      (told : IsTold facts words w a s rest w') where
    of : (a' : Act) (s' : Said) → a ≡ a' → s ≡ s' → IsTold facts words w a' s' rest w'
    of a' s' is_a is_s =
        subst (λ (b : Act). IsTold facts words w b s' rest w') is_a (subst (λ (u : Said). IsTold facts words w a u rest w') is_s told)

    does : (a' : Act) → a ≡ a' → IsDoable (length w.tenants) all_slots a'
    does a' is_a = subst (IsDoable (length w.tenants) all_slots) is_a can

    machine : ℕ → Machine
    machine g = run (log_at w.tenants g) (get_or (map boot_of w.tenants) g any)

    replied_as : (g : ℕ) (item : Item) (r : Reply) → a ≡ act.World (happening.Input g item) → s ≡ said.Answered (answer.Input (Ok r)) → replied r ≡ reply item.what (machine g)
    unfolding machine
    replied_as g item r is_a is_s =
        let inside : g < length w.tenants = (does (act.World (happening.Input g item)) is_a).1 in
        let t = some_tenant w.tenants g inside in
        ((of (act.World (happening.Input g item)) (said.Answered (answer.Input (Ok r))) is_a is_s).answered t).reply trust ∙ ap (reply item.what) (its_view w.tenants g t any inside)

    read : (g address count : ℕ) (bytes : Vec ℕ Global) → a ≡ act.World (happening.Probe g address count) → s ≡ said.Answered (answer.Probed (Ok bytes)) → bytes_at (machine g) address count ≡ Some bytes.items
    unfolding machine
    read g address count bytes is_a is_s =
        let inside : g < length w.tenants = (does (act.World (happening.Probe g address count)) is_a).1 in
        let t = some_tenant w.tenants g inside in
        ap (λ (m : Machine). bytes_at m address count) (sym (its_view w.tenants g t any inside))
        ∙ (of (act.World (happening.Probe g address count)) (said.Answered (answer.Probed (Ok bytes))) is_a is_s).answered.1 t trust

    not_read : (g address count : ℕ) → a ≡ act.World (happening.Probe g address count) → s ≡ said.Answered (answer.Probed (Err NoPlace)) → bytes_at (machine g) address count ≡ None
    unfolding machine
    not_read g address count is_a is_s =
        let inside : g < length w.tenants = (does (act.World (happening.Probe g address count)) is_a).1 in
        let t = some_tenant w.tenants g inside in
        ap (λ (m : Machine). bytes_at m address count) (sym (its_view w.tenants g t any inside))
        ∙ ((of (act.World (happening.Probe g address count)) (said.Answered (answer.Probed (Err NoPlace))) is_a is_s).answered t).no_place refl trust

    not_written : (g address : ℕ) (bytes : Vec ℕ Global) → a ≡ act.World (happening.Write g address bytes) → s ≡ said.Answered (answer.Written (Err NoPlace))
        → accepts (Write address bytes.items) (machine g) ≡ false
    unfolding machine
    not_written g address bytes is_a is_s =
        let inside : g < length w.tenants = (does (act.World (happening.Write g address bytes)) is_a).1 in
        let t = some_tenant w.tenants g inside in
        ap (accepts (Write address bytes.items)) (sym (its_view w.tenants g t any inside))
        ∙ (((of (act.World (happening.Write g address bytes)) (said.Answered (answer.Written (Err NoPlace))) is_a is_s).answered t).no_place trust).0 refl

    dumped : (g : ℕ) (text : String Global) → a ≡ act.Dump g → s ≡ said.Dumped (Ok text) → string_bytes text ≡ dump_text (machine g) (step_count (log_at w.tenants g)) None
    unfolding machine
    dumped g text is_a is_s =
        let inside : g < length w.tenants = does (act.Dump g) is_a in
        let t = some_tenant w.tenants g inside in
        (of (act.Dump g) (said.Dumped (Ok text)) is_a is_s).0 trust t ∙ ap (λ (m : Machine). dump_text m (step_count (items_of (get_or w.tenants g t))) None) (its_view w.tenants g t any inside)
        ∙ ap (λ (l : List Item). dump_text (machine g) (step_count l) None) (sym (its_log w.tenants g t inside))

    pub shown : Shows (λ g. run (log_at w.tenants g) (get_or (map boot_of w.tenants) g any)) (λ g. step_count (log_at w.tenants g)) a s
    unfolding machine
    shown = record { replied_as = replied_as; read = read; not_read = not_read; not_written = not_written; dumped = dumped }

  -- ---- many

  -- a store that is true to digests after events was before them
  trusted_first : (words rest : Stream) (w last : WorldIs Store) (es : List NumberedEvent) (ss : List Said) → AllDone facts words w es ss rest last → facts.true_to_digests last.store → facts.true_to_digests w.store
  trusted_first words rest w last [] [] done trust = subst (λ (v : WorldIs Store). facts.true_to_digests v.store) done.1 trust
  trusted_first words rest w last [] (s ∷ ss) done trust = absurd done
  trusted_first words rest w last (e ∷ es) [] done trust = absurd done
  trusted_first words rest w last (e ∷ es) (s ∷ ss) done trust = done.2.trusted_before (trusted_first done.0 rest done.1 last es ss done.3 trust)

  pub all_shown : (any : Machine) (words rest : Stream) (w last : WorldIs Store) (es : List NumberedEvent) (ss : List Said) → AllDone facts words w es ss rest last → facts.true_to_digests last.store
      → All (CanBe (length w.tenants) (facts.slots w.store)) es → AllShow any (map boot_of w.tenants) (log_at w.tenants) es ss
  all_shown any words rest w last [] ss done trust each = tt
  all_shown any words rest w last (e ∷ es) [] done trust each = tt
  all_shown any words rest w last (e ∷ es) (s ∷ ss) done trust each =
      let mid = done.1 in
      let one = done.2 in
      let is : CanBe (length w.tenants) (facts.slots w.store) e = All-head (CanBe (length w.tenants) (facts.slots w.store)) e es each in
      let counts : length w.tenants ≡ length mid.tenants = omega (arith, ap length one.boots, length-map w.tenants boot_of, length-map mid.tenants boot_of) in
      let others : All (CanBe (length mid.tenants) (facts.slots mid.store)) es =
      subst (λ (n : ℕ). All (CanBe n (facts.slots mid.store)) es) counts
      (subst (λ (n : ℕ). All (CanBe (length w.tenants) n) es) (sym one.slots_stay) (All-tail (CanBe (length w.tenants) (facts.slots w.store)) e es each)) in (
        shown any words done.0 w mid (act_of e.event) s (facts.slots w.store) (one.trusted_before (trusted_first done.0 rest mid last es ss done.3 trust))
            (for_act (length w.tenants) (facts.slots w.store) e.event is).act one.told,
        subst (λ (boots : List Machine). AllShow any boots (λ h. log_at w.tenants h ++ added h (act_of e.event) s) es ss) one.boots
            (subst (λ (logs : ℕ → List Item). AllShow any (map boot_of mid.tenants) logs es ss) (λ i h. one.logs h i)
            (all_shown any done.0 rest mid last es ss done.3 trust others)),
      )

-- ---- guests that have booted

machines_of : (guests : List NewGuest) (ts : List TenantIs) → length ts ≡ length guests
    → ((g : ℕ) (guest : NewGuest) (t : TenantIs) → g < length guests → boot_of (get_or ts g t) ≡ machine_of (get_or guests g guest)) → map boot_of ts ≡ map machine_of guests
machines_of [] [] same each = refl
machines_of [] (t ∷ ts) same each = absurd (omega (arith, same))
machines_of (guest ∷ guests) [] same each = absurd (omega (arith, same))
machines_of (guest ∷ guests) (t ∷ ts) same each =
    let one : boot_of t ≡ machine_of guest = each 0 guest t (omega arith) in
    let rest = machines_of guests ts (omega (arith, same)) (λ g a d inside. each (suc g) a d (omega (arith, inside))) in
    λ i. one i ∷ rest i

booted_machines : (runs : ℕ) (guests : List NewGuest) (ts : List TenantIs) → AreBooted runs guests ts → map boot_of ts ≡ map machine_of guests
booted_machines runs guests ts b = machines_of guests ts b.count (λ g guest t inside. (b.each g guest t inside).boot)

none_logged : (ts : List TenantIs) (h : ℕ) → ((g : ℕ) (t : TenantIs) → g < length ts → items_of (get_or ts g t) ≡ []) → log_at ts h ≡ []
none_logged [] h each = refl
none_logged (t ∷ ts) zero each = each 0 t (omega arith)
none_logged (t ∷ ts) (suc h) each = none_logged ts h (λ g d inside. each (suc g) d (omega (arith, inside)))

booted_logs : (runs : ℕ) (guests : List NewGuest) (ts : List TenantIs) → AreBooted runs guests ts → (h : ℕ) → log_at ts h ≡ []
booted_logs runs [] [] b h = refl
booted_logs runs [] (t ∷ ts) b h = absurd (omega (arith, b.count))
booted_logs runs (guest ∷ guests) ts b h = none_logged ts h (λ g t inside. (b.each g guest t (omega (arith, inside, b.count))).items)

-- from a world as it is booted
pub from_boot : (any : Machine) (runs : ℕ) (guests : List NewGuest) (ts : List TenantIs) (es : List NumberedEvent) (ss : List Said) → AreBooted runs guests ts
    → AllShow any (map boot_of ts) (log_at ts) es ss → AllShow any (map machine_of guests) (λ h. []) es ss
from_boot any runs guests ts es ss booted all =
    subst (λ (boots : List Machine). AllShow any boots (λ h. []) es ss) (booted_machines runs guests ts booted)
    (subst (λ (logs : ℕ → List Item). AllShow any (map boot_of ts) logs es ss) (λ i h. booted_logs runs guests ts booted h i) all)

-- ---- what is written

module _ {Store : Type 0} (facts : StoreFacts Store) (numbered : Bool) (config : Config) (seed : ℕ) (guests : List NewGuest) (store : Store) (first : WorldIs Store) (is_first : IsFirst facts config guests store first) where
  transcript_of : (last : WorldIs Store) (rest : Stream) (course : List LineEvent) (k k' : Option (List ℕ))
      → HasPlayed facts numbered (length guests) (facts.slots first.store) (words_of seed) first course rest last k k' → WritesTranscript facts numbered config seed guests store course k k'
  transcript_of last rest course k k' has = record {
    events = has.events;
    text = has.text;
    are = has.are;
    transcript = record {
      first = first;
      last = last;
      rest = rest;
      is_first = is_first;
      played = has.played;
      shows = λ trust any. from_boot any config.log_runs guests first.tenants has.events has.played.said is_first.booted
          (all_shown facts any (words_of seed) rest first last has.events has.played.said has.played.done trust
          (subst (λ (n : ℕ). All (CanBe n (facts.slots first.store)) has.events) (sym is_first.booted.count) has.can));
    };
    written = has.written;
  }

  -- an outcome in a world of as many guests, by these words
  module _ (count : ℕ) (words rest : Stream) (last : WorldIs Store) (blocks : List Block) (k k' : Option (List ℕ)) (r : Result (Unit {0}) Interruption) (same_count : count ≡ length guests)
      (same_words : words ≡ words_of seed) (out : IsOutcome facts numbered count (facts.slots first.store) words first (course_of count blocks) rest last k k' r) where
    outcome : IsOutcome facts numbered (length guests) (facts.slots first.store) (words_of seed) first (course_of (length guests) blocks) rest last k k' r
    outcome =
        subst (λ (n : ℕ). IsOutcome facts numbered n (facts.slots first.store) (words_of seed) first (course_of n blocks) rest last k k' r) same_count
        (subst (λ (from : Stream). IsOutcome facts numbered count (facts.slots first.store) from first (course_of count blocks) rest last k k' r) same_words out)

    pub whole_of : (done : Unit {0}) → r ≡ Ok done → WritesTranscript facts numbered config seed guests store (course_of (length guests) blocks) k k'
    whole_of done is =
        transcript_of last rest (course_of (length guests) blocks) k k'
        (subst (λ (q : Result (Unit {0}) Interruption). OnOk q (HasPlayed facts numbered (length guests) (facts.slots first.store) (words_of seed) first (course_of (length guests) blocks) rest last k k'))
        is outcome.done)

    pub broken_of : IsErrOf r Memory → BreaksOff facts numbered config seed guests store (course_of (length guests) blocks) k k'
    broken_of want =
        let begun = outcome.begun want in
        record { before = begun.before; after = begun.after; whole = begun.whole; transcript = transcript_of begun.now begun.rest begun.before k k' begun.played }

pub same_error : (e e' : SimError) → (let r : Result (Unit {0}) SimError = Err e in r) ≡ Err e' → e ≡ e'
same_error e e' same = ap (λ (r : Result (Unit {0}) SimError). elim r [ Ok done ↦ e | Err x ↦ x ]) same
