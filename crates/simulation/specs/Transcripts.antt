-- What is done and answered by a list of events.
use Rattle.std.specs.Prelude.{◌≡◌, ◌↔◌, ◌+◌, ◌≤◌, ℕ, Bool, false, true, List, [], ◌∷◌, ◌++◌, length, map, sum_by, slice_index_or, string_bytes, Option, Some, None, Ok, Err, IfOk, OnOk, OnErr}
use Rattle.std.specs.declared.vec.Vec.{Vec}
use Rattle.std.specs.declared.string.String.{String}
use Rattle.std.specs.declared.alloc.Global.{Global}
use Rattle.world.specs.All.{AllStay, AreBooted, AreHeldByDigest, GuestPage, Happens, IsAdmitted, IsSoundWorld, Item, Machine, Reply, StoreFacts, StoreStays, Stream, TenantIs, WhyNotBooted, WorldIs, Write, accepts, at_page, boot_of, bytes_at, entry_count, guest_at, items_of, log_at, own_items, pages_at, pages_in, private_pages, replied, reply, run, shared_pages, swapped_pages, view_at}
use Rattle.rand_core.specs.Steps.{stream_of, steps_u32}
use Rattle.rand_core.specs.Pcg32Seed.{pcg32_seed}
use Rattle.rand_pcg.specs.Pcg.{pcg32, pcg32_of_seed}
use Rattle.machine.specs.Boot.{boot_machine}
use Rattle.swapstore.specs.Memories.{Inverts}
use Rattle.reclaim.specs.declared.level.Level.TheVariants.{High}
use Rattle.dump.specs.Dumps.{dump_text}
use Rattle.dump.specs.Steps.{step_count}
use Rattle.std.specs.Io.KnownBytes.{Appends}
use Rattle.script.specs.Courses.{LineEvent}
use Rattle.script.specs.Views.{event_view}
use Rattle.world.specs.declared.books.BookCounts.{BookCounts}
use Rattle.booting.specs.declared.asked.Config.{Config}
use Rattle.booting.specs.declared.asked.NewGuest.{NewGuest}
use Rattle.world.specs.declared.debugging.DebugError.TheVariants.{NoPlace}
use Rattle.world.specs.declared.events.Answer.TheVariants as answer
use Rattle.world.specs.declared.events.Event.TheVariants as happening
use Rattle.simulation.specs.declared.acts.Act.{Act}
use Rattle.simulation.specs.declared.acts.Act.TheVariants as act
use Rattle.simulation.specs.declared.pages.PageCounts.{PageCounts}
use Rattle.simulation.specs.declared.said.Said.{Said}
use Rattle.simulation.specs.declared.said.Said.TheVariants as said
use Rattle.simulation.specs.declared.transcript.SimError.{SimError}
use Rattle.simulation.specs.declared.transcript.SimError.TheVariants.{Boot, Memory, Output}
use Rattle.simulation.specs.Acts.{IsHarmless, act_of}
use Rattle.simulation.specs.Lines.{NumberedEvent, lines_of}
use Rattle.simulation.specs.Pages.{given_pages}
use Rattle.guest_pages.specs.declared.page.Page.{Page}

-- ---- one act

-- What the books count: the free frames, those of private pages and the shared ones are all frames.
pub record AreCounts {Store : Type 0} (w : WorldIs Store) (all_slots : ℕ) (counts : BookCounts) : Type 0 where
  pub frames : counts.frames ≡ w.frames
  pub free : counts.free ≡ length w.pool.free
  pub private : counts.private ≡ sum_by private_pages (map pages_in w.tenants)
  pub shared : counts.shared ≡ entry_count w.shares.entries
  pub references : counts.references ≡ sum_by shared_pages (map pages_in w.tenants)
  pub swapped : counts.swapped ≡ sum_by swapped_pages (map pages_in w.tenants)
  pub slots : counts.slots ≡ all_slots
  pub all_frames : counts.free + counts.private + counts.shared ≡ counts.frames
  pub few_used : counts.swapped ≤ counts.slots

-- Where the pages of a guest are: all of them together are the guest's pages.
pub record ArePlaced (pages : List Page) (counts : PageCounts) : Type 0 where
  pub private : counts.private ≡ private_pages pages
  pub shared : counts.shared ≡ shared_pages pages
  pub swapped : counts.swapped ≡ swapped_pages pages
  pub given : counts.given ≡ given_pages pages
  pub all : counts.private + counts.shared + counts.swapped + counts.given + counts.zero ≡ length pages

-- a text is the dump of a guest of a world, with all steps since its boot
abbrev pub IsDumpIn : {Store : Type 0} → WorldIs Store → ℕ → List ℕ → Type 0
IsDumpIn w g text = (t : TenantIs) → text ≡ dump_text (view_at w g t) (step_count (items_of (guest_at w g t))) None

-- A byte that lies in a slot of the store is inverted, and of the world nothing else has changed; what was last written to each slot stays
-- known. The store is honest no more; it stays true to digests where what lies there now has another SHA-256 than what was last written, or is
-- that.
pub record DamagesSlot {Store : Type 0} (facts : StoreFacts Store) (w : WorldIs Store) (slot byte : ℕ) (w' : WorldIs Store) : Type 0 where
  pub inverted : Inverts byte (facts.gives w.store slot) (facts.gives w'.store slot)
  pub others : (other : ℕ) (bytes : List ℕ) → (other ≡ slot → ⊥) → facts.gives w'.store other bytes ↔ facts.gives w.store other bytes
  pub written_stay : AllStay (facts.held w.store) (facts.held w'.store)
  pub failures_stay : facts.failed w'.store ≡ facts.failed w.store
  pub dishonest : facts.honest w'.store → ⊥
  pub told : facts.true_to_digests w.store → ((bytes : List ℕ) → facts.gives w'.store slot bytes → AreHeldByDigest (facts.held w.store slot) bytes) → facts.true_to_digests w'.store
  pub beside : w' ≡ record w { store = w'.store }

-- What is answered to an act, and what it makes of the world: what `World::apply` answers to an event, at a tax of 75 percent and by the
-- words that a generator gives next (`Happens`); what is read of the world as it is; or that a slot is damaged, or that there was no memory for it and nothing has changed. These draw no word. How
-- often pages have moved is counted beside the world: its definition has no such number, and nothing is said of what they are.
abbrev pub IsTold : {Store : Type 0} → (facts : StoreFacts Store) → Stream → WorldIs Store → Act → Said → Stream → WorldIs Store → Type 0
IsTold facts words w (act.World e) (said.Answered a) rest w' = Happens facts 75 words w e a rest w'
IsTold facts words w act.Skip said.Skipped rest w' = (w' ≡ w) × (rest ≡ words)
IsTold facts words w act.Audit (said.Counted counts) rest w' = AreCounts w (facts.slots w.store) counts × (w' ≡ w) × (rest ≡ words)
IsTold facts words w (act.Pages g) (said.Placed counts) rest w' = ((t : TenantIs) → ArePlaced (pages_at w g t) counts) × (w' ≡ w) × (rest ≡ words)
IsTold facts words w (act.Dump g) (said.Dumped done) rest w' =
    IfOk done (λ text. facts.true_to_digests w.store → IsDumpIn w g (string_bytes text)) × (w' ≡ w) × (rest ≡ words)
IsTold facts words w (act.Stats g) (said.Moved counts) rest w' = (w' ≡ w) × (rest ≡ words)
IsTold facts words w (act.Damage slot byte) (said.Damaged done) rest w' =
    OnOk done (DamagesSlot facts w slot byte w') × OnErr done (w' ≡ w) × (rest ≡ words)
IsTold facts words w _ _ rest w' = ⊥

-- the items that an act adds to the log of guest h, by what is answered
abbrev pub added : ℕ → Act → Said → List Item
added h (act.World e) (said.Answered a) = own_items h e a
added h _ _ = []

-- An act is done. Each log has the items more that it adds, the machines that the guests booted and the number of slots are as before, and
-- the world is sound. Where the store is true to digests after it, it was before; unless the act damages a slot, it is as it was.
pub record IsDone {Store : Type 0} (facts : StoreFacts Store) (words : Stream) (w : WorldIs Store) (a : Act) (s : Said) (rest : Stream) (w' : WorldIs Store) : Type 0 where
  pub told : IsTold facts words w a s rest w'
  pub logs : (h : ℕ) → log_at w'.tenants h ≡ log_at w.tenants h ++ added h a s
  pub boots : map boot_of w'.tenants ≡ map boot_of w.tenants
  pub slots_stay : facts.slots w'.store ≡ facts.slots w.store
  pub trusted_before : facts.true_to_digests w'.store → facts.true_to_digests w.store
  pub trust : IsHarmless a → (facts.true_to_digests w'.store ↔ facts.true_to_digests w.store)
  pub sound : IsSoundWorld facts w'

-- ---- many

-- events of a script are done one after another, each in the world that the one before it left, and by the words that it left
abbrev pub AllDone : {Store : Type 0} → (facts : StoreFacts Store) → Stream → WorldIs Store → List NumberedEvent → List Said → Stream → WorldIs Store → Type 0
AllDone facts words w [] [] rest w' = (rest ≡ words) × (w' ≡ w)
AllDone facts words w [] (s ∷ ss) rest w' = ⊥
AllDone facts words w (e ∷ es) [] rest w' = ⊥
AllDone {Store} facts words w (e ∷ es) (s ∷ ss) rest w' =
    (left : Stream) × (mid : WorldIs Store) × IsDone facts words w (act_of e.event) s left mid × AllDone facts left mid es ss rest w'

-- events are done in a world by the words of a generator, and the text is the replies to them
pub record IsPlayed {Store : Type 0} (facts : StoreFacts Store) (numbered : Bool) (words : Stream) (w : WorldIs Store) (events : List NumberedEvent) (rest : Stream) (w' : WorldIs Store) (text : List ℕ) : Type 0 where
  pub said : List Said
  pub lines : text ≡ lines_of numbered events said
  pub done : AllDone facts words w events said rest w'

-- ---- what is shown of guests

-- What is answered to an act shows of the guests what is so of these machines, which have made so many steps: the reply to an item, so the
-- console's output; the bytes of memory that a debugger reads; whether the bytes have a place that it wants; and the dump.
pub record Shows (machine : ℕ → Machine) (steps : ℕ → ℕ) (a : Act) (s : Said) : Type 0 where
  pub replied_as : (g : ℕ) (item : Item) (r : Reply) → a ≡ act.World (happening.Input g item) → s ≡ said.Answered (answer.Input (Ok r)) →
      replied r ≡ reply item.what (machine g)
  pub read : (g address count : ℕ) (bytes : Vec ℕ Global) → a ≡ act.World (happening.Probe g address count) → s ≡ said.Answered (answer.Probed (Ok bytes)) →
      bytes_at (machine g) address count ≡ Some bytes.items
  pub not_read : (g address count : ℕ) → a ≡ act.World (happening.Probe g address count) → s ≡ said.Answered (answer.Probed (Err NoPlace)) →
      bytes_at (machine g) address count ≡ None
  pub not_written : (g address : ℕ) (bytes : Vec ℕ Global) → a ≡ act.World (happening.Write g address bytes) → s ≡ said.Answered (answer.Written (Err NoPlace)) →
      accepts (Write address bytes.items) (machine g) ≡ false
  pub dumped : (g : ℕ) (text : String Global) → a ≡ act.Dump g → s ≡ said.Dumped (Ok text) → string_bytes text ≡ dump_text (machine g) (steps g) None

-- What is answered to each act shows of a guest what is so of the machine that it boots, run alone on the items of its log at that event:
-- those that its own earlier events have added.
abbrev pub AllShow : Machine → List Machine → (ℕ → List Item) → List NumberedEvent → List Said → Type 0
AllShow any boots logs [] ss = Unit {0}
AllShow any boots logs (e ∷ es) [] = Unit {0}
AllShow any boots logs (e ∷ es) (s ∷ ss) =
    Shows (λ g. run (logs g) (slice_index_or boots g any)) (λ g. step_count (logs g)) (act_of e.event) s
    × AllShow any boots (λ h. logs h ++ added h (act_of e.event) s) es ss

-- the machine that a guest's image boots in a memory of its own
abbrev pub machine_of : NewGuest → Machine
machine_of guest = boot_machine guest.profile guest.image.value guest.pages

-- ---- the whole

-- a world as it is booted over a store
pub record IsFirst {Store : Type 0} (facts : StoreFacts Store) (config : Config) (guests : List NewGuest) (store : Store) (w : WorldIs Store) : Type 0 where
  pub booted : AreBooted config.log_runs guests w.tenants
  pub frames : w.frames ≡ config.frames
  pub level : w.level ≡ High
  pub hints : (page : GuestPage) → at_page w.shares.hints page ≡ None
  pub store_stays : StoreStays facts store w.store
  pub admitted : config.admit ≡ true → IsAdmitted config.frames (facts.slots store) w.tenants
  pub sound : IsSoundWorld facts w

-- the words of the generator of a seed, PCG-XSH-RR with 64 bits of state (O'Neill, "PCG: a family of simple fast space-efficient
-- statistically good algorithms for random number generation")
abbrev pub words_of : ℕ → Stream
words_of seed = stream_of (steps_u32 pcg32) (pcg32_of_seed (pcg32_seed 16 seed))

-- The text is the replies to the events, done one after another from a world that was booted with these guests over a
-- store, by the words of the generator of a seed; and where the store is true to digests after them, what they show of guests is of the
-- machines that the guests boot, each run alone on its own items.
pub record IsTranscript {Store : Type 0} (facts : StoreFacts Store) (numbered : Bool) (config : Config) (seed : ℕ) (guests : List NewGuest) (store : Store) (events : List NumberedEvent) (text : List ℕ) : Type 0 where
  pub first : WorldIs Store
  pub last : WorldIs Store
  pub rest : Stream
  pub is_first : IsFirst facts config guests store first
  pub played : IsPlayed facts numbered (words_of seed) first events rest last text
  pub shows : facts.true_to_digests last.store → (any : Machine) → AllShow any (map machine_of guests) (λ h. []) events played.said

-- what an event of a script is, with the number of its line
abbrev pub line_event : NumberedEvent → LineEvent
line_event e = record { line = e.line; event = event_view e.event }

-- what is written behind known bytes is the transcript of a course of events
pub record WritesTranscript {Store : Type 0} (facts : StoreFacts Store) (numbered : Bool) (config : Config) (seed : ℕ) (guests : List NewGuest) (store : Store) (course : List LineEvent) (known known' : Option (List ℕ)) : Type 0 where
  pub events : List NumberedEvent
  pub text : List ℕ
  pub are : map line_event events ≡ course
  pub transcript : IsTranscript facts numbered config seed guests store events text
  pub written : Appends known known' text

-- it is the transcript of the first events of a course
pub record BreaksOff {Store : Type 0} (facts : StoreFacts Store) (numbered : Bool) (config : Config) (seed : ℕ) (guests : List NewGuest) (store : Store) (course : List LineEvent) (known known' : Option (List ℕ)) : Type 0 where
  pub before : List LineEvent
  pub after : List LineEvent
  pub whole : course ≡ before ++ after
  pub transcript : WritesTranscript facts numbered config seed guests store before known known'

-- why a transcript is not whole: the world is not booted, a request for memory was refused, or the writer failed
abbrev pub WhyNotDone : Config → ℕ → List NewGuest → SimError → Type 0
WhyNotDone config slots guests (Boot error) = WhyNotBooted config slots guests error
WhyNotDone config slots guests Memory = Unit {0}
WhyNotDone config slots guests Output = Unit {0}
