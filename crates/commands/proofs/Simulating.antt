-- Events of scripts that can be done.
use Rattle.std.proofs.Common.{◌≡◌, refl, inr, sym, ap, subst, ◌∙◌, Result, Ok, Err, IfOk, IfErr, OnOk, Option, Bool, arith, ℕ, zero, suc, ◌<◌, ◌≤◌, true, nat_lt, List, [], ◌∷◌, All, length, map, slice_get, ltb-true, leb-true}
use Rattle.std.proofs.lemmas.Bool.{and_parts}
use Rattle.std.proofs.lemmas.List.{length-map}
use Rattle.std.specs.List.{list_all}
use Rattle.std.proofs.lemmas.List.Elements.{All-nil, All-cons}
use Rattle.script.specs.Actions.{Action, Single, StepEach, RunEach, ActionLine, Block}
use Rattle.script.specs.Courses.{course_of}
use Rattle.script.specs.Events.{Event}
use Rattle.script.specs.Events as event
use Rattle.script.specs.declared.header.GuestLine.{GuestLine}
use Rattle.script.specs.Allowed.{is_allowed, has_pages, may_be_done}
use Rattle.script.specs.Headers as headers
use Rattle.script.specs.Views.{block_view, guest_view, script_view}
use Rattle.script.specs.declared.action.Block.{Block as BlockCode}
use Rattle.script.specs.declared.header.Script.{Script as ScriptCode}
use Rattle.booting.specs.declared.asked.NewGuest.{NewGuest}
use Rattle.world.specs.Boots.{AreAdmitted, AreWithinLimits}
use Rattle.simulation.specs.Acts.{IsFor, IsActionFor, IsLineFor, IsBlockFor}
use Rattle.script.specs.Scripts.{Script, script_of}
use Rattle.commands.specs.declared.fault.Fault.{Fault}
use Rattle.commands.specs.declared.fault.Fault.TheVariants as fault
use Rattle.tenant.specs.declared.loading.BootError.TheVariants as unbooted
use Rattle.commands.specs.declared.sim.SimFault.{SimFault}
use Rattle.commands.specs.declared.sim.SimFault.TheVariants as sim
use Rattle.commands.specs.Faults.{HasNoProfile, IsBootFault, IsLoadFault, IsRefusal, IsSimFault, IsToldFault}
use Rattle.mips_cp0.specs.declared.profile.Profile.{Profile}
use Rattle.commands.specs.Sims.{IsOver, IsProfileOf, IsSimulation, config_of, line_numbers, numbers_of}

has_them : (lines : List headers.GuestLine) (g pages : ℕ) → has_pages (slice_get lines g) pages ≡ true → g < length lines
has_them [] g pages e = absurd (cc)
has_them (line ∷ lines) zero pages e = omega arith
has_them (line ∷ lines) (suc g) pages e = omega (arith, has_them lines g pages e)

inside : (guests : List GuestLine) (g : ℕ) → nat_lt g (length (map guest_view guests)) ≡ true → g < length guests
inside guests g e = omega (arith, ltb-true g (length (map guest_view guests)) e, length-map guests guest_view)

one_for : (guests : List GuestLine) (slots : ℕ) (e : Event) → is_allowed (map guest_view guests) slots e ≡ true → IsFor (length guests) slots e
unfolding is_allowed
one_for guests slots (event.Step guest count) allowed = inside guests guest allowed
one_for guests slots (event.Run guest count) allowed = inside guests guest allowed
one_for guests slots (event.In guest bytes) allowed = inside guests guest allowed
one_for guests slots (event.Drain guest) allowed = inside guests guest allowed
one_for guests slots (event.Target guest pages) allowed = omega (arith, has_them (map guest_view guests) guest pages allowed, length-map guests guest_view)
one_for guests slots (event.Poke guest register value) allowed =
    let parts = and_parts _ _ allowed in
    (inside guests guest parts.0, omega (arith, leb-true register 37 parts.1))
one_for guests slots (event.Write guest address bytes) allowed =
    let parts = and_parts _ _ allowed in
    let sizes = and_parts _ _ parts.1 in
    let some : 1 ≤ length bytes = leb-true 1 (length bytes) sizes.0 in
    (inside guests guest parts.0, omega (arith, some), leb-true (length bytes) 1024 sizes.1)
one_for guests slots (event.Probe guest address count) allowed =
    let parts = and_parts _ _ allowed in
    let sizes = and_parts _ _ parts.1 in
    let some : 1 ≤ count = leb-true 1 count sizes.0 in
    (inside guests guest parts.0, omega (arith, some), leb-true count 1024 sizes.1)
one_for guests slots (event.Fault guest) allowed = inside guests guest allowed
one_for guests slots (event.Scan guest page) allowed = inside guests guest allowed
one_for guests slots (event.Evict guest page) allowed = inside guests guest allowed
one_for guests slots event.Sample allowed = tt
one_for guests slots event.Level allowed = tt
one_for guests slots event.Audit allowed = tt
one_for guests slots (event.AuditGuest guest) allowed = inside guests guest allowed
one_for guests slots (event.Dump guest) allowed = inside guests guest allowed
one_for guests slots (event.Stats guest) allowed = inside guests guest allowed
one_for guests slots (event.Damage slot byte) allowed =
    let parts = and_parts _ _ allowed in
    (ltb-true slot slots parts.0, omega (arith, leb-true byte 4095 parts.1))

action_for : (guests : List GuestLine) (slots : ℕ) (a : Action) → may_be_done (map guest_view guests) slots a ≡ true → IsActionFor (length guests) slots a
unfolding may_be_done
action_for guests slots (Single e) allowed = one_for guests slots e allowed
action_for guests slots (StepEach count) allowed = tt
action_for guests slots (RunEach count) allowed = tt

lines_for : (guests : List GuestLine) (slots : ℕ) (lines : List ActionLine) → list_all (λ line. may_be_done (map guest_view guests) slots line.action) lines ≡ true
    → All (IsLineFor (length guests) slots) lines
lines_for guests slots [] allowed = All-nil (IsLineFor (length guests) slots)
lines_for guests slots (line ∷ lines) allowed =
    let parts = and_parts _ _ allowed in
    All-cons (IsLineFor (length guests) slots) line lines (action_for guests slots line.action parts.0) (lines_for guests slots lines parts.1)

-- blocks that a header allows can be done in its world
pub all_for : (guests : List GuestLine) (slots : ℕ) (blocks : List Block)
    → list_all (λ (block : Block). list_all (λ (line : ActionLine). may_be_done (map guest_view guests) slots line.action) block.lines) blocks ≡ true → All (IsBlockFor (length guests) slots) blocks
all_for guests slots [] allowed = All-nil (IsBlockFor (length guests) slots)
all_for guests slots (block ∷ blocks) allowed =
    let parts = and_parts _ _ allowed in
    All-cons (IsBlockFor (length guests) slots) block blocks (lines_for guests slots block.lines parts.0) (all_for guests slots blocks parts.1)

-- ---- scripts that are done

-- what is replied to a script
pub simulated : (whole numbered : Bool) (text : List ℕ) (script : ScriptCode) (profile : Profile) (guests : List NewGuest) (made : List BlockCode) (known known' : Option (List ℕ))
    → script_of text ≡ Ok (script_view script) → IsProfileOf script.header.profile profile → All (λ (g : NewGuest). g.profile ≡ profile) guests → map numbers_of guests ≡ map line_numbers script.header.guests.items → made ≡ script.blocks.items
    → IsOver script.header.failure whole numbered (config_of script.header) script.header.seed script.header.slots guests (course_of (length guests) (map block_view made)) known known'
    → AreWithinLimits (config_of script.header) script.header.slots guests → AreAdmitted (config_of script.header) script.header.slots guests → IsSimulation whole numbered text known known'
simulated whole numbered text script profile guests made known known' reads said profiles numbers same told within admitted = record {
  script = script;
  reads = reads;
  profile = profile;
  said = said;
  guests = guests;
  profiles = profiles;
  numbers = numbers;
  within = within;
  admitted = admitted;
  told = subst (λ (l : List BlockCode). IsOver script.header.failure whole numbered (config_of script.header) script.header.seed script.header.slots guests (course_of (length guests) (map block_view l)) known known') same told;
}

-- what is so where all was done, by parts
pub all_done : {E : Type 0} (r : Result (Unit {0}) E) (P Q R : Type 0) {T : Type 0} → (P → Q → R → T) → OnOk r P → OnOk r Q → OnOk r R → OnOk r T
all_done (Ok done) P Q R so p q r = so p q r
all_done (Err e) P Q R so p q r = tt

-- as many guests as lines
pub same_count : (guests : List NewGuest) (lines : List GuestLine) → map numbers_of guests ≡ map line_numbers lines → length guests ≡ length lines
same_count guests lines same = omega (arith, ap length same, length-map guests numbers_of, length-map lines line_numbers)

-- what is so where all was done
pub told_whole : {E : Type 0} (r : Result (Unit {0}) E) (P : Type 0) (done : Unit {0}) → r ≡ Ok done → OnOk r P → P
told_whole r P done is so = subst (λ (q : Result (Unit {0}) _). OnOk q P) is so

-- a text is one script alone
same_script : (text : List ℕ) (one other : Script) → script_of text ≡ Ok one → script_of text ≡ Ok other → one ≡ other
same_script text one other is also = ap script_or (sym is ∙ also)
  where
    script_or : Result Script ℕ → Script
    script_or (Ok s) = s
    script_or (Err line) = one

-- a script of a number of no profile is refused
pub no_profile : (text : List ℕ) (script : ScriptCode) (f : Fault) → script_of text ≡ Ok (script_view script)
    → (f ≡ fault.Boot unbooted.Limits) × ((profile : Profile) → IsProfileOf script.header.profile profile → ⊥) → IsLoadFault text f
no_profile text script f is refused =
    let none : HasNoProfile text = λ other also profile said.
    refused.1 profile (subst (λ (s : Script). IsProfileOf s.header.profile profile) (sym (same_script text (script_view script) other is also)) said) in
    subst (IsLoadFault text) (sym refused.0) (refl, inr none)

-- what is so of what is answered, where that is this
pub answered : {X E : Type 0} (r : Result X E) (x : X) (So : X → Type 0) → r ≡ Ok x → IfOk r So → So x
answered r x So is so = subst (λ (q : Result _ _). IfOk q So) is so

-- ---- faults

-- what is so of each error of one kind
pub of_error : {T E : Type 0} (P Q : E → Type 0) (r : Result T E) → ((e : E) → P e → Q e) → IfErr r P → IfErr r Q
of_error P Q (Ok x) so p = tt
of_error P Q (Err e) so p = so e p

-- a script that can't be loaded is refused
pub load_refused : (text : List ℕ) (f : Fault) → IsLoadFault text f → IsRefusal text f
load_refused text (fault.File name) h = tt
load_refused text (fault.Asm kind line) h = absurd h
load_refused text (fault.Elf kind) h = tt
load_refused text fault.Raw h = absurd h
load_refused text (fault.Script line) h = h
load_refused text (fault.Boot error) h = tt
load_refused text (fault.Log refusal) h = absurd h
load_refused text fault.Memory h = tt

boot_refused : (text : List ℕ) (f : Fault) → IsBootFault f → IsRefusal text f
boot_refused text (fault.File name) h = absurd h
boot_refused text (fault.Asm kind line) h = absurd h
boot_refused text (fault.Elf kind) h = absurd h
boot_refused text fault.Raw h = absurd h
boot_refused text (fault.Script line) h = absurd h
boot_refused text (fault.Boot error) h = tt
boot_refused text (fault.Log refusal) h = absurd h
boot_refused text fault.Memory h = absurd h

-- so is one whose world is refused
pub told_fault : (text : List ℕ) (f : SimFault) → IsToldFault f → IsSimFault text f
told_fault text (sim.Refused f) h = boot_refused text f h
told_fault text sim.Memory h = tt
told_fault text sim.Output h = tt

-- an error is what it is said to be
pub same_error : {X E : Type 0} (e e' : E) → (let r : Result X E = Err e in r) ≡ Err e' → e ≡ e'
same_error {X} {E} e e' is = ap error_in is
  where
    error_in : Result X E → E
    error_in (Err x) = x
    error_in (Ok x) = e
