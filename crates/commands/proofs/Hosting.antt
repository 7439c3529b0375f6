-- A guest that has a world of its own.
use Rattle.std.proofs.Common.{ℕ, zero, suc, ◌≡◌, ◌≢◌, ◌+◌, ◌*◌, ◌<◌, ◌≤◌, ◌⊎◌, ◌^◌, false, nat_lt, All, List, [], ◌∷◌, ◌++◌, length, get_or, map, replicate, ◌↔◌, Option, Some, None, IfSome, Result, Ok, Err, IsErrOf, inl, inr, refl, sym, ap, subst, ◌∙◌, arith}
use Rattle.std.proofs.lemmas.Bool.{cases_lt}
use Rattle.std.proofs.lemmas.Bool.Decides.{nat_tests}
use Rattle.std.proofs.lemmas.List.{length-map}
use Rattle.std.proofs.lemmas.List.Elements.{All-head, All-tail}
use Rattle.std.proofs.lemmas.List.Sums.{sum_by-cons}
use Rattle.frames.specs.FreeList.{FreeList}
use Rattle.items.specs.declared.item.Item.{Item}
use Rattle.items.specs.declared.item.What.TheVariants.{In}
use Rattle.items.specs.Entries.{step_by}
use Rattle.guest_log.specs.Logs.{LogIs, IsFull}
use Rattle.guest_log.specs.Runs.{run_count}
use Rattle.guest_log.specs.declared.stop.Stop.{Stop}
use Rattle.guest_log.specs.declared.stop.Stop.TheVariants as halt
use Rattle.mips_tlb.specs.declared.kind.Kind.{Kind}
use Rattle.machine.specs.Accesses.{Access, accesses, first_lack}
use Rattle.machine.specs.Step.{Machine, step}
use Rattle.machine.specs.Answer.{need_of}
use Rattle.machine.specs.declared.access.StepOut.{StepOut}
use Rattle.machine.specs.declared.access.StepOut.TheVariants as out
use Rattle.machine.specs.declared.access.Why.{Why}
use Rattle.machine.proofs.OtherPages.{step_stays}
use Rattle.elf32.specs.declared.image.Image.{Image}
use Rattle.mips_cp0.specs.declared.profile.Profile.{Profile}
use Rattle.machine.specs.Boot.{boot_machine}
use Rattle.machine.specs.Items.{accepts, after, run}
use Rattle.machine.proofs.Runs.{run_append}
use Rattle.sharetab.specs.Entries.{EntriesAre, entry_at, one_entry, tickets_of, entry_count, ticket_count, Fits, AllFit}
use Rattle.frames.specs.Frames.{SharedIs}
use Rattle.guest_pages.specs.declared.page.Page.{Page}
use Rattle.guest_pages.specs.declared.page.Page.TheVariants as page
use Rattle.guest_pages.specs.declared.page.PageKind.{PageKind}
use Rattle.guest_pages.specs.declared.page.PageKind.TheVariants.{Private, Swapped}
use Rattle.guest_pages.specs.Pages.{page_at, kind_of, kind_at}
use Rattle.guest_pages.specs.Holdings.{one_private, one_shared, one_swapped, private_pages, shared_pages, swapped_pages}
use Rattle.page_moves.proofs.Totals.{frames_add_up, slots_out_add_up, tickets_add_up}
use Rattle.guest_bus.specs.Lacking.{lack_of, lacks_in}
use Rattle.guest.specs.Guests.{Intact, view_of}
use Rattle.guest.proofs.Reaching.{accesses_inside}
use Rattle.swapstore.specs.Memories.{MemoryIs}
use Rattle.guest.specs.declared.refused.Refused.{Refused}
use Rattle.guest.specs.declared.refused.Refused.TheVariants as refused
use Rattle.world.specs.Boots.{AreBooted}
use Rattle.booting.specs.declared.asked.NewGuest.{NewGuest}
use Rattle.world.specs.declared.running.End.{End}
use Rattle.world.specs.declared.running.End.TheVariants as end
use Rattle.world.specs.declared.running.RunStop.{RunStop}
use Rattle.world.specs.declared.running.RunStop.TheVariants as stop
use Rattle.world.specs.Events.{steps_for}
use Rattle.tenant.specs.Tenants.{TenantIs, pages_in, IsKept, Stays, Adds, NothingHappens}
use Rattle.world.specs.Worlds.{WorldIs, Sound, Changes, PagesMove, boot_of, log_at}
use Rattle.commands.specs.Hosted.{HostedIs, hosted_of, first_pages, IsAlone, IsLacking}
use Rattle.commands.specs.Runs.{MayStop}
use Rattle.runs.specs.Runs.{after_steps}

-- ---- steps, one after another

step_first : (k : ℕ) (m : Machine) → after_steps k (step m) ≡ step (after_steps k m)
step_first zero m = refl
step_first (suc k) m = ap step (step_first k m)

run_steps : (k : ℕ) (m : Machine) → run (replicate k (step_by 0)) m ≡ after_steps k m
run_steps zero m = refl
run_steps (suc k) m = run_steps k (step m) ∙ step_first k m

pub steps_size : (k : ℕ) (m : Machine) → length (after_steps k m).board.memory ≡ length m.board.memory
steps_size zero m = refl
steps_size (suc k) m = (step_stays (after_steps k m) 0).size ∙ steps_size k m

-- ---- what becomes of one guest

boot_same : (t t' : TenantIs) (ts ts' : List TenantIs) → map boot_of (t' ∷ ts') ≡ map boot_of (t ∷ ts) → boot_of t' ≡ boot_of t
boot_same t t' ts ts' boots = ap (λ (ms : List Machine). get_or ms 0 (boot_of t)) boots

pub still_one : (ts ts' : List TenantIs) → length ts ≡ 1 → map boot_of ts' ≡ map boot_of ts → length ts' ≡ 1
still_one ts ts' one boots = omega (arith, one, ap length boots, length-map ts boot_of, length-map ts' boot_of)

pub stepped : (ts ts' : List TenantIs) (k : ℕ) → length ts ≡ 1 → log_at ts' 0 ≡ log_at ts 0 ++ steps_for 0 0 k → map boot_of ts' ≡ map boot_of ts
    → (hosted_of ts').machine ≡ after_steps k (hosted_of ts).machine
stepped [] ts' k one logs boots = absurd (omega (arith, one))
stepped (t ∷ ts) [] k one logs boots = absurd (omega (arith, still_one (t ∷ ts) [] one boots))
stepped (t ∷ ts) (t' ∷ ts') k one logs boots =
    ap (λ (items : List Item). run items t'.guest.boot) logs
    ∙ ap (run (t.guest.log.items ++ replicate k (step_by 0))) (boot_same t t' ts ts' boots)
    ∙ run_append t.guest.log.items (replicate k (step_by 0)) t.guest.boot
    ∙ run_steps k (view_of t.guest)

changed_one : (how : TenantIs → TenantIs → Type 0) (ts ts' : List TenantIs) (t : TenantIs) → length ts ≡ 1 → Changes how 0 ts ts' → length ts' ≡ 1
changed_one how [] ts' t one c = absurd (omega (arith, one))
changed_one how (u ∷ ts) ts' t one c = omega (arith, one, ap length (c.one t))

pub one_left : (how : TenantIs → TenantIs → Type 0) (ts ts' : List TenantIs) → length ts ≡ 1 → Changes how 0 ts ts' → length ts' ≡ 1
one_left how [] ts' one c = absurd (omega (arith, one))
one_left how (u ∷ ts) ts' one c = changed_one how (u ∷ ts) ts' u one c

pub added : (ts ts' : List TenantIs) (item : Item) → length ts ≡ 1 → Changes (λ t t'. Adds t item t') 0 ts ts' → Changes Stays 0 ts ts'
    → (hosted_of ts').machine ≡ after item.what (hosted_of ts).machine
added [] ts' item one adds stays = absurd (omega (arith, one))
added (t ∷ ts) [] item one adds stays = absurd (omega (arith, one_left Stays (t ∷ ts) [] one stays))
added (t ∷ ts) (t' ∷ ts') item one adds stays =
    ap (λ (items : List Item). run items t'.guest.boot) (adds.so t)
    ∙ ap (run (t.guest.log.items ++ item ∷ [])) (stays.so t).boot
    ∙ run_append t.guest.log.items (item ∷ []) t.guest.boot

pub unmoved : (ts ts' : List TenantIs) → length ts ≡ 1 → Changes NothingHappens 0 ts ts' → Changes Stays 0 ts ts' → (hosted_of ts').machine ≡ (hosted_of ts).machine
unmoved [] ts' one nothing stays = absurd (omega (arith, one))
unmoved (t ∷ ts) [] one nothing stays = absurd (omega (arith, one_left Stays (t ∷ ts) [] one stays))
unmoved (t ∷ ts) (t' ∷ ts') one nothing stays =
    ap (λ (items : List Item). run items t'.guest.boot) (nothing.so t).items ∙ ap (run t.guest.log.items) (stays.so t).boot

pub pages_unmoved : (ts ts' : List TenantIs) → length ts ≡ 1 → Changes NothingHappens 0 ts ts' → first_pages ts' ≡ first_pages ts
pages_unmoved [] ts' one nothing = absurd (omega (arith, one))
pages_unmoved (t ∷ ts) [] one nothing = absurd (omega (arith, one_left NothingHappens (t ∷ ts) [] one nothing))
pages_unmoved (t ∷ ts) (t' ∷ ts') one nothing = ap (λ b. b.pages) (nothing.so t).bus

seen : TenantIs → HostedIs
seen t = record { machine = view_of t.guest; log = t.guest.log }

pub moved : (ts ts' : List TenantIs) → length ts ≡ 1 → Changes PagesMove 0 ts ts' → hosted_of ts' ≡ hosted_of ts
unfolding seen
moved [] ts' one c = absurd (omega (arith, one))
moved (t ∷ ts) [] one c = absurd (omega (arith, one_left PagesMove (t ∷ ts) [] one c))
moved (t ∷ ts) (t' ∷ ts') one c = ap seen (c.so t).beside

pub moved_count : (ts ts' : List TenantIs) → length ts ≡ 1 → Changes PagesMove 0 ts ts' → length (first_pages ts') ≡ length (first_pages ts)
moved_count [] ts' one c = absurd (omega (arith, one))
moved_count (t ∷ ts) [] one c = absurd (omega (arith, one_left PagesMove (t ∷ ts) [] one c))
moved_count (t ∷ ts) (t' ∷ ts') one c = (c.so t).count

pub first_log : (ts : List TenantIs) (t : TenantIs) → length ts ≡ 1 → (get_or ts 0 t).guest.log ≡ (hosted_of ts).log
first_log [] t one = absurd (omega (arith, one))
first_log (u ∷ ts) t one = refl

-- ---- pages with frames of their own

private_one : (p : Page) → kind_of p ≡ Private → one_private p ≡ 1
private_one page.Zero e = absurd (cc)
private_one page.Given e = absurd (cc)
private_one (page.Private frame) e = refl
private_one (page.Shared share ticket) e = absurd (cc)
private_one (page.Swapped slot digest) e = absurd (cc)

other_none : (p : Page) → kind_of p ≢ Private → one_private p ≡ 0
other_none page.Zero e = refl
other_none page.Given e = refl
other_none (page.Private frame) e = absurd (e refl)
other_none (page.Shared share ticket) e = refl
other_none (page.Swapped slot digest) e = refl

same_private : (ps qs : List Page) → length qs ≡ length ps → ((o : ℕ) → page_at qs o ≡ page_at ps o) → private_pages qs ≡ private_pages ps
same_private [] [] count same = refl
same_private [] (q ∷ qs) count same = absurd (omega (arith, count))
same_private (p ∷ ps) [] count same = absurd (omega (arith, count))
same_private (p ∷ ps) (q ∷ qs) count same =
    omega (
      arith,
      sum_by-cons one_private p ps,
      sum_by-cons one_private q qs,
      ap one_private (same 0),
      same_private ps qs (omega (arith, count)) (λ o. same (suc o)),
    )

-- one page more has a frame of its own
pub one_more : (n : ℕ) (ps qs : List Page) → n < length ps → length qs ≡ length ps → kind_at ps n ≢ Private → kind_at qs n ≡ Private
    → ((o : ℕ) → (o ≡ n → ⊥) → page_at qs o ≡ page_at ps o) → private_pages qs ≡ private_pages ps + 1
one_more n [] qs inside count lacks private others = absurd (omega (arith, inside))
one_more n (p ∷ ps) [] inside count lacks private others = absurd (omega (arith, count))
one_more zero (p ∷ ps) (q ∷ qs) inside count lacks private others =
    omega (
      arith,
      sum_by-cons one_private p ps,
      sum_by-cons one_private q qs,
      other_none p lacks,
      private_one q private,
      same_private ps qs (omega (arith, count)) (λ o. others (suc o) (λ e. absurd (omega (arith, e)))),
    )
one_more (suc n) (p ∷ ps) (q ∷ qs) inside count lacks private others =
    omega (
      arith,
      sum_by-cons one_private p ps,
      sum_by-cons one_private q qs,
      ap one_private (others 0 (λ e. absurd (omega (arith, e)))),
      one_more n ps qs (omega (arith, inside)) (omega (arith, count)) lacks private (λ o apart. others (suc o) (λ e. apart (omega (arith, e)))),
    )

pub supplied : (ts ts' : List TenantIs) (n : ℕ) → length ts ≡ 1 → IsLacking ts n → Changes PagesMove 0 ts ts' → ((t : TenantIs) → kind_at (pages_in (get_or ts' 0 t)) n ≡ Private)
    → ((t : TenantIs) (o : ℕ) → (o ≡ n → ⊥) → page_at (pages_in (get_or ts' 0 t)) o ≡ page_at (pages_in (get_or ts 0 t)) o)
    → private_pages (first_pages ts') ≡ private_pages (first_pages ts) + 1
supplied [] ts' n one lacking c private others = absurd (omega (arith, one))
supplied (t ∷ ts) [] n one lacking c private others = absurd (omega (arith, one_left PagesMove (t ∷ ts) [] one c))
supplied (t ∷ ts) (t' ∷ ts') n one lacking c private others =
    one_more n (pages_in t) (pages_in t') lacking.there (c.so t).count lacking.lacks (private t) (others t)

-- a page is of one kind
one_kind : (p : Page) → one_private p + one_shared p ≤ 1
one_kind page.Zero = omega arith
one_kind page.Given = omega arith
one_kind (page.Private frame) = omega arith
one_kind (page.Shared share ticket) = omega arith
one_kind (page.Swapped slot digest) = omega arith

pub few_kinds : (ps : List Page) → private_pages ps + shared_pages ps ≤ length ps
few_kinds [] = omega arith
few_kinds (p ∷ ps) = omega (arith, sum_by-cons one_private p ps, sum_by-cons one_shared p ps, one_kind p, few_kinds ps)

-- ---- a frame is free

named : (k : ℕ) (entry : Option SharedIs) → Fits k entry → one_entry entry ≤ tickets_of entry
named k None fits = omega arith
named k (Some entry) fits = omega (arith, fits.1)

each_named : (es : EntriesAre) → ((k : ℕ) → one_entry (entry_at es k) ≤ tickets_of (entry_at es k)) → entry_count es ≤ ticket_count es
each_named [] each = omega arith
each_named (e ∷ es) each = omega (arith, sum_by-cons one_entry e es, sum_by-cons tickets_of e es, each 0, each_named es (λ k. each (suc k)))

-- the pages of a guest that is its run are its memory
memory_size : (trusted : Type 0) (held : ℕ → Option (List ℕ)) (frames slots : ℕ) (pool book : FreeList) (es : EntriesAre) (ts : List TenantIs) → length ts ≡ 1 → trusted
    → Sound frames slots trusted held ts pool book es → length (hosted_of ts).machine.board.memory ≡ length (first_pages ts) * 4096
memory_size trusted held frames slots pool book es [] one trust s = absurd (omega (arith, one))
memory_size trusted held frames slots pool book es (t ∷ ts) one trust s = (All-head (IsKept held) t ts (s.kept trust)).intact.shows.size

pub frame_free : (trusted : Type 0) (held : ℕ → Option (List ℕ)) (frames slots : ℕ) (pool book : FreeList) (es : EntriesAre) (ts : List TenantIs) → length ts ≡ 1 → trusted
    → length (hosted_of ts).machine.board.memory < frames * 4096 → Sound frames slots trusted held ts pool book es → AllFit es → pool.free ≡ [] → ⊥
frame_free trusted held frames slots pool book es [] one trust room s fit none = absurd (omega (arith, one))
frame_free trusted held frames slots pool book es (t ∷ []) one trust room s fit none =
    let all : List (List Page) = pages_in t ∷ [] in
    omega (
      arith,
      room,
      memory_size trusted held frames slots pool book es (t ∷ []) one trust s,
      frames_add_up frames slots all es pool book s.books,
      tickets_add_up frames slots all es pool book s.books,
      each_named es (λ k. named k (entry_at es k) (fit k)),
      few_kinds (pages_in t),
      sum_by-cons private_pages (pages_in t) [],
      sum_by-cons shared_pages (pages_in t) [],
      ap length none,
    )
frame_free trusted held frames slots pool book es (t ∷ u ∷ ts) one trust room s fit none = absurd (omega (arith, one))

-- ---- a page that a step needs

lack_or : Option Why → ℕ → Option (ℕ × Why) → Option (ℕ × Why)
lack_or None page rest = rest
lack_or (Some why) page rest = Some (page, why)

first_of_all : (lacks : ℕ → Kind → Option Why) (a : Access) (xs : List Access) → first_lack lacks (a ∷ xs) ≡ lack_or (lacks a.page a.kind) a.page (first_lack lacks xs)
unfolding lack_or
first_of_all lacks a xs = by (lacks a.page a.kind)
  where
    by : (l : Option Why) → (elim l as (λ _. Option (ℕ × Why)) [ None ↦ first_lack lacks xs | Some why ↦ Some (a.page, why) ]) ≡ lack_or l a.page (first_lack lacks xs)
    by None = refl
    by (Some why) = refl

page_or : ℕ → Option (ℕ × Why) → ℕ
page_or p None = p
page_or p (Some need) = need.0

-- it is one of the pages, and has no frame of its own
first_lacking : (pages : List Page) (xs : List Access) (p count : ℕ) (why : Why) → All (λ a. a.page < count) xs → first_lack (lacks_in pages) xs ≡ Some (p, why)
    → (p < count) × (kind_at pages p ≢ Private)
unfolding lack_or page_or
first_lacking pages [] p count why inside e = absurd (cc)
first_lacking pages (a ∷ xs) p count why inside e =
    by (λ f. first_lacking pages xs p count why (All-tail (λ a. a.page < count) a xs inside) f) (lacks_in pages a.page a.kind) refl (sym (first_of_all (lacks_in pages) a xs) ∙ e)
  where
    by : (first_lack (lacks_in pages) xs ≡ Some (p, why) → (p < count) × (kind_at pages p ≢ Private)) → (l : Option Why) → lacks_in pages a.page a.kind ≡ l
        → lack_or l a.page (first_lack (lacks_in pages) xs) ≡ Some (p, why) → (p < count) × (kind_at pages p ≢ Private)
    by rest None is f = rest f
    by rest (Some w) is f =
        let at : a.page ≡ p = ap (page_or 0) f in (
          subst (λ (n : ℕ). n < count) at (All-head (λ a. a.page < count) a xs inside),
          λ private.
              let none : None ≡ Some w = sym (ap (λ (n : ℕ). lack_of (kind_at pages n) a.kind) at ∙ ap (λ (k : PageKind). lack_of k a.kind) private) ∙ is in
              absurd (cc),
        )

pub lacking : (trusted : Type 0) (held : ℕ → Option (List ℕ)) (frames slots : ℕ) (pool book : FreeList) (es : EntriesAre) (ts : List TenantIs) (p : ℕ) (why : Why) → length ts ≡ 1 → trusted
    → Sound frames slots trusted held ts pool book es
    → ((t : TenantIs) → first_lack (lacks_in (pages_in (get_or ts 0 t))) (accesses (view_of (get_or ts 0 t).guest)) ≡ Some (p, why)) → IsLacking ts p
lacking trusted held frames slots pool book es [] p why one trust s need = absurd (omega (arith, one))
lacking trusted held frames slots pool book es (t ∷ ts) p why one trust s need =
    let found = first_lacking (pages_in t) (accesses (view_of t.guest)) p (length (pages_in t)) why
    (accesses_inside (view_of t.guest) (length (pages_in t)) (memory_size trusted held frames slots pool book es (t ∷ ts) one trust s)) (need t) in
    record { there = found.0; lacks = found.1 }

-- ---- a world of one guest stays one

pub alone_after : (w w' : WorldIs MemoryIs) → IsAlone w → length w'.tenants ≡ 1
    → length (hosted_of w'.tenants).machine.board.memory ≡ length (hosted_of w.tenants).machine.board.memory → w'.frames ≡ w.frames → length w'.store.pages ≡ length w.store.pages
    → w'.store.damaged ≡ false → IsAlone w'
alone_after w w' alone one size frames slots sound = record { one = one; room = omega (arith, alone.room, size, frames); slots = slots ∙ alone.slots; sound = sound }

pub alone_stepped : (w w' : WorldIs MemoryIs) (k : ℕ) → IsAlone w → log_at w'.tenants 0 ≡ log_at w.tenants 0 ++ steps_for 0 0 k → map boot_of w'.tenants ≡ map boot_of w.tenants
    → w'.store ≡ w.store → w'.frames ≡ w.frames → IsAlone w'
alone_stepped w w' k alone logs boots store frames =
    alone_after w w' alone (still_one w.tenants w'.tenants alone.one boots)
    (ap (λ (m : Machine). length m.board.memory) (stepped w.tenants w'.tenants k alone.one logs boots) ∙ steps_size k (hosted_of w.tenants).machine) frames
    (ap (λ (s : MemoryIs). length s.pages) store) (ap (λ (s : MemoryIs). s.damaged) store ∙ alone.sound)

pub lacking_still : (ts ts' : List TenantIs) (p : ℕ) → length ts ≡ 1 → Changes NothingHappens 0 ts ts' → IsLacking ts p → IsLacking ts' p
lacking_still ts ts' p one nothing lacks =
    let same : first_pages ts ≡ first_pages ts' = sym (pages_unmoved ts ts' one nothing) in
    record {
      there = subst (λ (ps : List Page). p < length ps) same lacks.there;
      lacks = subst (λ (ps : List Page). kind_at ps p ≢ Private) same lacks.lacks;
    }

-- ---- why a guest stops

pub may_stop_one : (log : LogIs) (why : Stop) → ((why ≡ halt.LogFull) ↔ IsFull log) → MayStop log why
may_stop_one log halt.LogFull full = full.0 refl
may_stop_one log halt.Memory full = tt

pub may_stop : (log : LogIs) (why : Option Stop) → IfSome why (λ s. (s ≡ halt.LogFull) ↔ IsFull log) → IfSome why (MayStop log)
may_stop log None full = tt
may_stop log (Some halt.LogFull) full = full.0 refl
may_stop log (Some halt.Memory) full = tt

full_stays : (log log' : LogIs) → log'.items ≡ log.items → log'.limit ≡ log.limit → IsFull log → IsFull log'
full_stays log log' items limit full =
    subst (λ (is : List Item). (log'.limit ≤ run_count is) ⊎ (2 ^ 62 ≤ length is)) (sym items)
    (subst (λ (l : ℕ). (l ≤ run_count log.items) ⊎ (2 ^ 62 ≤ length log.items)) (sym limit) full)

full_then : (t t' : TenantIs) → NothingHappens t t' → Stays t t' → IsFull t.guest.log → IsFull t'.guest.log
full_then t t' n s full = full_stays t.guest.log t'.guest.log n.items s.limit full

full_before : (t t' : TenantIs) → NothingHappens t t' → Stays t t' → IsFull t'.guest.log → IsFull t.guest.log
full_before t t' n s full = full_stays t'.guest.log t.guest.log (sym n.items) (sym s.limit) full

abbrev error_or : {T E : Type 0} → E → Result T E → E
error_or d (Ok x) = d
error_or d (Err e) = e

module _ {T E : Type 0} (error : Stop → E) where
  -- what was refused for want of room
  pub refused_full : (ts ts' : List TenantIs) (r : Result T E) (why : Stop) → ((a b : Stop) → error a ≡ error b → a ≡ b) → length ts ≡ 1 → r ≡ Err (error why)
      → Changes NothingHappens 0 ts ts' → Changes Stays 0 ts ts' → ((t : TenantIs) → IsErrOf r (error halt.LogFull) ↔ IsFull (get_or ts 0 t).guest.log)
      → (why ≡ halt.LogFull) ↔ IsFull (hosted_of ts').log
  refused_full [] ts' r why apart one is n s full = absurd (omega (arith, one))
  refused_full (t ∷ ts) [] r why apart one is n s full = absurd (omega (arith, one_left Stays (t ∷ ts) [] one s))
  refused_full (t ∷ ts) (t' ∷ ts') r why apart one is n s full = (
    λ e. full_then t t' (n.so t) (s.so t) ((full t).0 (is ∙ ap (λ (w : Stop). Err (error w)) e)),
    λ f. apart why halt.LogFull (ap (error_or (error why)) (sym is ∙ (full t).1 (full_before t t' (n.so t) (s.so t) f))),
  )

  -- the same, by the log before
  pub refused_full_before : (ts : List TenantIs) (r : Result T E) (why : Stop) → ((a b : Stop) → error a ≡ error b → a ≡ b) → length ts ≡ 1 → r ≡ Err (error why)
      → ((t : TenantIs) → IsErrOf r (error halt.LogFull) ↔ IsFull (get_or ts 0 t).guest.log) → (why ≡ halt.LogFull) ↔ IsFull (hosted_of ts).log
  refused_full_before [] r why apart one is full = absurd (omega (arith, one))
  refused_full_before (t ∷ ts) r why apart one is full = (
    λ e. (full t).0 (is ∙ ap (λ (w : Stop). Err (error w)) e),
    λ f. apart why halt.LogFull (ap (error_or (error why)) (sym is ∙ (full t).1 f)),
  )

-- what was not refused had room
pub not_full : {T E : Type 0} (ts ts' : List TenantIs) (r : Result T E) (x : T) (e : E) → length ts ≡ 1 → r ≡ Ok x → Changes NothingHappens 0 ts ts' → Changes Stays 0 ts ts'
    → ((t : TenantIs) → IsErrOf r e ↔ IsFull (get_or ts 0 t).guest.log) → IsFull (hosted_of ts').log → ⊥
not_full [] ts' r x e one is n s full = absurd (omega (arith, one))
not_full (t ∷ ts) [] r x e one is n s full = absurd (omega (arith, one_left Stays (t ∷ ts) [] one s))
not_full (t ∷ ts) (t' ∷ ts') r x e one is n s full = λ now. both r x e is ((full t).1 (full_before t t' (n.so t) (s.so t) now))
  where
    both : {T E : Type 0} (r : Result T E) (x : T) (e : E) → r ≡ Ok x → r ≡ Err e → ⊥
    both r x e a b = cc

pub had_room : {T E : Type 0} (ts : List TenantIs) (r : Result T E) (x : T) (e : E) → length ts ≡ 1 → r ≡ Ok x → ((t : TenantIs) → IsErrOf r e ↔ IsFull (get_or ts 0 t).guest.log)
    → IsFull (hosted_of ts).log → ⊥
had_room [] r x e one is full = absurd (omega (arith, one))
had_room (t ∷ ts) r x e one is full = λ now. both r x e is ((full t).1 now)
  where
    both : {T E : Type 0} (r : Result T E) (x : T) (e : E) → r ≡ Ok x → r ≡ Err e → ⊥
    both r x e a b = cc

abbrev stop_in : Stop → Refused → Stop
stop_in d refused.Machine = d
stop_in d (refused.Away page) = d
stop_in d (refused.Stop why) = why

pub same_stop : (a b : Stop) → refused.Stop a ≡ refused.Stop b → a ≡ b
same_stop a b e = ap (stop_in a) e

pub same_error : (a b : Stop) → a ≡ b → a ≡ b
same_error a b e = e

-- a stop that is answered as an error
pub full_error : {T : Type 0} (r : Result T Stop) (log : LogIs) (why : Stop) → r ≡ Err why → ((why ≡ halt.LogFull) ↔ IsFull log) → (r ≡ Err halt.LogFull) ↔ IsFull log
full_error r log why is full = (λ e. full.0 (ap (error_or why) (sym is ∙ e)), λ f. is ∙ ap Err (full.1 f))

-- a byte for which the console has room is not refused
not_below : (a b : ℕ) → nat_lt a b ≡ false → a < b → ⊥
not_below a b e h = grind (arith, nat_tests)

pub accepted : (ts : List TenantIs) (byte : ℕ) → length ts ≡ 1 → length (hosted_of ts).machine.board.devices.console.input < 256
    → ((t : TenantIs) → accepts (In byte) (view_of (get_or ts 0 t).guest) ≡ false) → ⊥
accepted [] byte one room refused = absurd (omega (arith, one))
accepted (t ∷ ts) byte one room refused = not_below (length (view_of t.guest).board.devices.console.input) 256 (refused t) room

pub first_tenant : (ts : List TenantIs) → length ts ≡ 1 → TenantIs
first_tenant [] one = absurd (omega (arith, one))
first_tenant (t ∷ ts) one = t

abbrev stop_or : RunStop → End → RunStop
stop_or d end.Done = d
stop_or d (end.Need page why) = d
stop_or d (end.Stop for) = for

-- where steps ended for want of room
pub ended_full : (ts : List TenantIs) (at : End) (for : RunStop) (why : Stop) → length ts ≡ 1 → at ≡ end.Stop for → ((why ≡ halt.LogFull) ↔ (for ≡ stop.LogFull))
    → (at ≡ end.Stop stop.LogFull → (t : TenantIs) → IsFull (get_or ts 0 t).guest.log)
    → (at ≢ end.Done → at ≢ end.Stop stop.LogFull → (t : TenantIs) → IsFull (get_or ts 0 t).guest.log → ⊥)
    → (why ≡ halt.LogFull) ↔ IsFull (hosted_of ts).log
ended_full [] at for why one is same full room = absurd (omega (arith, one))
ended_full (t ∷ ts) at for halt.LogFull one is same full room = (λ e. full (is ∙ ap end.Stop (same.0 refl)) t, λ f. refl)
ended_full (t ∷ ts) at for halt.Memory one is same full room = (
  λ e. absurd (cc),
  λ f. absurd (room (λ done. not_done at for is done) (λ stopped. not_both (same.1 (stop_inside at for is stopped))) t f),
)
  where
    not_done : (at : End) (for : RunStop) → at ≡ end.Stop for → at ≡ end.Done → ⊥
    not_done at for a b = cc

    not_both : halt.Memory ≡ halt.LogFull → ⊥
    not_both e = cc

    stop_inside : (at : End) (for : RunStop) → at ≡ end.Stop for → at ≡ end.Stop stop.LogFull → for ≡ stop.LogFull
    stop_inside at for is stopped = ap (stop_or for) (sym is ∙ stopped)

-- where steps ended at a page, the log has room
pub need_room : (ts : List TenantIs) (at : End) (p : ℕ) (why : Why) → length ts ≡ 1 → at ≡ end.Need p why
    → (at ≢ end.Done → at ≢ end.Stop stop.LogFull → (t : TenantIs) → IsFull (get_or ts 0 t).guest.log → ⊥) → IsFull (hosted_of ts).log → ⊥
need_room [] at p why one is room full = absurd (omega (arith, one))
need_room (t ∷ ts) at p why one is room full = room (λ done. not_done at is done) (λ stopped. not_stopped at is stopped) t full
  where
    not_done : (at : End) → at ≡ end.Need p why → at ≡ end.Done → ⊥
    not_done at a b = cc

    not_stopped : (at : End) → at ≡ end.Need p why → at ≡ end.Stop stop.LogFull → ⊥
    not_stopped at a b = cc

-- ---- a step that needs a page

some_not_none : (need : ℕ × Why) → Some need ≡ None → ⊥
some_not_none need e = cc

pub need_then : {A : Type 0} (s : StepOut) (p : ℕ) (why : Why) → s ≡ out.Need p why → (need_of s ≢ None → A) → A
need_then s p why is then = then (λ none. some_not_none (p, why) (sym (ap need_of is) ∙ none))

pub done_then : {A : Type 0} (s : StepOut) → s ≡ out.Done → (need_of s ≡ None → A) → A
done_then s is then = then (ap need_of is)

pub its_need : (s : StepOut) (p : ℕ) (why : Why) (lack : Option (ℕ × Why)) → s ≡ out.Need p why → need_of s ≡ lack → lack ≡ Some (p, why)
its_need s p why lack is need = sym need ∙ ap need_of is

pub step_added : (ts ts' : List TenantIs) → length ts ≡ 1 → Changes (λ t t'. Adds t (step_by 0) t') 0 ts ts' → Changes Stays 0 ts ts'
    → (hosted_of ts').machine ≡ step (hosted_of ts).machine
step_added ts ts' one adds stays = added ts ts' (step_by 0) one adds stays

-- ---- how many steps were made

pub not_all : (at : End) (steps left : ℕ) → at ≢ end.Done → ((at ≡ end.Done) ↔ (steps ≡ left)) → steps ≤ left → steps < left
not_all at steps left early done most =
    elim (cases_lt steps left) [
      | inl fewer ↦ fewer
      | inr rest ↦ absurd (early (done.1 (omega (arith, rest, most))))
    ]

pub stop_is_early : (at : End) (for : RunStop) → at ≡ end.Stop for → at ≢ end.Done
stop_is_early at for is = λ done. both at for is done
  where
    both : (at : End) (for : RunStop) → at ≡ end.Stop for → at ≡ end.Done → ⊥
    both at for a b = cc

pub need_is_early : (at : End) (p : ℕ) (why : Why) → at ≡ end.Need p why → at ≢ end.Done
need_is_early at p why is = λ done. both at p why is done
  where
    both : (at : End) (p : ℕ) (why : Why) → at ≡ end.Need p why → at ≡ end.Done → ⊥
    both at p why a b = cc

-- ---- a guest that is booted

pub booted_one : (runs : ℕ) (guests : List NewGuest) (guest : NewGuest) (ts : List TenantIs) → guests ≡ guest ∷ [] → AreBooted runs guests ts → length ts ≡ 1
booted_one runs guests guest ts is b = omega (arith, b.count, ap length is)

pub record IsAtBoot (runs : ℕ) (profile : Profile) (image : Image) (pages : ℕ) (ts : List TenantIs) : Type 0 where
  pub machine : (hosted_of ts).machine ≡ boot_machine profile image pages
  pub items : (hosted_of ts).log.items ≡ []
  pub limit : (hosted_of ts).log.limit ≡ runs
  pub count : length (first_pages ts) ≡ pages

pub booted : (runs : ℕ) (guests : List NewGuest) (guest : NewGuest) (ts : List TenantIs) → guests ≡ guest ∷ [] → AreBooted runs guests ts
    → IsAtBoot runs guest.profile guest.image.value guest.pages ts
booted runs guests guest ts is b = by ts (subst (λ (gs : List NewGuest). AreBooted runs gs ts) is b)
  where
    by : (ts : List TenantIs) → AreBooted runs (guest ∷ []) ts → IsAtBoot runs guest.profile guest.image.value guest.pages ts
    by [] b = absurd (omega (arith, b.count))
    by (t ∷ ts) b =
        let its = b.each 0 guest t (omega arith) in
        record {
          machine = ap (λ (items : List Item). run items t.guest.boot) its.items ∙ its.boot;
          items = its.items;
          limit = its.limit;
          count = its.size;
        }

-- its world has a frame more than it has pages
pub booted_alone : (trusted : Type 0) (held : ℕ → Option (List ℕ)) (slots pages : ℕ) (w : WorldIs MemoryIs) → length w.tenants ≡ 1 → trusted
    → Sound w.frames slots trusted held w.tenants w.pool w.slots w.shares.entries → length (first_pages w.tenants) ≡ pages → pages < w.frames → length w.store.pages ≡ 0 → w.store.damaged ≡ false → IsAlone w
booted_alone trusted held slots pages w one trust s size room none sound = record {
  one = one;
  room = omega (arith, memory_size trusted held w.frames slots w.pool w.slots w.shares.entries w.tenants one trust s, size, room);
  slots = none;
  sound = sound;
}

-- ---- a guest that is read

pub intact_one : (trusted : Type 0) (held : ℕ → Option (List ℕ)) (frames slots : ℕ) (pool book : FreeList) (es : EntriesAre) (ts : List TenantIs) (t : TenantIs) → length ts ≡ 1 → trusted
    → Sound frames slots trusted held ts pool book es → Intact (get_or ts 0 t).guest
intact_one trusted held frames slots pool book es [] t one trust s = absurd (omega (arith, one))
intact_one trusted held frames slots pool book es (u ∷ ts) t one trust s = (All-head (IsKept held) u ts (s.kept trust)).intact

pub first_view : (ts : List TenantIs) (t : TenantIs) → length ts ≡ 1 → view_of (get_or ts 0 t).guest ≡ (hosted_of ts).machine
first_view [] t one = absurd (omega (arith, one))
first_view (u ∷ ts) t one = refl

swapped_one : (p : Page) → kind_of p ≡ Swapped → one_swapped p ≡ 1
swapped_one page.Zero e = absurd (cc)
swapped_one page.Given e = absurd (cc)
swapped_one (page.Private frame) e = absurd (cc)
swapped_one (page.Shared share ticket) e = absurd (cc)
swapped_one (page.Swapped slot digest) e = refl

none_swapped : (ps : List Page) (n : ℕ) → swapped_pages ps ≡ 0 → kind_at ps n ≡ Swapped → ⊥
none_swapped [] n none e = absurd (cc)
none_swapped (p ∷ ps) zero none e = absurd (omega (arith, sum_by-cons one_swapped p ps, none, swapped_one p e))
none_swapped (p ∷ ps) (suc n) none e = none_swapped ps n (omega (arith, sum_by-cons one_swapped p ps, none)) e

-- where there is no slot, no page is in one
pub none_away : (trusted : Type 0) (held : ℕ → Option (List ℕ)) (frames slots : ℕ) (pool book : FreeList) (es : EntriesAre) (ts : List TenantIs) (t : TenantIs) (n : ℕ) → length ts ≡ 1 → slots ≡ 0
    → Sound frames slots trusted held ts pool book es → kind_at (pages_in (get_or ts 0 t)) n ≡ Swapped → ⊥
none_away trusted held frames slots pool book es [] t n one none s e = absurd (omega (arith, one))
none_away trusted held frames slots pool book es (u ∷ []) t n one none s e =
    none_swapped (pages_in u) n (omega (arith, slots_out_add_up frames slots (map pages_in (u ∷ [])) es pool book s.books, s.books.slots_out, sum_by-cons swapped_pages (pages_in u) [], none)) e
none_away trusted held frames slots pool book es (u ∷ v ∷ ts) t n one none s e = absurd (omega (arith, one))
