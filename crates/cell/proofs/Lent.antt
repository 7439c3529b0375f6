-- A guest whose pages move over machine memory.
use Rattle.std.proofs.Common.{◌≡◌, ◌≢◌, ℕ, ◌<◌, Bool, true, false, ◌||◌, ◌&&◌, List, [], Option, Some, None, IfSome, Result, Ok, Err, OnOk, OnErr, length, nat_eq, set, refl, sym, ap, subst, ◌∙◌}
use Rattle.std.proofs.lemmas.Bool.Decides.{Decides-eqb}
use Rattle.std.proofs.lemmas.Slice.Eq.{slice_eq-Decides}
use lib.Pointwise.{pointwise}
use Rattle.machine.specs.Step.{Machine}
use Rattle.guest_pages.specs.declared.page.Page.{Page}
use Rattle.guest_pages.specs.declared.page.Returned.{Returned}
use Rattle.guest_pages.specs.declared.page.PageKind.{PageKind}
use Rattle.guest_pages.specs.declared.page.PageKind.TheVariants as kind
use Rattle.guest_pages.specs.Pages.{kind_of, kind_at, page_at, shown}
use Rattle.guest_pages.proofs.Outlines.{outline_length}
use Rattle.guest_pages.specs.declared.page.Page.TheVariants as p
use Rattle.page_moves.specs.Faith.{IsFaithful, Faithful, Kept}
use Rattle.lent_pages.specs.Contents.{its_slots}
use Rattle.cell.specs.Sitting.{RunIsWritten}
use Rattle.guest.specs.Guests.{GuestIs, view_of, Intact, without_pages, HasPaused}
use Rattle.guest.specs.Views.{pages_seen}
use Rattle.guest.specs.declared.progress.Pause.{Pause}
use Rattle.guest.specs.declared.progress.Pause.TheVariants as pause
use Rattle.machine.specs.declared.access.Why.{Why}
use Rattle.guest.proofs.Keeping.{still_intact, same_view}
use Rattle.machine_memory.specs.declared.stake.Stake.{Stake}
use Rattle.machine_memory.proofs.Stakes.{level_by_outline, level_lags}
use Rattle.machine_memory.specs.Memories.{MemoryIs, IsLevel}
use Rattle.machine_memory.specs.Returns.{Lags}
use Rattle.seated.specs.Acts.{Stays}
use Rattle.std.proofs.lemmas.List.{length-set}
use Rattle.cell.specs.Narrowing.{is_away, comes_right}
use Rattle.cell.specs.Pausing.{LevelBefore}
use Rattle.lent_pages.specs.Scans.{WasScanned}
use Rattle.page_moves.specs.Scans.{Answered}
use Rattle.page_moves.specs.declared.scan.Scan.{Scan}
use Rattle.page_moves.specs.declared.scan.Scan.TheVariants as scan
use Rattle.sha2.specs.Sha256.{sha256}
use Rattle.sharetab.specs.Shares.{Answers}
use Rattle.sharetab.specs.declared.shares.Offer.TheVariants as offer
use Rattle.sharetab.specs.declared.guest_page.GuestPage.{GuestPage}

-- where a run of steps has not given a page, the stake is level for the pages as they are
pub level_none : {Store : Type 0} (memory : MemoryIs Store) (stake : Stake) (given : Option ℕ) (old new : List Page) (why : Option Pause) → why ≡ None → IsLevel memory stake old
    → HasPaused given old why new → IsLevel memory stake new
level_none memory stake given old new why is level paused =
    let calm : HasPaused given old None new = subst (λ (w : Option Pause). HasPaused given old w new) is paused in
    level_by_outline memory stake old new [] calm.1 level

pub level_need : {Store : Type 0} (memory : MemoryIs Store) (stake : Stake) (given : Option ℕ) (old new : List Page) (why : Option Pause) (page : ℕ) (w : Why) → why ≡ Some (pause.Need page w)
    → IsLevel memory stake old → HasPaused given old why new → IsLevel memory stake new
level_need memory stake given old new why page w is level paused =
    let calm : HasPaused given old (Some (pause.Need page w)) new = subst (λ (v : Option Pause). HasPaused given old v new) is paused in
    level_by_outline memory stake old new [] calm.1 level

-- and where it has given one, it lags
pub lags_by : {Store : Type 0} (memory : MemoryIs Store) (stake : Stake) (given : Option ℕ) (old new : List Page) (returned : Returned) → IsLevel memory stake old
    → HasPaused given old (Some (pause.Gave returned)) new → Lags memory stake returned new
lags_by memory stake None old new returned level paused = absurd (paused.0 refl)
lags_by memory stake (Some page) old new returned level paused =
    level_lags memory stake old paused.1.before new page returned level paused.1.same paused.1.pages paused.1.what

pub lags_gave : {Store : Type 0} (memory : MemoryIs Store) (stake : Stake) (given : Option ℕ) (old new : List Page) (why : Option Pause) (returned : Returned) → why ≡ Some (pause.Gave returned)
    → IsLevel memory stake old → HasPaused given old why new → Lags memory stake returned new
lags_gave memory stake given old new why returned is level paused =
    lags_by memory stake given old new returned level (subst (λ (v : Option Pause). HasPaused given old v new) is paused)

and_left : (a b : Bool) → (a && b) ≡ true → a ≡ true
and_left true b e = refl
and_left false b e = e

and_right : (a b : Bool) → (a && b) ≡ true → b ≡ true
and_right true b e = e
and_right false b e = absurd (cc)

-- a page that came is the one of the guest's run
shows_right : {T E : Type 0} (r : Result T E) (g : GuestIs) (page : ℕ) → OnOk r (kind_at g.bus.pages page ≡ kind.Private) → comes_right g page ≡ true
    → OnOk r (shown (page_at g.bus.pages page) ≡ pages_seen (view_of g) page)
shows_right (Ok t) g page private comes =
    let shown_bytes = shown (page_at g.bus.pages page) in
    let seen_bytes = pages_seen (view_of g) page in
    let same : pointwise nat_eq shown_bytes seen_bytes ≡ true = subst (λ (k : PageKind). (is_away k || pointwise nat_eq shown_bytes seen_bytes) ≡ true) private comes in
    (slice_eq-Decides Decides-eqb shown_bytes seen_bytes (pointwise nat_eq shown_bytes seen_bytes) refl).0 same
shows_right (Err e) g page private comes = tt

-- once a page has come, or has stayed in its slot, the guest is its run still where its truth holds still
pub intact_still : {T E : Type 0} (r : Result T E) (g g' : GuestIs) (page : ℕ) (before after : Bool) → without_pages g' ≡ without_pages g → length g'.bus.pages ≡ length g.bus.pages
    → ((view : ℕ → List ℕ) → Faithful view g.bus.pages → (kind_at g.bus.pages page ≡ kind.Swapped → OnOk r (shown (page_at g'.bus.pages page) ≡ view page)) → Faithful view g'.bus.pages)
    → OnOk r (kind_at g'.bus.pages page ≡ kind.Private) → after ≡ (before && comes_right g' page) → after ≡ true → Intact g → Intact g'
intact_still r g g' page before after rest count faithful private is holds intact =
    let comes : comes_right g' page ≡ true = and_right before (comes_right g' page) (sym is ∙ holds) in
    let view : view_of g' ≡ view_of g = same_view g g' rest in
    let right : OnOk r (shown (page_at g'.bus.pages page) ≡ pages_seen (view_of g) page) =
    subst (λ (m : Machine). OnOk r (shown (page_at g'.bus.pages page) ≡ pages_seen m page)) view (shows_right r g' page private comes) in
    still_intact g g' rest count intact (faithful (pages_seen (view_of g)) intact.shows.pages (λ _. right))

pub held_before : (before after right : Bool) → after ≡ (before && right) → after ≡ true → before ≡ true
held_before before after right is holds = and_left before right (sym is ∙ holds)

-- where a run of steps has paused
pub level_before : {Store : Type 0} (memory : MemoryIs Store) (stake : Stake) (old new : List Page) (why : Option Pause) → IsLevel memory stake old → (given : Option ℕ) × HasPaused given old why new
    → LevelBefore memory stake why new
level_before memory stake old new why level paused = record { old = old; given = paused.0; level = level; paused = paused.1 }

pub level_calm : {Store : Type 0} (memory : MemoryIs Store) (stake : Stake) (new : List Page) (why : Option Pause) → why ≡ None → LevelBefore memory stake why new → IsLevel memory stake new
level_calm memory stake new why is b = level_none memory stake b.given b.old new why is b.level b.paused

pub level_needs : {Store : Type 0} (memory : MemoryIs Store) (stake : Stake) (new : List Page) (why : Option Pause) (page : ℕ) (w : Why) → why ≡ Some (pause.Need page w) → LevelBefore memory stake why new
    → IsLevel memory stake new
level_needs memory stake new why page w is b = level_need memory stake b.given b.old new why page w is b.level b.paused

pub lags_as : {Store : Type 0} (memory : MemoryIs Store) (stake : Stake) (new : List Page) (why : Option Pause) (returned : Returned) → why ≡ Some (pause.Gave returned) → LevelBefore memory stake why new
    → Lags memory stake returned new
lags_as memory stake new why returned is b = lags_gave memory stake b.given b.old new why returned is b.level b.paused

pub moved_stays : (g g' : GuestIs) → without_pages g' ≡ without_pages g → Stays g g'
moved_stays g g' rest = record {
  boot = ap (λ (h : GuestIs). h.boot) rest;
  head = ap (λ (h : GuestIs). h.head) rest;
  seats = ap (λ (h : GuestIs). h.seats) rest;
  limit = ap (λ (h : GuestIs). h.log.limit) rest;
}

pub moved_items : (g g' : GuestIs) → without_pages g' ≡ without_pages g → g'.log.items ≡ g.log.items
moved_items g g' rest = ap (λ (h : GuestIs). h.log.items) rest

pub moved_intact : (g g' : GuestIs) → without_pages g' ≡ without_pages g → length g'.bus.pages ≡ length g.bus.pages
    → ((view : ℕ → List ℕ) → Faithful view g.bus.pages → Faithful view g'.bus.pages) → Intact g → Intact g'
moved_intact g g' rest count faithful intact = still_intact g g' rest count intact (faithful (pages_seen (view_of g)) intact.shows.pages)

same_count : {T E : Type 0} (r : Result T E) (ps ps' : List Page) (p : ℕ) (q : Page) → OnOk r (ps' ≡ set ps p q) → OnErr r (ps' ≡ ps) → length ps' ≡ length ps
same_count (Ok u) ps ps' p q s none = ap length s ∙ length-set ps p q
same_count (Err e) ps ps' p q s none = ap length none

pub evicted_intact : {T E : Type 0} (r : Result T E) (g g' : GuestIs) (p : ℕ) (q : Page) → without_pages g' ≡ without_pages g → OnOk r (g'.bus.pages ≡ set g.bus.pages p q) → OnErr r (g'.bus.pages ≡ g.bus.pages)
    → ((view : ℕ → List ℕ) → Faithful view g.bus.pages → Faithful view g'.bus.pages) → Intact g → Intact g'
evicted_intact r g g' p q rest page none faithful intact = moved_intact g g' rest (same_count r g.bus.pages g'.bus.pages p q page none) faithful intact

-- ---- what was written to the slots

-- pages that are kept as the guest's run has them come right
pub right_by_faithful : (g : GuestIs) (page : ℕ) → page < length g.bus.pages → Faithful (pages_seen (view_of g)) g.bus.pages → comes_right g page ≡ true
right_by_faithful g page there all = by (page_at g.bus.pages page) (all page there)
  where
    same : (xs ys : List ℕ) → xs ≡ ys → pointwise nat_eq xs ys ≡ true
    same xs ys e = (slice_eq-Decides Decides-eqb xs ys (pointwise nat_eq xs ys) refl).1 e

    or_true : (b : Bool) → b ≡ true → (false || b) ≡ true
    or_true b e = e

    by : (q : Page) → IsFaithful (pages_seen (view_of g) page) q → (is_away (kind_of q) || pointwise nat_eq (shown q) (pages_seen (view_of g) page)) ≡ true
    by p.Zero f = same (shown p.Zero) (pages_seen (view_of g) page) f
    by p.Given f = same (shown p.Given) (pages_seen (view_of g) page) f
    by (p.Private frame) f = same (shown (p.Private frame)) (pages_seen (view_of g) page) f
    by (p.Shared share ticket) f = same (shown (p.Shared share ticket)) (pages_seen (view_of g) page) f
    by (p.Swapped slot digest) f = refl

-- a guest whose pages alone have moved
pub moved_written : (stake stake' : Stake) (g g' : GuestIs) → without_pages g' ≡ without_pages g
    → ((view : ℕ → List ℕ) → Kept (its_slots stake.contents) view g.bus.pages → Kept (its_slots stake'.contents) view g'.bus.pages) → RunIsWritten stake g → RunIsWritten stake' g'
moved_written stake stake' g g' rest kept written =
    subst (λ (m : Machine). Kept (its_slots stake'.contents) (pages_seen m) g'.bus.pages) (sym (same_view g g' rest)) (kept (pages_seen (view_of g)) written)

pub written_right : (stake : Stake) (g : GuestIs) (page : ℕ) → page < length g.bus.pages → RunIsWritten stake g → comes_right g page ≡ true
written_right stake g page there written = right_by_faithful g page there written.faithful

-- and one that has made steps, of which a page that was given handed something back
pub stepped_written : (stake stake' : Stake) (g g' : GuestIs)
    → (Intact g → (held : ℕ → Option (List ℕ)) → Kept held (pages_seen (view_of g)) g.bus.pages → Kept held (pages_seen (view_of g')) g'.bus.pages)
    → ((view : ℕ → List ℕ) → Kept (its_slots stake.contents) view g'.bus.pages → Kept (its_slots stake'.contents) view g'.bus.pages) → Intact g → RunIsWritten stake g → RunIsWritten stake' g'
stepped_written stake stake' g g' steps back intact written = back (pages_seen (view_of g')) (steps intact (its_slots stake.contents) written)

-- the page that the next step needs is one of those that stand after the run
pub needs_there : (needs : Option ℕ) (why : Option Pause) (given : Option ℕ) (old new : List Page) → IfSome needs (λ (page : ℕ). (w : Why) × (why ≡ Some (pause.Need page w)))
    → ((page : ℕ) (w : Why) → why ≡ Some (pause.Need page w) → page < length old) → HasPaused given old why new → IfSome needs (λ (page : ℕ). page < length new)
needs_there None why given old new needed there paused = tt
needs_there (Some page) why given old new needed there paused =
    let calm : HasPaused given old (Some (pause.Need page needed.0)) new = subst (λ (v : Option Pause). HasPaused given old v new) needed.1 paused in
    let same : length new ≡ length old = sym (outline_length new) ∙ ap length calm.1 ∙ outline_length old in
    subst (λ (n : ℕ). page < n) (sym same) (there page needed.0 needed.1)

-- ---- what a scan is answered

-- a page that an entry is admitted for was noted as another one
pub admits_another : (page other : GuestPage) (old new : List Page) (answer : Scan) → WasScanned page old answer new → answer ≡ scan.Admitted other → other ≢ page
admits_another page other old new answer w is =
    let a : Answered w.found old page (scan.Admitted other) = subst (λ (s : Scan). Answered w.found old page s) is w.answer in
    let b : Answers w.found (sha256 (shown (page_at old page.page))) page (offer.Match other) = a.2 in
    b.1
