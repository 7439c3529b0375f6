-- Guests that come behind their locks.
use Rattle.std.proofs.Common.{◌≡◌, ℕ, suc, ◌+◌, ◌<◌, get_or, List, [], ◌∷◌, ◌++◌, length, map, ap, sym, subst, ◌∙◌, refl, All, Option, arith, length-append}
use Rattle.std.proofs.lemmas.List.Elements.{All-push, All-head, All-tail}
use Rattle.guest_pages.specs.declared.page.Page.{Page}
use Rattle.guest.specs.Guests.{GuestIs, view_of, Intact}
use Rattle.guest.specs.Views.{pages_seen}
use Rattle.machine_memory.specs.Dealt.{Each, IsKeptBy}
use Rattle.machine_memory.specs.declared.stake.Stake.{Stake}
use Rattle.shared_pool.specs.Pools.{PassIs}
use Rattle.machine_memory.specs.Memories.{MemoryIs, IsPassOf, IsLevel, AreLevel}
use Rattle.console_queue.specs.Queues.{FeedIs}
use Rattle.cell.specs.declared.cell.Cell.{Cell}
use Rattle.cell.specs.Level.{IsMemoryOf}
use Rattle.cell.specs.Sitting.{RunIsWritten}
use Rattle.tenant.specs.Loading.{IsAtBoot}
use Rattle.booting.specs.Boots.{AreAtBoot, KeepsPages}
use Rattle.booting.specs.declared.asked.NewGuest.{NewGuest}
use Rattle.guest_cells.specs.declared.handles.Handles.{Handles}
use Rattle.guest_cells.specs.Handles.{AreOfMemory, AreHandlesOfAll}
use Rattle.guest_cells.specs.Asked.{IsReady, AreReady, IsAsAsked, AreAsAsked, RunsAreWritten}
use Rattle.guest_cells.proofs.Places.{zip_popped, zip_count, zip3_count, zip3_more, zip3_none}

-- seats are no part of what a guest's run is
pub intact_still : (guest : GuestIs) (seats : ℕ) → Intact guest → Intact (record guest { seats = seats })
intact_still guest seats intact = record { shows = intact.shows; accepted = intact.accepted }

pub four_seats : (g a b c d : GuestIs) → g.seats ≡ 0 → a ≡ record g { seats = g.seats + 1 } → b ≡ record a { seats = a.seats + 1 } → c ≡ record b { seats = b.seats + 1 }
    → d ≡ record c { seats = c.seats + 1 } → d ≡ record g { seats = 4 }
four_seats g a b c d none first second third fourth =
    fourth ∙ ap (λ (h : GuestIs). record h { seats = h.seats + 1 }) (third ∙ ap (λ (h : GuestIs). record h { seats = h.seats + 1 }) (second ∙ ap (λ (h : GuestIs). record h { seats = h.seats + 1 }) first))
    ∙ ap (λ (n : ℕ). record g { seats = n + 1 + 1 + 1 + 1 }) none

-- ---- the last guest of those that wait

pub last_ready : (log_runs : ℕ) (asked asked' : List NewGuest) (it : NewGuest) (guests guests' : List GuestIs) (guest : GuestIs) → AreReady log_runs asked guests
    → asked ≡ asked' ++ it ∷ [] → guests ≡ guests' ++ guest ∷ [] → IsReady log_runs it guest × AreReady log_runs asked' guests'
last_ready log_runs asked asked' it guests guests' guest are first second = zip_popped (IsReady log_runs) asked asked' it guests guests' guest are first second

pub ready_count : (log_runs : ℕ) (asked : List NewGuest) (guests : List GuestIs) → AreReady log_runs asked guests → length asked ≡ length guests
ready_count log_runs asked guests are = zip_count (IsReady log_runs) asked guests are

pages_of_more : (guests : List GuestIs) (guest : GuestIs) → map (λ (g : GuestIs). g.bus.pages) (guests ++ guest ∷ []) ≡ map (λ (g : GuestIs). g.bus.pages) guests ++ guest.bus.pages ∷ []
pages_of_more [] guest = refl
pages_of_more (g ∷ guests) guest = ap (λ (l : List (List Page)). g.bus.pages ∷ l) (pages_of_more guests guest)

level_count : {Store : Type 0} (m : MemoryIs Store) (stakes : List Stake) (all : List (List Page)) → AreLevel m stakes all → length stakes ≡ length all
level_count m [] [] are = refl
level_count m [] (ps ∷ all) are = absurd are
level_count m (s ∷ stakes) [] are = absurd are
level_count m (s ∷ stakes) (ps ∷ all) are = omega (arith, level_count m stakes all are.1)

level_last : {Store : Type 0} (m : MemoryIs Store) (stakes : List Stake) (all : List (List Page)) (stake : Stake) (pages : List Page)
    → AreLevel m (stakes ++ stake ∷ []) (all ++ pages ∷ []) → IsLevel m stake pages × AreLevel m stakes all
level_last m [] [] stake pages are = (are.0, tt)
level_last m [] (ps ∷ all) stake pages are = absurd (omega (arith, level_count m [] (all ++ pages ∷ []) are.1, length-append all (pages ∷ [])))
level_last m (s ∷ stakes) [] stake pages are = absurd (omega (arith, level_count m (stakes ++ stake ∷ []) [] are.1, length-append stakes (stake ∷ [])))
level_last m (s ∷ stakes) (ps ∷ all) stake pages are = let more = level_last m stakes all stake pages are.1 in (more.0, (are.0, more.1))

pub last_level : {Store : Type 0} (m : MemoryIs Store) (stakes stakes' : List Stake) (stake : Stake) (guests guests' : List GuestIs) (guest : GuestIs)
    → AreLevel m stakes (map (λ (g : GuestIs). g.bus.pages) guests) → stakes ≡ stakes' ++ stake ∷ [] → guests ≡ guests' ++ guest ∷ []
    → IsLevel m stake guest.bus.pages × AreLevel m stakes' (map (λ (g : GuestIs). g.bus.pages) guests')
last_level m stakes stakes' stake guests guests' guest are first second =
    level_last m stakes' (map (λ (g : GuestIs). g.bus.pages) guests') stake guest.bus.pages
    (subst (λ (l : List Stake). AreLevel m l (map (λ (g : GuestIs). g.bus.pages) guests' ++ guest.bus.pages ∷ [])) first
    (subst (AreLevel m stakes) (ap (map (λ (g : GuestIs). g.bus.pages)) second ∙ pages_of_more guests' guest) are))

-- ---- what was written to the slots of guests

-- seats are no part of it
pub written_still : (stake stake' : Stake) (guest guest' : GuestIs) (seats : ℕ) → stake' ≡ stake → guest' ≡ record guest { seats = seats } → RunIsWritten stake guest → RunIsWritten stake' guest'
written_still stake stake' guest guest' seats same seated written =
    subst (λ (g : GuestIs). RunIsWritten stake' g) (sym seated) (subst (λ (s : Stake). RunIsWritten s (record guest { seats = seats })) (sym same) written)

pub last_written : (stakes stakes' : List Stake) (stake : Stake) (guests guests' : List GuestIs) (guest : GuestIs) → RunsAreWritten stakes guests → stakes ≡ stakes' ++ stake ∷ []
    → guests ≡ guests' ++ guest ∷ [] → RunIsWritten stake guest × RunsAreWritten stakes' guests'
last_written stakes stakes' stake guests guests' guest are first second = zip_popped RunIsWritten stakes stakes' stake guests guests' guest are first second

-- of guests that keep their pages, in a store that holds this
pub runs_written : (held : ℕ → Option (List ℕ)) (stakes : List Stake) (guests : List GuestIs) → All (KeepsPages held) guests
    → Each (IsKeptBy held) stakes (map (λ (g : GuestIs). g.bus.pages) guests) → RunsAreWritten stakes guests
runs_written held [] [] kept each = tt
runs_written held [] (g ∷ guests) kept each = absurd each
runs_written held (s ∷ stakes) [] kept each = absurd each
runs_written held (s ∷ stakes) (g ∷ guests) kept each =
    (each.0 (pages_seen (view_of g)) (All-head (KeepsPages held) g guests kept), runs_written held stakes guests (All-tail (KeepsPages held) g guests kept) each.1)

-- ---- those that are behind locks

pub none_asked : {Store : Type 0} (log_runs : ℕ) (asked : List NewGuest) (cells : List (Cell Store)) (all : List Handles) → asked ≡ [] → cells ≡ [] → all ≡ [] → AreAsAsked log_runs asked cells all
none_asked log_runs asked cells all first second third =
    zip3_none (λ (it : NewGuest) (c : Cell _) (h : Handles). IsAsAsked log_runs it c.front h) asked cells all first second third

pub one_more_asked : {Store : Type 0} (log_runs : ℕ) (asked asked' : List NewGuest) (it : NewGuest) (cells cells' : List (Cell Store)) (cell : Cell Store) (all all' : List Handles) (handles : Handles)
    → asked ≡ asked' ++ it ∷ [] → cells ≡ cells' ++ cell ∷ [] → all ≡ all' ++ handles ∷ [] → AreAsAsked log_runs asked' cells' all' → IsAsAsked log_runs it cell.front handles
    → AreAsAsked log_runs asked cells all
one_more_asked log_runs asked asked' it cells cells' cell all all' handles first second third are is =
    zip3_more (λ (it : NewGuest) (c : Cell _) (h : Handles). IsAsAsked log_runs it c.front h) asked asked' it cells cells' cell all all' handles first second third are is

pub more_of_memory : {Store : Type 0} (memory : MemoryIs Store) (cells cells' : List (Cell Store)) (cell : Cell Store) → cells ≡ cells' ++ cell ∷ [] → AreOfMemory memory cells'
    → IsMemoryOf cell.front.first.value memory → AreOfMemory memory cells
more_of_memory memory cells cells' cell is are one =
    let P = λ (c : Cell _). IsMemoryOf c.front.first.value memory in
    subst (All P) (sym is) (All-push P cells' cell are one)

-- what was handed out at first are handles of the guests
pub asked_handles : {Store : Type 0} (log_runs : ℕ) (asked : List NewGuest) (cells : List (Cell Store)) (all : List Handles) → AreAsAsked log_runs asked cells all → AreHandlesOfAll cells all
asked_handles log_runs [] [] [] are = tt
asked_handles log_runs [] [] (h ∷ all) are = absurd are
asked_handles log_runs [] (c ∷ cells) all are = absurd are
asked_handles log_runs (it ∷ asked) [] all are = absurd are
asked_handles log_runs (it ∷ asked) (c ∷ cells) [] are = absurd are
asked_handles log_runs (it ∷ asked) (c ∷ cells) (h ∷ all) are =
    (record { seats = are.0.seats; feed = ap (λ (f : FeedIs). f.queue) are.0.feed }, asked_handles log_runs asked cells all are.1)

pub none_ready : (log_runs : ℕ) (asked : List NewGuest) (guests : List GuestIs) → AreReady log_runs asked guests → length guests ≡ 0 → asked ≡ []
none_ready log_runs [] guests are none = refl
none_ready log_runs (it ∷ asked) guests are none = absurd (omega (arith, ready_count log_runs (it ∷ asked) guests are, none))

pub housed_count : {Store : Type 0} (log_runs : ℕ) (asked : List NewGuest) (cells : List (Cell Store)) (all : List Handles) → AreAsAsked log_runs asked cells all → length asked ≡ length cells
housed_count log_runs asked cells all are = (zip3_count (λ (it : NewGuest) (c : Cell _) (h : Handles). IsAsAsked log_runs it c.front h) asked cells all are).0

-- ---- what was booted

-- guests that are at the boot of what was asked for, and intact, are ready
pub ready_each : (log_runs : ℕ) (asked : List NewGuest) (guests : List GuestIs) → length guests ≡ length asked
    → ((g : ℕ) (it : NewGuest) (guest : GuestIs) → g < length asked → IsAtBoot (get_or asked g it).profile (get_or asked g it).image.value (get_or asked g it).pages log_runs (get_or guests g guest))
    → All Intact guests → AreReady log_runs asked guests
ready_each log_runs [] [] same each intact = tt
ready_each log_runs [] (guest ∷ guests) same each intact = absurd (omega (arith, same))
ready_each log_runs (it ∷ asked) [] same each intact = absurd (omega (arith, same))
ready_each log_runs (it ∷ asked) (guest ∷ guests) same each intact = (
  record { at_boot = each 0 it guest (omega arith); intact = All-head Intact guest guests intact },
  ready_each log_runs asked guests (omega (arith, same)) (λ g i b inside. each (suc g) i b (omega (arith, inside))) (All-tail Intact guest guests intact),
)

pub ready_from : (log_runs : ℕ) (wanted asked : List NewGuest) (guests : List GuestIs) → asked ≡ wanted → AreAtBoot log_runs wanted guests → All Intact guests → AreReady log_runs asked guests
ready_from log_runs wanted asked guests is boot intact =
    subst (λ (l : List NewGuest). AreReady log_runs l guests) (sym is) (ready_each log_runs wanted guests boot.count boot.each intact)

-- the same list, by another name
pub asked_by : {Store : Type 0} (log_runs : ℕ) (wanted asked : List NewGuest) (cells : List (Cell Store)) (all : List Handles) → asked ≡ wanted → AreAsAsked log_runs asked cells all → AreAsAsked log_runs wanted cells all
asked_by log_runs wanted asked cells all is are = subst (λ (l : List NewGuest). AreAsAsked log_runs l cells all) is are

pub pass_as : {Store : Type 0} (memory memory' : MemoryIs Store) (pass pass' : PassIs) → memory' ≡ memory → pass' ≡ pass → IsPassOf memory pass → IsPassOf memory' pass'
pass_as memory memory' pass pass' same too of =
    subst (λ (m : MemoryIs _). IsPassOf m pass') (sym same) (subst (IsPassOf memory) (sym too) of)
