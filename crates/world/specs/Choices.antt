-- Which pages leave their frames so that others get one, one after another, and by which words of the generator.
use Rattle.std.specs.Prelude.{◌≡◌, ℕ, true, false, ◌%◌, ◌<◌, ◌≤◌, ◌⊎◌, ◌↔◌, ◌++◌, Option, Some, None, List, [], ◌∷◌, length, map, slice_index_or}
use Rattle.world.specs.Below.{Books, EntriesAre, FreeList, IsNextResident, Private, SameNumbers, SomePlaceIn, Spared, Stays, Stream, TenantIs, Why, is_wanted, kind_at, next_u32, outline, page_at, pages_in, standing, stat_of, victim_of, view_of}
use Rattle.victims.specs.declared.wanted.Access.{Access}
use Rattle.victims.specs.declared.wanted.Access.TheVariants as access
use Rattle.world.specs.declared.running.End.{End}
use Rattle.world.specs.declared.running.End.TheVariants as ending
use Rattle.world.specs.declared.running.RunStop.TheVariants as halted
use Rattle.world.specs.Events.{steps_for}
use Rattle.world.specs.Evictions.{IsEvicted}
use Rattle.world.specs.Steps.{NoneNeeds}
use Rattle.world.specs.Victims.{IsPolicys}
use Rattle.world.specs.Worlds.{WorldIs, Changes, PagesMove, log_at, needed_by}

-- what a victim and its page are chosen by, and what its leaving changes: the words that the generator gives from now on, the guests,
-- what is free, and the frames that are shared
pub record Moment : Type 0 where
  pub words : Stream
  pub tenants : List TenantIs
  pub pool : FreeList
  pub slots : FreeList
  pub entries : EntriesAre

-- the moment at which a world is, with the words that a generator gives from now on
abbrev pub moment_of : {Store : Type 0} → Stream → WorldIs Store → Moment
moment_of words w = record { words = words; tenants = w.tenants; pool = w.pool; slots = w.slots; entries = w.shares.entries }

-- a relation leads from a moment to the next one, from that to the one after it, and so on
abbrev pub Chain : (Moment → Moment → Type 0) → Moment → List Moment → Moment → Type 0
Chain leads m [] m' = m' ≡ m
Chain leads m (next ∷ more) m' = leads m next × Chain leads next more m'

-- the guest of a number
abbrev pub guest_in : Moment → ℕ → TenantIs → TenantIs
guest_in m g t = slice_index_or m.tenants g t

-- of so many frames and slots the books are exact: so which guests have which pages says how many frames are free
abbrev pub IsBooked : ℕ → ℕ → Moment → Type 0
IsBooked frames slots m = Books frames slots (map pages_in m.tenants) m.entries m.pool m.slots

-- ---- frames that come free

-- no frame is free, and a page of the policy's victim leaves its frame, by the generator's next word
pub record IsEviction (frames slots tax : ℕ) (spared : Option Spared) (m m' : Moment) : Type 0 where
  pub full : m.pool.free ≡ []
  pub policy : IsPolicys tax m.words spared m.tenants m'.tenants m.slots
  pub rest : m'.words ≡ (next_u32 m.words).1
  pub booked : IsBooked frames slots m'

-- a word was drawn for a page, which stays in its frame
pub record IsStay (m m' : Moment) : Type 0 where
  pub rest : m'.words ≡ (next_u32 m.words).1
  pub tenants : m'.tenants ≡ m.tenants
  pub pool : m'.pool ≡ m.pool
  pub slots : SameNumbers m.slots m'.slots
  pub entries : m'.entries ≡ m.entries

-- no frame is free, and the page that was drawn is one of the policy's victim
pub record IsRefusal (tax : ℕ) (m m' : Moment) : Type 0 where
  pub full : m.pool.free ≡ []
  pub g : ℕ
  pub victim : victim_of tax (map stat_of m.tenants) ≡ Some g
  pub stay : IsStay m m'

-- no page leaves: nothing has changed, or the page that was drawn stays
abbrev pub NoneLeaves : ℕ → Moment → Moment → Type 0
NoneLeaves tax m m' = (m' ≡ m) ⊎ IsRefusal tax m m'

-- Room is made: pages of victims leave their frames one after another, none while a frame is free, and then none leaves any more.
pub record MakesRoom (frames slots tax : ℕ) (spared : Option Spared) (m m' : Moment) : Type 0 where
  -- the moments after each of them
  pub moments : List Moment
  pub last : Moment
  pub evictions : Chain (IsEviction frames slots tax spared) m moments last
  pub end : NoneLeaves tax last m'

-- ---- pages that get a frame

-- a frame is free, and a page of a guest gets one of its own or stays as it is; no other page has moved, and no word was drawn
pub record GetsFrame (frames slots g p : ℕ) (m m' : Moment) : Type 0 where
  pub free : 0 < length m.pool.free
  pub words : m'.words ≡ m.words
  pub moves : Changes PagesMove g m.tenants m'.tenants
  pub others : (t : TenantIs) (q : ℕ) → (q ≡ p → ⊥) → page_at (pages_in (guest_in m' g t)) q ≡ page_at (pages_in (guest_in m g t)) q
  pub its : ((t : TenantIs) → kind_at (pages_in (guest_in m' g t)) p ≡ Private) ⊎ (m'.tenants ≡ m.tenants)
  pub booked : IsBooked frames slots m'

-- room is made for a page of a guest, and where a frame is free then the page gets one
pub record IsSuppliedFor (frames slots tax : ℕ) (spared : Option Spared) (g p : ℕ) (m m' : Moment) : Type 0 where
  pub between : Moment
  pub room : MakesRoom frames slots tax spared m between
  pub supply : (m' ≡ between) ⊎ GetsFrame frames slots g p between m'

-- ---- faults

-- The page is supplied that a guest's next step needs, and none is spared. Where a store isn't true to digests, what is supplied may be
-- another page of that guest.
pub record IsForNeed (frames slots : ℕ) (trusted : Type 0) (tax g : ℕ) (m m' : Moment) : Type 0 where
  pub p : ℕ
  pub needed : trusted → (t : TenantIs) → (why : Why) × (needed_by (guest_in m g t) ≡ Some (p, why))
  pub supplied : IsSuppliedFor frames slots tax None g p m m'

-- nothing has changed, where no page is needed; or the page is supplied that is
abbrev pub IsFault : ℕ → ℕ → Type 0 → ℕ → ℕ → Moment → Moment → Type 0
IsFault frames slots trusted tax g m m' = (m' ≡ m) ⊎ IsForNeed frames slots trusted tax g m m'

-- the page that is needed has a frame of its own then
pub record MeetsNeed (frames slots : ℕ) (trusted : Type 0) (tax g : ℕ) (m m' : Moment) : Type 0 where
  pub its : IsForNeed frames slots trusted tax g m m'
  pub private : (t : TenantIs) → kind_at (pages_in (guest_in m' g t)) its.p ≡ Private

-- a fault that is answered by no error
abbrev pub IsMet : ℕ → ℕ → Type 0 → ℕ → ℕ → Moment → Moment → Type 0
IsMet frames slots trusted tax g m m' = (m' ≡ m) ⊎ MeetsNeed frames slots trusted tax g m m'

-- ---- runs of steps

-- So many steps of a guest. No word is drawn; and while the store is true to digests its pages are where they were, but for those that
-- the steps gave.
pub record AreSteps (frames slots : ℕ) (trusted : Type 0) (g count : ℕ) (m m' : Moment) : Type 0 where
  pub words : m'.words ≡ m.words
  pub logs : (h : ℕ) → log_at m'.tenants h ≡ log_at m.tenants h ++ steps_for h g count
  pub stays : Changes Stays g m.tenants m'.tenants
  pub needs_none : trusted → (t : TenantIs) → NoneNeeds count (view_of (guest_in m g t).guest) (pages_in (guest_in m g t)) (pages_in (guest_in m' g t))
  pub booked : IsBooked frames slots m'

-- no step is made, and the page that the next one needs is supplied
pub record IsForStep (frames slots : ℕ) (trusted : Type 0) (tax g : ℕ) (m m' : Moment) : Type 0 where
  pub between : Moment
  pub none : AreSteps frames slots trusted g 0 m between
  pub met : IsMet frames slots trusted tax g between m'

-- pages are supplied for the next step of a guest, at most 64 of them, and then it makes so many steps, at least one
pub record MakesSteps (frames slots : ℕ) (trusted : Type 0) (tax g count : ℕ) (m m' : Moment) : Type 0 where
  -- the moments after each of the pages
  pub moments : List Moment
  pub few : length moments ≤ 64
  pub last : Moment
  pub supplied : Chain (IsForStep frames slots trusted tax g) m moments last
  pub some : 0 < count
  pub steps : AreSteps frames slots trusted g count last m'

-- no step is made, and a fault may have been tried for it
pub record IsStuck (frames slots : ℕ) (trusted : Type 0) (tax g : ℕ) (m m' : Moment) : Type 0 where
  pub between : Moment
  pub none : AreSteps frames slots trusted g 0 m between
  pub fault : IsFault frames slots trusted tax g between m'

-- How no step is made: it needs one page more, or the log is full; or else a fault may have been tried for it.
abbrev pub StopsBy : ℕ → ℕ → Type 0 → ℕ → ℕ → End → Moment → Moment → Type 0
StopsBy frames slots trusted tax g ending.Done m m' = ⊥
StopsBy frames slots trusted tax g (ending.Need p why) m m' = AreSteps frames slots trusted g 0 m m'
StopsBy frames slots trusted tax g (ending.Stop halted.LogFull) m m' = AreSteps frames slots trusted g 0 m m'
StopsBy frames slots trusted tax g (ending.Stop _) m m' = IsStuck frames slots trusted tax g m m'

-- pages are supplied for the next step of a guest, at most 64 of them, and it makes none, for this reason
pub record MakesNone (frames slots : ℕ) (trusted : Type 0) (tax g : ℕ) (end : End) (m m' : Moment) : Type 0 where
  pub moments : List Moment
  pub few : length moments ≤ 64
  pub last : Moment
  pub supplied : Chain (IsForStep frames slots trusted tax g) m moments last
  pub stops : StopsBy frames slots trusted tax g end last m'

-- some number of steps, for which pages are supplied
abbrev pub MakesSome : ℕ → ℕ → Type 0 → ℕ → ℕ → Moment → Moment → Type 0
MakesSome frames slots trusted tax g m m' = (count : ℕ) × MakesSteps frames slots trusted tax g count m m'

-- after the last steps nothing happens where all were made, and else no more are made
abbrev pub EndsBy : ℕ → ℕ → Type 0 → ℕ → ℕ → End → Moment → Moment → Type 0
EndsBy frames slots trusted tax g ending.Done m m' = m' ≡ m
EndsBy frames slots trusted tax g end m m' = MakesNone frames slots trusted tax g end m m'

-- a guest runs and ends so: it makes steps, for which pages are supplied, up to where it makes none
pub record IsRun (frames slots : ℕ) (trusted : Type 0) (tax g : ℕ) (end : End) (m m' : Moment) : Type 0 where
  pub moments : List Moment
  pub last : Moment
  pub steps : Chain (MakesSome frames slots trusted tax g) m moments last
  pub ends : EndsBy frames slots trusted tax g end last m'

-- ---- what a debugger reaches

-- one of two pages that a debugger reaches stays as it is, or it is wanted and supplied, and both are spared
abbrev pub IsReached : ℕ → ℕ → ℕ → Access → ℕ → ℕ × ℕ → ℕ → Moment → Moment → Type 0
IsReached frames slots tax how g pages p m m' =
    (m' ≡ m) ⊎ (((t : TenantIs) → is_wanted how (kind_at (pages_in (guest_in m g t)) p) ≡ true)
    × IsSuppliedFor frames slots tax (Some (record { guest = g; pages = pages })) g p m m')

-- the first of two pages is supplied, and then the other, where the first is there
pub record AreReached (frames slots tax : ℕ) (how : Access) (g : ℕ) (pages : ℕ × ℕ) (m m' : Moment) : Type 0 where
  pub between : Moment
  pub first : IsReached frames slots tax how g pages pages.0 m between
  pub last : (m' ≡ between) ⊎ (((t : TenantIs) → is_wanted how (kind_at (pages_in (guest_in between g t)) pages.0) ≡ false)
      × IsReached frames slots tax how g pages pages.1 between m')

-- the pages that bytes of a guest lie in are supplied, and just these are spared
pub record ReachesBytes (frames slots tax : ℕ) (how : Access) (g address count : ℕ) (m m' : Moment) : Type 0 where
  pub pages : ℕ × ℕ
  pub these : (t : TenantIs) (q : ℕ) → SomePlaceIn (standing (guest_in m g t).guest) address count q ↔ ((q ≡ pages.0) ⊎ (q ≡ pages.1))
  pub reached : AreReached frames slots tax how g pages m m'

-- and then an item happens to the guest, by which no frame and no slot gets free or is taken, and no word is drawn
pub record WritesBytes (frames slots tax g address count : ℕ) (m m' : Moment) : Type 0 where
  pub between : Moment
  pub reaches : ReachesBytes frames slots tax access.Write g address count m between
  pub stays : Changes Stays g between.tenants m'.tenants
  pub around : m' ≡ record between { tenants = m'.tenants }

-- ---- turns of the policy

-- A page of a guest leaves its frame, by the generator's next word: the first resident one at or after the word modulo its pages. No other
-- page of any guest has moved.
pub record IsSwapOut (frames slots g : ℕ) (m m' : Moment) : Type 0 where
  pub p : ℕ
  pub page : (t : TenantIs) → IsNextResident None (pages_in (guest_in m g t)) ((next_u32 m.words).0 % length (pages_in (guest_in m g t))) p
  pub evicted : (t : TenantIs) → IsEvicted p (pages_in (guest_in m g t)) (pages_in (guest_in m' g t)) m.slots
  pub others : Changes PagesMove g m.tenants m'.tenants
  pub rest : m'.words ≡ (next_u32 m.words).1
  pub booked : IsBooked frames slots m'

-- pages leave one after another, of guests in the order of their numbers, from one number up to another; each leaves from the moment that
-- the one before it left
abbrev pub AreSwapOuts : ℕ → ℕ → ℕ → ℕ → Moment → List Moment → Moment → Type 0
AreSwapOuts frames slots from to m [] m' = (from ≤ to) × (m' ≡ m)
AreSwapOuts frames slots from to m (next ∷ more) m' =
    (g : ℕ) × (from ≤ g) × IsSwapOut frames slots g m next × AreSwapOuts frames slots g to next more m'

-- pages leave so
pub record SwapOuts (frames slots from to : ℕ) (m m' : Moment) : Type 0 where
  -- the moments after each of them
  pub moments : List Moment
  pub swap_outs : AreSwapOuts frames slots from to m moments m'

-- pages leave one after another, and then one is drawn that stays
pub record SwapOutsEnd (frames slots from to : ℕ) (m m' : Moment) : Type 0 where
  pub last : Moment
  pub before : SwapOuts frames slots from to m last
  pub stay : IsStay last m'

-- A turn of the policy draws a word for each page that is to leave, guest after guest, once the guests are blocked or go on and their
-- balloons have their targets, for which no page has moved.
pub record TurnsBy (frames slots : ℕ) (m m' : Moment) : Type 0 where
  pub turned : Moment
  pub pages : (g : ℕ) (t : TenantIs) → g < length m.tenants → outline (pages_in (guest_in turned g t)) ≡ outline (pages_in (guest_in m g t))
  pub around : turned ≡ record m { tenants = turned.tenants }
  pub swaps : SwapOuts frames slots 0 (length m.tenants) turned m' ⊎ SwapOutsEnd frames slots 0 (length m.tenants) turned m'
