-- Guests that leave their locks, the last one first.
use Rattle.std.proofs.Common.{◌≡◌, ℕ, List, [], ◌∷◌, ◌++◌, length, map, ap, sym, subst, ◌∙◌, refl, All, Some, arith, length-append}
use Rattle.std.proofs.lemmas.List.{length-map}
use Rattle.std.proofs.lemmas.List.Elements.{All-nil, All-cons, All-head, All-tail, All-pop}
use Rattle.guest_pages.specs.declared.page.Page.{Page}
use Rattle.guest_pages.specs.Outline.{outline}
use Rattle.machine_memory.specs.declared.stake.Stake.{Stake}
use Rattle.machine_memory.specs.Memories.{MemoryIs}
use Rattle.machine_memory.specs.Gathered.{GatheredIs}
use Rattle.cell.specs.declared.cell.Front.{Front}
use Rattle.cell.specs.declared.cell.Cell.{Cell}
use Rattle.cell.specs.declared.ends.Ended.{Ended}
use Rattle.cell.specs.Level.{IsMemoryOf}
use Rattle.guest.specs.Guests.{Intact}
use Rattle.guest_cells.specs.declared.handles.Handles.{Handles}
use Rattle.guest_cells.specs.Handles.{AreOfMemory, AreHandlesOf, AreHandlesOfAll}
use Rattle.guest_cells.specs.Ends.{HasEnded, HaveEnded, pages_left}
use Rattle.guest_cells.proofs.Places.{zip_popped, zip_pushed, zip_count, zip3_count, zip3_more, zip3_none}

-- the last of some guests, and the others
pub last_of_memory : {Store : Type 0} (memory : MemoryIs Store) (cells others : List (Cell Store)) (cell : Cell Store) → AreOfMemory memory cells → cells ≡ others ++ cell ∷ []
    → IsMemoryOf cell.front.first.value memory × AreOfMemory memory others
last_of_memory memory cells others cell of is =
    let P = λ (c : Cell _). IsMemoryOf c.front.first.value memory in
    let both = All-pop P cells others (Some cell) is of in
    (both.1, both.0)

pub last_handles : {Store : Type 0} (cells cells' : List (Cell Store)) (cell : Cell Store) (all all' : List Handles) (handles : Handles) → AreHandlesOfAll cells all → cells ≡ cells' ++ cell ∷ []
    → all ≡ all' ++ handles ∷ [] → AreHandlesOf cell.front handles × AreHandlesOfAll cells' all'
last_handles cells cells' cell all all' handles are first second =
    zip_popped (λ (c : Cell _) (h : Handles). AreHandlesOf c.front h) cells cells' cell all all' handles are first second

-- the handles of one more
pub handles_again : {Store : Type 0} (cells cells' : List (Cell Store)) (cell : Cell Store) (all all' : List Handles) (handles : Handles) → cells ≡ cells' ++ cell ∷ [] → all ≡ all' ++ handles ∷ []
    → AreHandlesOfAll cells' all' → AreHandlesOf cell.front handles → AreHandlesOfAll cells all
handles_again cells cells' cell all all' handles first second are its =
    zip_pushed (λ (c : Cell _) (h : Handles). AreHandlesOf c.front h) cells cells' cell all all' handles first second are its

pub handles_count : {Store : Type 0} (cells : List (Cell Store)) (all : List Handles) → AreHandlesOfAll cells all → length cells ≡ length all
handles_count cells all are = zip_count (λ (c : Cell _) (h : Handles). AreHandlesOf c.front h) cells all are

-- what a guest left, but for its stake
pub ended_without : {Store : Type 0} (is_true : Store → Type 0) (front : Front Store) (handles : Handles) (ended : Ended) (stake : Stake) → HasEnded is_true front handles ended → HasEnded is_true front handles (record ended { stake = stake })
ended_without is_true front handles ended stake has = record {
  boots = has.boots;
  head = has.head;
  limit = has.limit;
  is_run = has.is_run;
  lasts = has.lasts;
  seats = has.seats;
  input = has.input;
}

pub none_ended : {Store : Type 0} (is_true : Store → Type 0) (cells : List (Cell Store)) (all : List Handles) (ended : List Ended) → cells ≡ [] → all ≡ [] → ended ≡ [] → HaveEnded is_true cells all ended
none_ended is_true cells all ended first second third =
    zip3_none (λ (c : Cell _) (h : Handles) (e : Ended). HasEnded is_true c.front h e) cells all ended first second third

pub one_more_ended : {Store : Type 0} (is_true : Store → Type 0) (cells cells' : List (Cell Store)) (cell : Cell Store) (all all' : List Handles) (handles : Handles) (ended ended' : List Ended) (last : Ended) → cells ≡ cells' ++ cell ∷ []
    → all ≡ all' ++ handles ∷ [] → ended ≡ ended' ++ last ∷ [] → HaveEnded is_true cells' all' ended' → HasEnded is_true cell.front handles last → HaveEnded is_true cells all ended
one_more_ended is_true cells cells' cell all all' handles ended ended' last first second third have has =
    zip3_more (λ (c : Cell _) (h : Handles) (e : Ended). HasEnded is_true c.front h e) cells cells' cell all all' handles ended ended' last first second third have has

left_more : (ended : List Ended) (last : Ended) (more : List (List Page)) → map outline (pages_left (ended ++ last ∷ [])) ++ more ≡ map outline (pages_left ended) ++ (outline last.guest.bus.pages ∷ more)
left_more [] last more = refl
left_more (e ∷ ended) last more = ap (λ (l : List (List Page)). outline e.guest.bus.pages ∷ l) (left_more ended last more)

-- what is gathered of the last guest, and then of the others
pub gathered_more : (from via to : GatheredIs) (ended ended' : List Ended) (last : Ended) → via ≡ record from { pages = outline last.guest.bus.pages ∷ from.pages }
    → to ≡ record via { pages = map outline (pages_left ended') ++ via.pages } → ended ≡ ended' ++ last ∷ [] → to ≡ record from { pages = map outline (pages_left ended) ++ from.pages }
gathered_more from via to ended ended' last one others is =
    others ∙ ap (λ (v : GatheredIs). record v { pages = map outline (pages_left ended') ++ v.pages }) one
    ∙ ap (λ (l : List (List Page)). record from { pages = l }) (sym (left_more ended' last from.pages))
    ∙ ap (λ (l : List Ended). record from { pages = map outline (pages_left l) ++ from.pages }) (sym is)

pub ended_count : {Store : Type 0} (is_true : Store → Type 0) (cells : List (Cell Store)) (all : List Handles) (ended : List Ended) → HaveEnded is_true cells all ended → length cells ≡ length ended
ended_count is_true cells all ended have =
    let counts = zip3_count (λ (c : Cell _) (h : Handles) (e : Ended). HasEnded is_true c.front h e) cells all ended have in
    counts.0 ∙ counts.1

-- as many accounts are gathered as guests ended, where none was before
pub gathered_count : {Store : Type 0} (is_true : Store → Type 0) (from to : GatheredIs) (cells : List (Cell Store)) (all : List Handles) (ended : List Ended) (n : ℕ) → from.pages ≡ [] → to ≡ record from { pages = map outline (pages_left ended) ++ from.pages }
    → HaveEnded is_true cells all ended → length cells ≡ n → length to.pages ≡ n
gathered_count is_true from to cells all ended n none is have count =
    let parts : length to.pages ≡ length (map outline (pages_left ended) ++ from.pages) = ap (λ (v : GatheredIs). length v.pages) is in
    let empty : length from.pages ≡ 0 = ap length none in
    omega (arith, parts, length-append (map outline (pages_left ended)) from.pages, length-map (pages_left ended) outline, length-map ended (λ (e : Ended). e.guest.bus.pages), empty, ended_count is_true cells all ended have, count)

-- each guest is its run, where the store was true to digests at first
pub all_run : {Store : Type 0} (is_true : Store → Type 0) (memory : MemoryIs Store) (cells : List (Cell Store)) (all : List Handles) (ended : List Ended) → AreOfMemory memory cells
    → HaveEnded is_true cells all ended → is_true memory.first → All (λ (e : Ended). Intact e.guest) ended
all_run is_true memory [] [] [] of have trust = All-nil (λ (e : Ended). Intact e.guest)
all_run is_true memory [] [] (e ∷ ended) of have trust = absurd have
all_run is_true memory [] (h ∷ all) ended of have trust = absurd have
all_run is_true memory (c ∷ cells) [] ended of have trust = absurd have
all_run is_true memory (c ∷ cells) (h ∷ all) [] of have trust = absurd have
all_run is_true memory (c ∷ cells) (h ∷ all) (e ∷ ended) of have trust =
    let P = λ (c : Cell _). IsMemoryOf c.front.first.value memory in
    let trusted : is_true c.front.first.value.first = subst (λ (m : MemoryIs _). is_true m.first) (All-head P c cells of) trust in
    All-cons (λ (e : Ended). Intact e.guest) e ended (have.0.is_run (have.0.lasts trusted)) (all_run is_true memory cells all ended (All-tail P c cells of) have.1 trust)
