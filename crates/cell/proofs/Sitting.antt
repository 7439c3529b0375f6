-- A guest under its lock that a call has changed.
use Rattle.std.proofs.Common.{◌≡◌, ℕ, Bool, true, List, [], ◌∷◌, ◌++◌, Option, Result, Ok, Err, OnOk, OnErr, ap, sym, subst, ◌∙◌, append-nil}
use Rattle.std.proofs.lemmas.Grind.{flat_map-append}
use Rattle.items.specs.declared.item.Item.{Item}
use Rattle.items.specs.declared.item.What.TheVariants as what
use Rattle.items.specs.Entries.{steps_of}
use Rattle.log_seats.specs.Heads.{SeatIs}
use Rattle.guest.specs.Guests.{GuestIs, view_of, Intact}
use Rattle.console_queue.specs.Queues.{TakeIs}
use Rattle.lasting_truth.specs.Truths.{KeeperIs, WitnessIs}
use Rattle.seated.specs.Acts.{Acts, Stays}
use Rattle.cell.specs.declared.cell.Front.{Front}
use Rattle.cell.specs.declared.cell.Locked.{Locked}
use Rattle.cell.specs.Inputs.{byte_in, bytes_in}
use Rattle.page_moves.specs.Faith.{Kept}
use Rattle.lent_pages.specs.Contents.{its_slots}
use Rattle.guest.specs.Views.{pages_seen}
use Rattle.machine_memory.specs.declared.stake.Stake.{Stake}
use Rattle.machine_memory.specs.Memories.{IsLevel}
use Rattle.cell.specs.Sitting.{Sits, RunIsWritten}
use Rattle.cell.proofs.Level.{level_on}
use Rattle.guest_pages.specs.Outline.{outline}
use Rattle.cell.proofs.Slicing.{no_byte_in_steps}

pub sits_on : {S : Type 0} (is_true : S → Type 0) (front : Front S) (l l' : Locked) → Sits is_true front l → Stays l.guest.value l'.guest.value → (Intact l.guest.value → Intact l'.guest.value) → l'.keeper ≡ l.keeper
    → l'.taker.queue ≡ l.taker.queue → l'.taker.taken ≡ bytes_in l'.guest.value.log.items → IsLevel front.first.value l'.stake l'.guest.value.bus.pages
    → (Intact l.guest.value → RunIsWritten l.stake l.guest.value → RunIsWritten l'.stake l'.guest.value) → Sits is_true front l'
sits_on is_true front l l' sits stays intact keeper queue taken level written = record {
  boots = stays.boot ∙ sits.boots;
  its_head = stays.head ∙ sits.its_head;
  its_limit = stays.limit ∙ sits.its_limit;
  its_truth = ap (λ (k : KeeperIs). k.truth) keeper ∙ sits.its_truth;
  its_queue = queue ∙ sits.its_queue;
  intact = λ holds. intact (sits.intact (sym (ap (λ (k : KeeperIs). k.holds) keeper) ∙ holds));
  taken = taken;
  level = level;
  lasts = λ trust. ap (λ (k : KeeperIs). k.holds) keeper ∙ sits.lasts trust;
  written = λ trust. written (sits.intact (sits.lasts trust)) (sits.written trust);
}

-- the same where the stake stays
pub sits_at : {S : Type 0} (is_true : S → Type 0) (front : Front S) (l l' : Locked) → Sits is_true front l → Stays l.guest.value l'.guest.value → (Intact l.guest.value → Intact l'.guest.value) → l'.keeper ≡ l.keeper
    → l'.taker.queue ≡ l.taker.queue → l'.taker.taken ≡ bytes_in l'.guest.value.log.items → outline l'.guest.value.bus.pages ≡ outline l.guest.value.bus.pages → l'.stake ≡ l.stake
    → (Intact l.guest.value → (held : ℕ → Option (List ℕ)) → Kept held (pages_seen (view_of l.guest.value)) l.guest.value.bus.pages → Kept held (pages_seen (view_of l'.guest.value)) l'.guest.value.bus.pages)
    → Sits is_true front l'
sits_at is_true front l l' sits stays intact keeper queue taken places stake kept =
    sits_on is_true front l l' sits stays intact keeper queue taken (level_on front.first.value l.stake l'.stake l.guest.value.bus.pages l'.guest.value.bus.pages places stake sits.level)
    (λ whole written. subst (λ (s : Stake). RunIsWritten s l'.guest.value) (sym stake) (kept whole (its_slots l.stake.contents) written))

-- and of a guest that was reached through its box
pub sits_through : {S : Type 0} (is_true : S → Type 0) (front : Front S) (l l' : Locked) (g : GuestIs) → g ≡ l.guest.value → Sits is_true front l → Stays g l'.guest.value → (Intact g → Intact l'.guest.value)
    → l'.keeper ≡ l.keeper → l'.taker.queue ≡ l.taker.queue → l'.taker.taken ≡ bytes_in l'.guest.value.log.items → outline l'.guest.value.bus.pages ≡ outline g.bus.pages → l'.stake ≡ l.stake
    → (Intact g → (held : ℕ → Option (List ℕ)) → Kept held (pages_seen (view_of g)) g.bus.pages → Kept held (pages_seen (view_of l'.guest.value)) l'.guest.value.bus.pages) → Sits is_true front l'
sits_through is_true front l l' g is sits stays intact keeper queue taken places stake kept =
    sits_at is_true front l l' sits (subst (λ (h : GuestIs). Stays h l'.guest.value) is stays) (λ whole. intact (subst Intact (sym is) whole)) keeper queue taken (places ∙ ap (λ (h : GuestIs). outline h.bus.pages) is) stake
    (subst (λ (h : GuestIs). Intact h → (held : ℕ → Option (List ℕ)) → Kept held (pages_seen (view_of h)) h.bus.pages → Kept held (pages_seen (view_of l'.guest.value)) l'.guest.value.bus.pages) is kept)

pub joined_bytes : (xs ys : List Item) → bytes_in (xs ++ ys) ≡ bytes_in xs ++ bytes_in ys
joined_bytes xs ys = flat_map-append (λ (i : Item). byte_in i.what) xs ys

pub no_byte_added : (xs : List Item) (i : Item) → byte_in i.what ≡ [] → bytes_in (xs ++ i ∷ []) ≡ bytes_in xs
no_byte_added xs i none =
    joined_bytes xs (i ∷ []) ∙ ap (λ (l : List ℕ). bytes_in xs ++ l) (append-nil (byte_in i.what) ∙ none) ∙ append-nil (bytes_in xs)

-- where neither the guest, nor the truth, nor the right to take bytes has changed
pub sits_still : {S : Type 0} (is_true : S → Type 0) (front : Front S) (l l' : Locked) → Sits is_true front l → l'.guest.value ≡ l.guest.value → l'.keeper ≡ l.keeper → l'.taker ≡ l.taker → l'.stake ≡ l.stake → Sits is_true front l'
sits_still is_true front l l' sits guest keeper taker stake = record {
  boots = ap (λ (g : GuestIs). g.boot) guest ∙ sits.boots;
  its_head = ap (λ (g : GuestIs). g.head) guest ∙ sits.its_head;
  its_limit = ap (λ (g : GuestIs). g.log.limit) guest ∙ sits.its_limit;
  its_truth = ap (λ (k : KeeperIs). k.truth) keeper ∙ sits.its_truth;
  its_queue = ap (λ (t : TakeIs). t.queue) taker ∙ sits.its_queue;
  intact = λ holds. subst Intact (sym guest) (sits.intact (sym (ap (λ (k : KeeperIs). k.holds) keeper) ∙ holds));
  taken = ap (λ (t : TakeIs). t.taken) taker ∙ sits.taken ∙ ap (λ (g : GuestIs). bytes_in g.log.items) (sym guest);
  level = level_on front.first.value l.stake l'.stake l.guest.value.bus.pages l'.guest.value.bus.pages (ap (λ (g : GuestIs). outline g.bus.pages) guest) stake sits.level;
  lasts = λ trust. ap (λ (k : KeeperIs). k.holds) keeper ∙ sits.lasts trust;
  written = λ trust. subst (λ (g : GuestIs). RunIsWritten l'.stake g) (sym guest) (subst (λ (s : Stake). RunIsWritten s l.guest.value) (sym stake) (sits.written trust));
}

pub stayed : (g g' g'' : GuestIs) → Stays g g' → Stays g' g'' → Stays g g''
stayed g g' g'' a b = record { boot = b.boot ∙ a.boot; head = b.head ∙ a.head; seats = b.seats ∙ a.seats; limit = b.limit ∙ a.limit }

-- The log's items after items of a seat were added, which has seen the log.
added : (s s' : SeatIs) (before mine items : List Item) → Acts s before mine s' → s'.saw ≡ items → items ≡ before ++ mine
added s s' before mine items a saw = sym saw ∙ ap (λ (t : SeatIs). t.saw) a.its_seat

-- a byte that was taken is the input that was added
pub byte_added : (s s' : SeatIs) (before items : List Item) (byte : ℕ) (taken taken' : List ℕ) → Acts s before (record { seat = s.number; what = what.In byte } ∷ []) s' → s'.saw ≡ items
    → taken ≡ bytes_in before → taken' ≡ taken ++ byte ∷ [] → taken' ≡ bytes_in items
byte_added s s' before items byte taken taken' a saw was now =
    now ∙ ap (λ (l : List ℕ). l ++ byte ∷ []) was ∙ sym (joined_bytes before (record { seat = s.number; what = what.In byte } ∷ []))
    ∙ ap bytes_in (sym (added s s' before (record { seat = s.number; what = what.In byte } ∷ []) items a saw))

-- steps add no input
pub steps_added : (s s' : SeatIs) (before items : List Item) (count : ℕ) (taken : List ℕ) → Acts s before (steps_of s.number count) s' → s'.saw ≡ items → taken ≡ bytes_in before → taken ≡ bytes_in items
steps_added s s' before items count taken a saw was =
    was ∙ sym (append-nil (bytes_in before)) ∙ sym (ap (λ (l : List ℕ). bytes_in before ++ l) (no_byte_in_steps s.number count))
    ∙ sym (joined_bytes before (steps_of s.number count)) ∙ ap bytes_in (sym (added s s' before (steps_of s.number count) items a saw))

-- what a witness knows that has looked
pub looked_true : (w w' : WitnessIs) (holds : Bool) → w' ≡ record w { held = holds } → holds ≡ true → w'.held ≡ true
looked_true w w' holds looked now = ap (λ (v : WitnessIs). v.held) looked ∙ now

-- an item that is no input adds none, and no more does one that was refused
pub acted_bytes : {T E : Type 0} (r : Result T E) (s s' : SeatIs) (before items : List Item) (item : Item) → OnOk r (Acts s before (item ∷ []) s') → OnErr r (items ≡ before) → s'.saw ≡ items → byte_in item.what ≡ []
    → bytes_in items ≡ bytes_in before
acted_bytes (Ok t) s s' before items item acts same saw none = ap bytes_in (added s s' before (item ∷ []) items acts saw) ∙ no_byte_added before item none
acted_bytes (Err e) s s' before items item acts same saw none = ap bytes_in same
