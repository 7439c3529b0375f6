-- A guest under its lock, of which a page has come.
use Rattle.std.proofs.Common.{◌≡◌, ℕ, true, false, Bool, ◌&&◌, ap, sym, ◌∙◌}
use Rattle.log_seats.specs.Heads.{SeatIs}
use Rattle.guest.specs.Guests.{GuestIs, Intact, without_pages}
use Rattle.console_queue.specs.Queues.{TakeIs}
use Rattle.lasting_truth.specs.Truths.{KeeperIs}
use Rattle.seated.specs.Acts.{Sees}
use Rattle.cell.specs.declared.cell.Front.{Front}
use Rattle.cell.specs.declared.cell.Locked.{Locked}
use Rattle.cell.specs.declared.seat.Seat.{Seat}
use Rattle.cell.specs.Inputs.{bytes_in}
use Rattle.machine_memory.specs.Memories.{MemoryIs, IsLevel}
use Rattle.cell.specs.Level.{IsMemoryOf}
use Rattle.cell.proofs.Level.{trusted_in}
use Rattle.cell.specs.Slices.{Slice}
use Rattle.cell.specs.Sitting.{Sits, RunIsWritten, Narrows, Lasts}
use Rattle.cell.proofs.Lent.{held_before}
use Rattle.cell.proofs.Slicing.{none_made, joined_none}

and_both : (a b : Bool) → a ≡ true → b ≡ true → (a && b) ≡ true
and_both true b first second = second
and_both false b first second = first

pub sits_narrowed : {S : Type 0} (is_true : S → Type 0) (memory : MemoryIs S) (front : Front S) (l l' : Locked) (right : Bool) → Sits is_true front l → IsMemoryOf front.first.value memory
    → without_pages l'.guest.value ≡ without_pages l.guest.value → l'.keeper ≡ record l.keeper { holds = l.keeper.holds && right }
    → (l'.keeper.holds ≡ true → Intact l.guest.value → Intact l'.guest.value) → l'.taker ≡ l.taker → IsLevel front.first.value l'.stake l'.guest.value.bus.pages
    → (is_true memory.first → RunIsWritten l.stake l.guest.value → right ≡ true)
    → (is_true memory.first → RunIsWritten l.stake l.guest.value → RunIsWritten l'.stake l'.guest.value) → Sits is_true front l'
sits_narrowed is_true memory front l l' right sits of rest keeper intact taker level comes written = record {
  boots = ap (λ (g : GuestIs). g.boot) rest ∙ sits.boots;
  its_head = ap (λ (g : GuestIs). g.head) rest ∙ sits.its_head;
  its_limit = ap (λ (g : GuestIs). g.log.limit) rest ∙ sits.its_limit;
  its_truth = ap (λ (k : KeeperIs). k.truth) keeper ∙ sits.its_truth;
  its_queue = ap (λ (t : TakeIs). t.queue) taker ∙ sits.its_queue;
  intact = λ holds. intact holds (sits.intact (held_before l.keeper.holds l'.keeper.holds right (ap (λ (k : KeeperIs). k.holds) keeper) holds));
  taken = ap (λ (t : TakeIs). t.taken) taker ∙ sits.taken ∙ ap (λ (g : GuestIs). bytes_in g.log.items) (sym rest);
  level = level;
  lasts = λ trust. ap (λ (k : KeeperIs). k.holds) keeper ∙ and_both l.keeper.holds right (sits.lasts trust) (comes (trusted_in is_true front.first.value memory of trust) (sits.written trust));
  written = λ trust. written (trusted_in is_true front.first.value memory of trust) (sits.written trust);
}

pub narrows : (l l' : Locked) (right : Bool) → l'.keeper ≡ record l.keeper { holds = l.keeper.holds && right } → Narrows l l'
narrows l l' right keeper = record { held = held_before l.keeper.holds l'.keeper.holds right (ap (λ (k : KeeperIs). k.holds) keeper) }

pub narrows_none : (l : Locked) → Narrows l l
narrows_none l = record { held = λ holds. holds }

pub narrows_same : (l l' : Locked) → l'.keeper ≡ l.keeper → Narrows l l'
narrows_same l l' keeper = record { held = λ holds. sym (ap (λ (k : KeeperIs). k.holds) keeper) ∙ holds }

pub narrows_on : (l l' l'' : Locked) → Narrows l l' → Narrows l' l'' → Narrows l l''
narrows_on l l' l'' a b = record { held = λ holds. a.held (b.held holds) }

pub lasts_on : (s s' s'' : Seat) → Lasts s s' → Lasts s' s'' → Lasts s s''
lasts_on s s' s'' a b = record { same_truth = b.same_truth ∙ a.same_truth; held = λ holds. a.held (b.held holds) }

pub slice_after : (s s' : SeatIs) (count : ℕ) (s'' : SeatIs) → Sees s s' → Slice s' count s'' → Slice s count s''
slice_after s s' count s'' seen slice = joined_none s s' count s'' (none_made s s' seen) slice
