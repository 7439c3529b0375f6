-- Accounts of guests whose locks are held.
use Rattle.std.proofs.Common.{◌≡◌, List, ◌∷◌, length, map, ap, sym, subst, ◌∙◌, arith, All}
use Rattle.std.proofs.lemmas.List.{length-map}
use Rattle.std.proofs.lemmas.List.Elements.{All-head, All-tail}
use Rattle.guest_pages.specs.declared.page.Page.{Page}
use Rattle.guest_pages.specs.Outline.{outline}
use Rattle.accounts.specs.declared.account.Extent.{Extent}
use Rattle.machine_memory.specs.declared.audit.BookCounts.{BookCounts}
use Rattle.machine_memory.specs.Memories.{MemoryIs, IsLevel}
use Rattle.machine_memory.specs.declared.stake.Stake.{Stake}
use Rattle.machine_memory.specs.Audits.{IsCountOf}
use Rattle.ledger.specs.Shares.{ShareIs}
use Rattle.slot_contents.specs.declared.content.Content.{Content}
use Rattle.lent_pages.specs.Contents.{its_slots}
use Rattle.page_moves.specs.Faith.{Kept}
use Rattle.guest.specs.Guests.{GuestIs, view_of, Intact}
use Rattle.guest.specs.Views.{pages_seen}
use Rattle.console_queue.specs.Queues.{TakeIs}
use Rattle.lasting_truth.specs.Truths.{KeeperIs}
use Rattle.cell.specs.declared.cell.Front.{Front}
use Rattle.cell.specs.declared.cell.Cell.{Cell}
use Rattle.cell.specs.declared.cell.Locked.{Locked}
use Rattle.cell.specs.Inputs.{bytes_in}
use Rattle.cell.specs.Level.{IsMemoryOf}
use Rattle.cell.specs.Sitting.{RunIsWritten, Sits}
use Rattle.guest_cells.specs.Handles.{AreOfMemory}
use Rattle.guest_cells.specs.Audits.{AreOutlines}

-- what was written to a guest's slots is still its run's
written_on : (stake stake' : Stake) (guest guest' : GuestIs) → stake'.contents ≡ stake.contents → guest' ≡ guest → RunIsWritten stake guest → RunIsWritten stake' guest'
written_on stake stake' guest guest' contents same written =
    subst (λ (g : GuestIs). RunIsWritten stake' g) (sym same)
    (subst (λ (c : ShareIs Content). Kept (its_slots c) (pages_seen (view_of guest)) guest.bus.pages) (sym contents) written)

-- a guest under its lock whose account alone has changed, and is level again
pub sits_again : {Store : Type 0} (is_true : Store → Type 0) (front : Front Store) (l l' : Locked) → Sits is_true front l → l'.guest.value ≡ l.guest.value → l'.keeper ≡ l.keeper → l'.taker ≡ l.taker
    → l'.stake.contents ≡ l.stake.contents → IsLevel front.first.value l'.stake l'.guest.value.bus.pages → Sits is_true front l'
sits_again is_true front l l' sits guest keeper taker contents level = record {
  boots = ap (λ (g : GuestIs). g.boot) guest ∙ sits.boots;
  its_head = ap (λ (g : GuestIs). g.head) guest ∙ sits.its_head;
  its_limit = ap (λ (g : GuestIs). g.log.limit) guest ∙ sits.its_limit;
  its_truth = ap (λ (k : KeeperIs). k.truth) keeper ∙ sits.its_truth;
  its_queue = ap (λ (t : TakeIs). t.queue) taker ∙ sits.its_queue;
  intact = λ holds. subst Intact (sym guest) (sits.intact (sym (ap (λ (k : KeeperIs). k.holds) keeper) ∙ holds));
  taken = ap (λ (t : TakeIs). t.taken) taker ∙ sits.taken ∙ ap (λ (g : GuestIs). bytes_in g.log.items) (sym guest);
  level = level;
  lasts = λ trust. ap (λ (k : KeeperIs). k.holds) keeper ∙ sits.lasts trust;
  written = λ trust. written_on l.stake l'.stake l.guest.value l'.guest.value contents guest (sits.written trust);
}

-- the first of some guests, and the others
pub first_of_memory : {Store : Type 0} (memory : MemoryIs Store) (cells : List (Cell Store)) (cell : Cell Store) (others : List (Cell Store)) → AreOfMemory memory cells → cells ≡ cell ∷ others
    → IsMemoryOf cell.front.first.value memory × AreOfMemory memory others
first_of_memory memory cells cell others of is =
    let P = λ (c : Cell _). IsMemoryOf c.front.first.value memory in
    let all : All P (cell ∷ others) = subst (All P) is of in
    (All-head P cell others all, All-tail P cell others all)

-- one more account
pub outlines_more : (gathered gathered' : List (List Page)) (pages : List Page) → AreOutlines gathered → gathered' ≡ outline pages ∷ gathered → AreOutlines gathered'
outlines_more gathered gathered' pages are more = (pages ∷ are.0, more ∙ ap (λ (l : List (List Page)). outline pages ∷ l) are.1)

-- what the books count, with all accounts gathered
pub all_counted : (k : Extent) (gathered : List (List Page)) (counts : BookCounts) → AreOutlines gathered → length gathered ≡ k.guests
    → ((all : List (List Page)) → gathered ≡ map outline all → IsCountOf k all counts) → (all : List (List Page)) × (length all ≡ k.guests) × IsCountOf k all counts
all_counted k gathered counts are count counted = (are.0, omega (arith, ap length are.1, length-map are.0 outline, count), counted are.0 are.1)
