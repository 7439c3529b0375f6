-- What is done with the hand of one guest.
use Rattle.std.proofs.Common.{◌≡◌, ℕ, ◌<◌, ◌≤◌, ◌⊎◌, inl, inr, true, List, ◌++◌, length, take, set, Option, Some, Result, Ok, Err, refl, sym, subst}
use Rattle.std.specs.List.{slice_get}
use Rattle.items.specs.declared.item.What.TheVariants as what
use Rattle.guest_log.specs.declared.stop.Stop.{Stop}
use Rattle.guest_log.specs.declared.stop.Stop.TheVariants as stop
use Rattle.seated.specs.Acts.{Sees}
use Rattle.cell.specs.declared.cell.Cell.{Cell}
use Rattle.cell.specs.declared.seat.Seat.{Seat}
use Rattle.cell.specs.Sitting.{Lasts, Happens, IsFullOf}
use Rattle.monitor.specs.Answers.{Answers}
use Rattle.monitor.specs.Orders.{Order, LineFault}
use Rattle.monitor.specs.Views.{order_view}
use Rattle.monitor.specs.declared.fault.Fault.{Fault}
use Rattle.monitor.specs.declared.fault.Fault.TheVariants as fault
use Rattle.monitor.specs.declared.order.Order.{Order as OrderCode}
use Rattle.monitor.specs.declared.order.Order.TheVariants as order
use Rattle.host.specs.declared.host.Host.{Host}
use Rattle.host.specs.Places.{AtGuest}
use Rattle.monitor_answers.specs.declared.answer.Answer.{Answer}
use Rattle.monitor_answers.specs.declared.answer.Answer.TheVariants as answer
use Rattle.monitor_answers.specs.declared.hand.MonitorHand.{MonitorHand}
use Rattle.monitor_answers.specs.Orders.{Targets, Drains, IsStopped, Leads, HearsOrder, Hears}
use Rattle.monitor_answers.specs.Hands.{AreKept}
use Rattle.monitor_answers.specs.Keeping.{HoldsOn}
use Rattle.monitor_answers.proofs.Places.{kept_same, kept_after}

pub out_of_range : {S : Type 0} (cells : List (Cell S)) (guest : ℕ) (hand : MonitorHand) (pages most : ℕ) → AtGuest cells guest (λ front. most ≡ front.pages) → most < pages
    → AtGuest cells guest (λ front. Targets pages (answer.Refused fault.Range) front hand hand)
out_of_range cells guest hand pages most at above = record { each = λ cell its. (subst (λ (n : ℕ). n < pages) (at.each cell its) above, refl) }

pub target_set : {S : Type 0} (cells : List (Cell S)) (guest : ℕ) (hand : MonitorHand) (seat : Seat) (pages most : ℕ) → AtGuest cells guest (λ front. most ≡ front.pages) → pages ≤ most
    → AtGuest cells guest (λ front. Happens front hand.seat (record { seat = hand.seat.seat.number; what = what.Target pages }) seat)
    → AtGuest cells guest (λ front. Targets pages answer.Done front hand (record hand { seat = seat }))
target_set cells guest hand seat pages most at within happens = record { each = λ cell its. (subst (λ (n : ℕ). pages ≤ n) (at.each cell its) within, refl, happens.each cell its) }

pub target_stopped : {S : Type 0} (cells : List (Cell S)) (guest : ℕ) (hand : MonitorHand) (seat : Seat) (pages : ℕ) (why : Stop) → Sees hand.seat.seat seat.seat
    → (why ≡ stop.LogFull → AtGuest cells guest (λ front. IsFullOf front seat.seat.saw)) → AtGuest cells guest (λ front. Targets pages (answer.Stopped why) front hand (record hand { seat = seat }))
target_stopped cells guest hand seat pages why sees full = record { each = λ cell its. (refl, sees, λ is. (full is).each cell its) }

pub drain_stopped : {S : Type 0} (cells : List (Cell S)) (guest : ℕ) (hand : MonitorHand) (seat : Seat) (number : ℕ) (why : Stop) → Sees hand.seat.seat seat.seat
    → (why ≡ stop.LogFull → AtGuest cells guest (λ front. IsFullOf front seat.seat.saw)) → AtGuest cells guest (λ front. Drains number (answer.Stopped why) front hand (record hand { seat = seat }))
drain_stopped cells guest hand seat number why sees full = record { each = λ cell its. (refl, sees, λ is. (full is).each cell its) }

-- ---- by which order

pub leads_is : {S G : Type 0} (host : Host S G) (hands : List MonitorHand) (asked same : OrderCode) (hands' : List MonitorHand) (said : Answer) → asked ≡ same → Leads host hands (order_view same) hands' said
    → Leads host hands (order_view asked) hands' said
leads_is host hands asked same hands' said is h = subst (λ (o : OrderCode). Leads host hands (order_view o) hands' said) (sym is) h

pub lasts_self : (seat : Seat) → Lasts seat seat
lasts_self seat = record { same_truth = refl; held = λ held. held }

pub holds_self : (seat : Seat) → HoldsOn seat seat
holds_self seat = record { held = λ held. held }

pub kept_lasts : (hands : List MonitorHand) → AreKept Lasts hands hands
kept_lasts hands = kept_same Lasts hands lasts_self

pub kept_holds : (hands : List MonitorHand) → AreKept HoldsOn hands hands
kept_holds hands = kept_same HoldsOn hands holds_self

pub kept_lasts_after : (hands : List MonitorHand) (guest : ℕ) (hand hand' : MonitorHand) → slice_get hands guest ≡ Some hand → Lasts hand.seat hand'.seat → AreKept Lasts hands (set hands guest hand')
kept_lasts_after hands guest hand hand' that is = kept_after Lasts hands guest hand hand' lasts_self that is

pub kept_holds_after : (hands : List MonitorHand) (guest : ℕ) (hand hand' : MonitorHand) → slice_get hands guest ≡ Some hand → (hand.seat.witness.held ≡ true → hand'.seat.witness.held ≡ true)
    → AreKept HoldsOn hands (set hands guest hand')
kept_holds_after hands guest hand hand' that is = kept_after HoldsOn hands guest hand hand' holds_self that (record { held = is })

-- ---- a line

pub hears_order : {S G : Type 0} (host : Host S G) (hands : List MonitorHand) (asked : OrderCode) (hands' : List MonitorHand) (said : Answer) → (asked ≡ order.Quit → ⊥) → Leads host hands (order_view asked) hands' said
    → HearsOrder host hands (order_view asked) hands' (Some said)
hears_order host hands order.List hands' said other h = h
hears_order host hands order.Books hands' said other h = h
hears_order host hands order.Level hands' said other h = h
hears_order host hands (order.Tax percent) hands' said other h = h
hears_order host hands (order.Target guest pages) hands' said other h = h
hears_order host hands (order.Hold guest) hands' said other h = h
hears_order host hands (order.Go guest) hands' said other h = h
hears_order host hands (order.Log guest) hands' said other h = h
hears_order host hands (order.In guest bytes) hands' said other h = h
hears_order host hands (order.Drain guest) hands' said other h = h
hears_order host hands order.Room hands' said other h = h
hears_order host hands order.Help hands' said other h = h
hears_order host hands order.Quit hands' said other h = absurd (other refl)

pub hears_ok : {S G : Type 0} (host : Host S G) (hands : List MonitorHand) (asked : OrderCode) (found : Result Order LineFault) (hands' : List MonitorHand) (said : Option Answer) → found ≡ Ok (order_view asked)
    → HearsOrder host hands (order_view asked) hands' said → Hears host hands found hands' said
hears_ok host hands asked found hands' said is h = subst (λ (f : Result Order LineFault). Hears host hands f hands' said) (sym is) (inl h)

pub hears_fault : {S G : Type 0} (host : Host S G) (hands : List MonitorHand) (why : Fault) (found : Result Order LineFault) → Answers (Err why) found → Hears host hands found hands (Some (answer.Refused why))
hears_fault host hands fault.Command found is = subst (λ (f : Result Order LineFault). Hears host hands f hands (Some (answer.Refused fault.Command))) (sym is) (refl, refl)
hears_fault host hands fault.Number found is = subst (λ (f : Result Order LineFault). Hears host hands f hands (Some (answer.Refused fault.Number))) (sym is) (refl, refl)
hears_fault host hands fault.Guest found is = subst (λ (f : Result Order LineFault). Hears host hands f hands (Some (answer.Refused fault.Guest))) (sym is) (refl, refl)
hears_fault host hands fault.Range found is = subst (λ (f : Result Order LineFault). Hears host hands f hands (Some (answer.Refused fault.Range))) (sym is) (refl, refl)
hears_fault host hands fault.Memory found is =
    subst (λ (f : Result Order LineFault). Hears host hands f hands (Some (answer.Refused fault.Memory))) (sym is.2) (inr ((refl, refl), (is.0, is.1, refl)))
