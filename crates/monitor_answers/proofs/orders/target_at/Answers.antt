use Rattle.std.proofs.Common.{◌≡◌, ◌<◌, ℕ, length, get_or, set, subst, sym, Some, arith}
use Rattle.std.specs.List.{slice_get}
use Rattle.std.proofs.lemmas.Option.{slice_get-get_or}
use Rattle.host.specs.Places.{AtGuest}
use Rattle.monitor_answers.specs.declared.hand.MonitorHand.{MonitorHand}
use Rattle.monitor_answers.specs.Hands.{AtHand, IsHandOf}
use Rattle.monitor_answers.specs.Orders.{Targets}
use Rattle.monitor_answers.proofs.Places.{hands_count, hand_at, hands_after, hand_done}
use Rattle.monitor_answers.proofs.Setting.{kept_lasts_after, kept_holds_after}
use Rattle.monitor_answers.proofs.orders.target_at.Goals as goal

pub bounds-hands-index : goal.bounds-hands-index
bounds-hands-index g c = let count = hands_count c.args.host.now.guests.cells.items c.args.hands.now c.requires.hands in omega arith

pub target-requires-clause-hand : goal.target-requires-clause-hand
target-requires-clause-hand g c =
    let hands = c.args.hands.now in
    let hand : MonitorHand = get_or hands c.index.result c.index-hands-index.result in
    let count = hands_count c.args.host.now.guests.cells.items hands c.requires.hands in
    let that : slice_get hands c.index.result ≡ Some hand = slice_get-get_or hands c.index.result c.index-hands-index.result (omega arith) in
    subst (λ (place : ℕ). AtGuest c.args.host.now.guests.cells.items place (λ front. IsHandOf front hand)) c.index.ensures
    (hand_at c.args.host.now.guests.cells.items hands c.index.result hand c.requires.hands that)

pub returns-clause-hands : goal.returns-clause-hands
returns-clause-hands g c = hands_after c.args.host.now.guests.cells.items c.args.hands.now c.index.result c.target.new.hand c.requires.hands
    (subst (λ (place : ℕ). AtGuest c.args.host.now.guests.cells.items place (λ front. IsHandOf front c.target.new.hand)) (sym c.index.ensures) c.target.ensures.hand)

pub returns-clause-lasts : goal.returns-clause-lasts
returns-clause-lasts g c =
    let hands = c.args.hands.now in
    let hand : MonitorHand = get_or hands c.index.result c.index-hands-index.result in
    let count = hands_count c.args.host.now.guests.cells.items hands c.requires.hands in
    let that : slice_get hands c.index.result ≡ Some hand = slice_get-get_or hands c.index.result c.index-hands-index.result (omega arith) in
    kept_lasts_after hands c.index.result hand c.target.new.hand that c.target.ensures.lasts

pub returns-clause-lasts_with_store : goal.returns-clause-lasts_with_store
returns-clause-lasts_with_store g c = λ store.
    let hands = c.args.hands.now in
    let hand : MonitorHand = get_or hands c.index.result c.index-hands-index.result in
    let count = hands_count c.args.host.now.guests.cells.items hands c.requires.hands in
    let that : slice_get hands c.index.result ≡ Some hand = slice_get-get_or hands c.index.result c.index-hands-index.result (omega arith) in
    kept_holds_after hands c.index.result hand c.target.new.hand that (c.target.ensures.lasts_with_store store)

pub returns-clause-done : goal.returns-clause-done
returns-clause-done g c =
    let hands = c.args.hands.now in
    let hand : MonitorHand = get_or hands c.index.result c.index-hands-index.result in
    let count = hands_count c.args.host.now.guests.cells.items hands c.requires.hands in
    let that : slice_get hands c.index.result ≡ Some hand = slice_get-get_or hands c.index.result c.index-hands-index.result (omega arith) in
    let this : slice_get hands c.args.guest ≡ Some hand = subst (λ (place : ℕ). slice_get hands place ≡ Some hand) c.index.ensures that in
    subst (λ (place : ℕ). AtHand c.args.host.now.guests.cells.items hands c.args.guest (set hands place c.target.new.hand) (Targets c.args.pages c.target.result)) (sym c.index.ensures)
    (hand_done c.args.host.now.guests.cells.items hands c.args.guest hand c.target.new.hand (Targets c.args.pages c.target.result) this c.target.ensures.done)
