-- Hands by their guests.
use Rattle.std.proofs.Common.{◌≡◌, ℕ, zero, suc, ◌<◌, List, [], ◌∷◌, length, set, Option, Some, None, refl, sym, subst, ◌∙◌, arith}
use Rattle.std.specs.List.{AllZip, slice_get}
use Rattle.cell.specs.declared.cell.Front.{Front}
use Rattle.cell.specs.declared.cell.Cell.{Cell}
use Rattle.cell.specs.declared.seat.Seat.{Seat}
use Rattle.cell.specs.Sitting.{IsOf}
use Rattle.console_queue.specs.Queues.{FeedIs}
use Rattle.host.specs.Places.{AtGuest}
use Rattle.monitor_answers.specs.declared.hand.MonitorHand.{MonitorHand}
use Rattle.monitor_answers.specs.Hands.{IsHandOf, AreHands, AreKept, AtHand}

some_is : {X : Type 0} (x y : X) → Some x ≡ Some y → x ≡ y
some_is x y e = cc

none_is_some : {X : Type 0} (o : Option X) (x : X) → o ≡ None → o ≡ Some x → ⊥
none_is_some o x none some = absurd (cc)

module _ {A B : Type 0} (R : A → B → Type 0) where
  zip_at : (xs : List A) (ys : List B) (g : ℕ) (x : A) (y : B) → AllZip R xs ys → slice_get xs g ≡ Some x → slice_get ys g ≡ Some y → R x y
  zip_at [] ys g x y are this that = absurd (none_is_some (slice_get [] g) x refl this)
  zip_at (a ∷ xs) [] g x y are this that = absurd are
  zip_at (a ∷ xs) (b ∷ ys) zero x y are this that = subst (R x) (some_is b y that) (subst (λ (z : A). R z b) (some_is a x this) are.0)
  zip_at (a ∷ xs) (b ∷ ys) (suc g) x y are this that = zip_at xs ys g x y are.1 this that

  -- where what stands at one place of the second list is another
  zip_set : (xs : List A) (ys : List B) (g : ℕ) (y : B) → AllZip R xs ys → ((x : A) → slice_get xs g ≡ Some x → R x y) → AllZip R xs (set ys g y)
  zip_set [] [] g y are its = tt
  zip_set [] (b ∷ ys) g y are its = absurd are
  zip_set (a ∷ xs) [] g y are its = absurd are
  zip_set (a ∷ xs) (b ∷ ys) zero y are its = (its a refl, are.1)
  zip_set (a ∷ xs) (b ∷ ys) (suc g) y are its = (are.0, zip_set xs ys g y are.1 its)

zip_self : {A : Type 0} (R : A → A → Type 0) (xs : List A) → ((x : A) → R x x) → AllZip R xs xs
zip_self R [] same = tt
zip_self R (x ∷ xs) same = (same x, zip_self R xs same)

zip_count : {A B : Type 0} (R : A → B → Type 0) (xs : List A) (ys : List B) → AllZip R xs ys → length xs ≡ length ys
zip_count R [] [] are = refl
zip_count R [] (y ∷ ys) are = absurd are
zip_count R (x ∷ xs) [] are = absurd are
zip_count R (x ∷ xs) (y ∷ ys) are = omega (arith, zip_count R xs ys are.1)

pub hands_count : {S : Type 0} (cells : List (Cell S)) (hands : List MonitorHand) → AreHands cells hands → length cells ≡ length hands
hands_count cells hands are = zip_count (λ (cell : Cell _) (hand : MonitorHand). IsHandOf cell.front hand) cells hands are

-- the hand of a guest
pub hand_at : {S : Type 0} (cells : List (Cell S)) (hands : List MonitorHand) (guest : ℕ) (hand : MonitorHand) → AreHands cells hands → slice_get hands guest ≡ Some hand
    → AtGuest cells guest (λ front. IsHandOf front hand)
hand_at cells hands guest hand are that =
    record { each = λ cell its. zip_at (λ (cell : Cell _) (hand : MonitorHand). IsHandOf cell.front hand) cells hands guest cell hand are its that }

-- the hands, of which that of a guest is another
pub hands_after : {S : Type 0} (cells : List (Cell S)) (hands : List MonitorHand) (guest : ℕ) (hand : MonitorHand) → AreHands cells hands → AtGuest cells guest (λ front. IsHandOf front hand)
    → AreHands cells (set hands guest hand)
hands_after cells hands guest hand are at = zip_set (λ (cell : Cell _) (hand : MonitorHand). IsHandOf cell.front hand) cells hands guest hand are (λ cell its. at.each cell its)

pub kept_same : (kept : Seat → Seat → Type 0) (hands : List MonitorHand) → ((seat : Seat) → kept seat seat) → AreKept kept hands hands
kept_same kept hands same = zip_self (λ (hand hand' : MonitorHand). kept hand.seat hand'.seat) hands (λ hand. same hand.seat)

pub kept_after : (kept : Seat → Seat → Type 0) (hands : List MonitorHand) (guest : ℕ) (hand hand' : MonitorHand) → ((seat : Seat) → kept seat seat) → slice_get hands guest ≡ Some hand → kept hand.seat hand'.seat
    → AreKept kept hands (set hands guest hand')
kept_after kept hands guest hand hand' same that is =
    zip_set (λ (hand hand' : MonitorHand). kept hand.seat hand'.seat) hands hands guest hand' (kept_same kept hands same)
    (λ other its. let same_hand : Some hand ≡ Some other = sym that ∙ its in subst (λ (h : MonitorHand). kept h.seat hand'.seat) (some_is hand other same_hand) is)

pub hand_done : {S : Type 0} (cells : List (Cell S)) (hands : List MonitorHand) (guest : ℕ) (hand hand' : MonitorHand) (does : Front S → MonitorHand → MonitorHand → Type 0) → slice_get hands guest ≡ Some hand
    → AtGuest cells guest (λ front. does front hand hand') → AtHand cells hands guest (set hands guest hand') does
hand_done cells hands guest hand hand' does that done = record { hand = hand; hand' = hand'; was = that; is = refl; done = done }

-- ---- the hand of a guest

same_cell : {S : Type 0} (a b : Cell S) → Some a ≡ Some b → a ≡ b
same_cell a b e = cc

pub at_guest : {S : Type 0} {cells : List (Cell S)} {guest : ℕ} {P : Front S → Type 0} (cell : Cell S) → slice_get cells guest ≡ Some cell → P cell.front → AtGuest cells guest P
at_guest {P = P} cell place so = record { each = λ other its. subst (λ (c : Cell _). P c.front) (same_cell cell other (sym place ∙ its)) so }

pub seat_at : {S : Type 0} (cells : List (Cell S)) (guest : ℕ) (hand : MonitorHand) → AtGuest cells guest (λ front. IsHandOf front hand) → AtGuest cells guest (λ front. IsOf front hand.seat)
seat_at cells guest hand at = record { each = λ cell its. (at.each cell its).seat }

pub feed_at : {S : Type 0} (cells : List (Cell S)) (guest : ℕ) (hand : MonitorHand) → AtGuest cells guest (λ front. IsHandOf front hand) → AtGuest cells guest (λ front. hand.feed.queue ≡ front.queue.id)
feed_at cells guest hand at = record { each = λ cell its. (at.each cell its).feed }

pub with_seat : {S : Type 0} (cells : List (Cell S)) (guest : ℕ) (hand : MonitorHand) (seat : Seat) → AtGuest cells guest (λ front. IsHandOf front hand) → AtGuest cells guest (λ front. IsOf front seat)
    → AtGuest cells guest (λ front. IsHandOf front (record hand { seat = seat }))
with_seat cells guest hand seat at of = record { each = λ cell its. record { seat = of.each cell its; feed = (at.each cell its).feed } }

pub with_feed : {S : Type 0} (cells : List (Cell S)) (guest : ℕ) (hand : MonitorHand) (feed : FeedIs) → AtGuest cells guest (λ front. IsHandOf front hand) → feed.queue ≡ hand.feed.queue
    → AtGuest cells guest (λ front. IsHandOf front (record hand { feed = feed }))
with_feed cells guest hand feed at same = record { each = λ cell its. record { seat = (at.each cell its).seat; feed = same ∙ (at.each cell its).feed } }
