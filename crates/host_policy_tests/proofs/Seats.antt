-- Seats of two guests.
use Rattle.std.proofs.Common.{◌≡◌, ℕ, take, Result, Ok, Err, IfOk, OnErr, zero, suc, ◌<◌, List, [], ◌∷◌, ◌++◌, Some, length, length-append, get_or, refl, sym, ap, ◌∙◌, subst, arith}
use Rattle.std.specs.List.{slice_get}
use lib.Seq.{take-append_seam}
use Rattle.cell.specs.declared.cell.Front.{Front}
use Rattle.cell.specs.declared.cell.Cell.{Cell}
use Rattle.cell.specs.declared.seat.Seat.{Seat}
use Rattle.cell.specs.Sitting.{IsOf}
use Rattle.guest_cells.specs.declared.handles.Handles.{Handles}
use Rattle.guest_cells.specs.Handles.{AreHandlesOf, AreHandlesOfAll}
use Rattle.guest_cells.proofs.ByPlace.{handles_count}
use Rattle.host_policy.specs.Turns.{IsPolicySeat, ArePolicySeats, AreTurned}
use Rattle.host_policy_tests.specs.Places.{AtGuest}

same_cell : {S : Type 0} (a b : Cell S) → Some a ≡ Some b → a ≡ b
same_cell a b e = cc

at_first : {S : Type 0} (P : Front S → Type 0) (a : Cell S) (cells : List (Cell S)) → P a.front → AtGuest (a ∷ cells) 0 P
at_first P a cells so = record { each = λ cell its. subst (λ (c : Cell _). P c.front) (same_cell a cell its) so }

at_second : {S : Type 0} (P : Front S → Type 0) (a b : Cell S) (cells : List (Cell S)) → P b.front → AtGuest (a ∷ b ∷ cells) 1 P
at_second P a b cells so = record { each = λ cell its. subst (λ (c : Cell _). P c.front) (same_cell b cell its) so }

-- of two guests, the handles of the first and of the second
two_of : {S : Type 0} (cells : List (Cell S)) (rest : List Handles) (one two : Handles) → length cells ≡ 2 → AreHandlesOfAll cells ((rest ++ one ∷ []) ++ two ∷ [])
    → AtGuest cells 0 (λ front. AreHandlesOf front one) × AtGuest cells 1 (λ front. AreHandlesOf front two)
two_of [] rest one two count are = absurd (omega (arith, count))
two_of (a ∷ []) rest one two count are = absurd (omega (arith, count))
two_of (a ∷ b ∷ c ∷ cells) rest one two count are = absurd (omega (arith, count))
two_of (a ∷ b ∷ []) [] one two count are =
    (at_first (λ front. AreHandlesOf front one) a (b ∷ []) are.0, at_second (λ front. AreHandlesOf front two) a b [] are.1.0)
two_of (a ∷ b ∷ []) (h ∷ []) one two count are = absurd are.1.1
two_of (a ∷ b ∷ []) (h ∷ g ∷ rest) one two count are = absurd (omega (arith, handles_count (a ∷ b ∷ []) (h ∷ g ∷ (rest ++ one ∷ []) ++ two ∷ []) are, length-append (rest ++ one ∷ []) (two ∷ [])))

popped : {S : Type 0} (cells : List (Cell S)) (all all' rest : List Handles) (one two : Handles) → AreHandlesOfAll cells all → all ≡ all' ++ two ∷ [] → all' ≡ rest ++ one ∷ []
    → AreHandlesOfAll cells ((rest ++ one ∷ []) ++ two ∷ [])
popped cells all all' rest one two are last first =
    subst (λ (l : List Handles). AreHandlesOfAll cells (l ++ two ∷ [])) first (subst (AreHandlesOfAll cells) last are)

pub first_of_two : {S : Type 0} (cells : List (Cell S)) (all all' rest : List Handles) (one two : Handles) → length cells ≡ 2 → AreHandlesOfAll cells all → all ≡ all' ++ two ∷ []
    → all' ≡ rest ++ one ∷ [] → AtGuest cells 0 (λ front. AreHandlesOf front one)
first_of_two cells all all' rest one two count are last first = (two_of cells rest one two count (popped cells all all' rest one two are last first)).0

pub second_of_two : {S : Type 0} (cells : List (Cell S)) (all all' rest : List Handles) (one two : Handles) → length cells ≡ 2 → AreHandlesOfAll cells all → all ≡ all' ++ two ∷ []
    → all' ≡ rest ++ one ∷ [] → AtGuest cells 1 (λ front. AreHandlesOf front two)
second_of_two cells all all' rest one two count are last first = (two_of cells rest one two count (popped cells all all' rest one two are last first)).1

two_seats : {S : Type 0} (a b : Cell S) (one two : Seat) → IsPolicySeat a.front one → IsPolicySeat b.front two
    → (g : ℕ) (c : Cell S) (s : Seat) → g < 2 → IsPolicySeat (get_or (a ∷ b ∷ []) g c).front (get_or (one ∷ two ∷ []) g s)
two_seats a b one two first second zero c s below = first
two_seats a b one two first second (suc zero) c s below = second
two_seats a b one two first second (suc (suc g)) c s below = absurd (omega (arith, below))

-- the policy's seats of both
policy_of_two : {S : Type 0} (cells : List (Cell S)) (one two : Seat) → length cells ≡ 2 → AtGuest cells 0 (λ front. IsOf front one) → AtGuest cells 1 (λ front. IsOf front two)
    → one.seat.number ≡ 2 → two.seat.number ≡ 2 → ArePolicySeats cells (one ∷ two ∷ [])
policy_of_two [] one two count first second is is' = absurd (omega (arith, count))
policy_of_two (a ∷ []) one two count first second is is' = absurd (omega (arith, count))
policy_of_two (a ∷ b ∷ c ∷ cells) one two count first second is is' = absurd (omega (arith, count))
policy_of_two (a ∷ b ∷ []) one two count first second is is' = record {
  count = refl;
  each = two_seats a b one two (record { its = first.each a refl; number = is }) (record { its = second.each b refl; number = is' });
}

pub policy_seats : {S : Type 0} (cells : List (Cell S)) (none seats seats' : List Seat) (one two : Seat) → length cells ≡ 2 → none ≡ [] → seats ≡ none ++ one ∷ [] → seats' ≡ seats ++ two ∷ []
    → AtGuest cells 0 (λ front. IsOf front one) → AtGuest cells 1 (λ front. IsOf front two) → one.seat.number ≡ 2 → two.seat.number ≡ 2 → ArePolicySeats cells seats'
policy_seats cells none seats seats' one two count is more most first second its its' =
    let all : seats' ≡ one ∷ two ∷ [] = most ∙ ap (λ (l : List Seat). l ++ two ∷ []) (more ∙ ap (λ (l : List Seat). l ++ one ∷ []) is) in
    subst (ArePolicySeats cells) (sym all) (policy_of_two cells one two count first second its its')

-- after a turn they still are
after_turn : {S : Type 0} (is_true : S → Type 0) (cells : List (Cell S)) (seats seats' : List Seat) → AreTurned is_true cells seats seats' → ArePolicySeats cells seats'
after_turn is_true cells seats seats' turned = record { count = turned.count; each = λ g c s below. (turned.each g c s s below).its }

pub console_at : {S : Type 0} (cells : List (Cell S)) (guest : ℕ) (h : Handles) → AtGuest cells guest (λ front. AreHandlesOf front h) → AtGuest cells guest (λ front. IsOf front h.seats.console)
console_at cells guest h at = record { each = λ cell its. (at.each cell its).seats.console }

pub runner_at : {S : Type 0} (cells : List (Cell S)) (guest : ℕ) (h : Handles) → AtGuest cells guest (λ front. AreHandlesOf front h) → AtGuest cells guest (λ front. IsOf front h.seats.runner)
runner_at cells guest h at = record { each = λ cell its. (at.each cell its).seats.runner }

pub policy_at : {S : Type 0} (cells : List (Cell S)) (guest : ℕ) (h : Handles) → AtGuest cells guest (λ front. AreHandlesOf front h) → AtGuest cells guest (λ front. IsOf front h.seats.policy)
policy_at cells guest h at = record { each = λ cell its. (at.each cell its).seats.policy }

-- a seat that has been used at a guest
pub at_still : {S : Type 0} (cells : List (Cell S)) (guest : ℕ) (cell : Cell S) (seat : Seat) → slice_get cells guest ≡ Some cell → IsOf cell.front seat → AtGuest cells guest (λ front. IsOf front seat)
at_still cells guest cell seat place so = record { each = λ other its. subst (λ (c : Cell _). IsOf c.front seat) (same_cell cell other (sym place ∙ its)) so }

-- after a turn, or one for which there was no memory
after_call : {S T E : Type 0} (is_true : S → Type 0) (cells : List (Cell S)) (seats seats' : List Seat) (result : Result T E) → IfOk result (λ _. AreTurned is_true cells seats seats')
    → OnErr result (seats' ≡ seats) → ArePolicySeats cells seats → ArePolicySeats cells seats'
after_call is_true cells seats seats' (Ok turn) turned same are = after_turn is_true cells seats seats' turned
after_call is_true cells seats seats' (Err error) turned same are = subst (ArePolicySeats cells) (sym same) are

-- the same as what is written back
written_back : {S : Type 0} (cells : List (Cell S)) (seats seats' rest : List Seat) (len : ℕ) → ArePolicySeats cells seats → ArePolicySeats cells seats' → length seats ≡ len
    → ArePolicySeats cells (take len (seats' ++ rest))
written_back cells seats seats' rest len are are' count =
    let same : length seats' ≡ len = omega (arith, are.count, are'.count, count) in
    let whole : take len (seats' ++ rest) ≡ seats' = subst (λ (n : ℕ). take n (seats' ++ rest) ≡ seats') same (take-append_seam seats' rest) in
    subst (ArePolicySeats cells) (sym whole) are'

pub turned_back : {S T E : Type 0} (is_true : S → Type 0) (cells cells' : List (Cell S)) (seats seats' rest : List Seat) (len : ℕ) (result : Result T E) → cells' ≡ cells
    → IfOk result (λ _. AreTurned is_true cells' seats seats') → OnErr result (seats' ≡ seats) → ArePolicySeats cells seats → length seats ≡ len → ArePolicySeats cells (take len (seats' ++ rest))
turned_back {S = S} is_true cells cells' seats seats' rest len result same turned unchanged are count =
    let before : ArePolicySeats cells' seats = subst (λ (l : List (Cell S)). ArePolicySeats l seats) (sym same) are in
    let after : ArePolicySeats cells' seats' = after_call is_true cells' seats seats' result turned unchanged before in
    written_back cells seats seats' rest len are (subst (λ (l : List (Cell S)). ArePolicySeats l seats') same after) count
