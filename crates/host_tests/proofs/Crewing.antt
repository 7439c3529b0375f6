-- What was handed out of guests, without the policy's seats, and these.
use Rattle.std.proofs.Common.{◌≡◌, ℕ, ◌<◌, List, [], ◌∷◌, ◌++◌, take, Result, Ok, Err, IfOk, OnErr, length, length-append, get_or, sym, subst, ap, arith}
use lib.Seq.{take-append_seam}
use Rattle.std.specs.List.{slice_get}
use Rattle.std.proofs.lemmas.Option.{slice_get_within, slice_get-get_or, get_or_from_slice_get}
use Rattle.console_queue.specs.Queues.{FeedIs}
use Rattle.cell.specs.declared.cell.Cell.{Cell}
use Rattle.cell.specs.declared.seat.Seat.{Seat}
use Rattle.cell.specs.Sitting.{IsOf}
use Rattle.guest_cells.specs.declared.handles.Handles.{Handles}
use Rattle.guest_cells.specs.Handles.{AreHandlesOf, AreHandlesOfAll}
use Rattle.host_policy.specs.Turns.{IsPolicySeat, ArePolicySeats, AreTurned}
use Rattle.host.specs.Places.{AtGuest}
use Rattle.host_tests.specs.Crews.{IsCrewOf}
use Rattle.host_tests.specs.Each.{AtEach, IsHandedOut, AreHandedOut}
use Rattle.host_tests.proofs.Places.{of_four, handles_of_all, rest_of, last_of}
use Rattle.host_tests.proofs.Seats.{its_handles}

pub crew_of : {S : Type 0} (cells : List (Cell S)) (guest : ℕ) (h : Handles) → AtGuest cells guest (λ front. IsHandedOut front h)
    → IsCrewOf cells guest h.seats.runner h.seats.console h.seats.debugger h.feed
crew_of cells guest h at = record {
  its_runner = record { each = λ cell its. (at.each cell its).its.seats.runner };
  its_console = record { each = λ cell its. (at.each cell its).its.seats.console };
  its_debugger = record { each = λ cell its. (at.each cell its).its.seats.debugger };
  its_feed = record { each = λ cell its. (at.each cell its).its.feed };
}

pub policy_of : {S : Type 0} (cells : List (Cell S)) (guest : ℕ) (h : Handles) → AtGuest cells guest (λ front. IsHandedOut front h) → AtGuest cells guest (λ front. IsPolicySeat front h.seats.policy)
policy_of cells guest h at = record { each = λ cell its. record { its = (at.each cell its).its.seats.policy; number = (at.each cell its).policy } }

-- the policy's seats at each place are those of all guests
pub policies_of_all : {S : Type 0} (cells : List (Cell S)) (seats : List Seat) → length seats ≡ length cells
    → AtEach (λ (g : ℕ) (s : Seat). AtGuest cells g (λ front. IsPolicySeat front s)) seats → ArePolicySeats cells seats
policies_of_all cells seats same at = record {
  count = same;
  each = λ g c s inside.
      let there : g < length seats = omega (arith, inside, same) in
      (at.each g (get_or seats g s) (slice_get-get_or seats g s there)).each (get_or cells g c) (slice_get-get_or cells g c inside);
}

-- and are each at its place
pub policies_at_each : {S : Type 0} (cells : List (Cell S)) (seats : List Seat) → ArePolicySeats cells seats
    → AtEach (λ (g : ℕ) (s : Seat). AtGuest cells g (λ front. IsPolicySeat front s)) seats
policies_at_each cells seats are = record {
  each = λ g s that. record {
    each = λ cell this.
        subst (λ (c : Cell _). IsPolicySeat c.front s) (get_or_from_slice_get cells g cell cell this)
        (subst (λ (x : Seat). IsPolicySeat (get_or cells g cell).front x) (get_or_from_slice_get seats g s s that) (are.each g cell s (slice_get_within cells g cell this)));
  };
}

-- after a turn they are still
pub still_policies : {S : Type 0} (is_true : S → Type 0) (cells : List (Cell S)) (seats seats' : List Seat) → AreTurned is_true cells seats seats' → ArePolicySeats cells seats'
still_policies is_true cells seats seats' turned = record { count = turned.count; each = λ g c s inside. (turned.each g c s s inside).its }

after_call : {S T E : Type 0} (is_true : S → Type 0) (cells : List (Cell S)) (seats seats' : List Seat) (result : Result T E) → IfOk result (λ _. AreTurned is_true cells seats seats')
    → OnErr result (seats' ≡ seats) → ArePolicySeats cells seats → ArePolicySeats cells seats'
after_call is_true cells seats seats' (Ok turn) turned same are = still_policies is_true cells seats seats' turned
after_call is_true cells seats seats' (Err error) turned same are = subst (ArePolicySeats cells) (sym same) are

written_back : {S : Type 0} (cells : List (Cell S)) (seats seats' rest : List Seat) (len : ℕ) → ArePolicySeats cells seats → ArePolicySeats cells seats' → length seats ≡ len
    → ArePolicySeats cells (take len (seats' ++ rest))
written_back cells seats seats' rest len are are' count =
    let same : length seats' ≡ len = omega (arith, are.count, are'.count, count) in
    let whole : take len (seats' ++ rest) ≡ seats' = subst (λ (n : ℕ). take n (seats' ++ rest) ≡ seats') same (take-append_seam seats' rest) in
    subst (ArePolicySeats cells) (sym whole) are'

-- of a list of four, each is at its place
pub first_handed : {S : Type 0} (cells : List (Cell S)) (all : List Handles) (a b c d : Handles) → AreHandedOut cells all → all ≡ a ∷ b ∷ c ∷ d ∷ [] → AtGuest cells 0 (λ front. IsHandedOut front a)
first_handed cells all a b c d at is = at.each 0 a (ap (λ (l : List Handles). slice_get l 0) is)

pub first_policy : {S : Type 0} (cells : List (Cell S)) (all : List Seat) (a b c d : Seat) → ArePolicySeats cells all → all ≡ a ∷ b ∷ c ∷ d ∷ [] → AtGuest cells 0 (λ front. IsPolicySeat front a)
first_policy cells all a b c d are is = (policies_at_each cells all are).each 0 a (ap (λ (l : List Seat). slice_get l 0) is)

pub second_handed : {S : Type 0} (cells : List (Cell S)) (all : List Handles) (a b c d : Handles) → AreHandedOut cells all → all ≡ a ∷ b ∷ c ∷ d ∷ [] → AtGuest cells 1 (λ front. IsHandedOut front b)
second_handed cells all a b c d at is = at.each 1 b (ap (λ (l : List Handles). slice_get l 1) is)

pub second_policy : {S : Type 0} (cells : List (Cell S)) (all : List Seat) (a b c d : Seat) → ArePolicySeats cells all → all ≡ a ∷ b ∷ c ∷ d ∷ [] → AtGuest cells 1 (λ front. IsPolicySeat front b)
second_policy cells all a b c d are is = (policies_at_each cells all are).each 1 b (ap (λ (l : List Seat). slice_get l 1) is)

pub third_handed : {S : Type 0} (cells : List (Cell S)) (all : List Handles) (a b c d : Handles) → AreHandedOut cells all → all ≡ a ∷ b ∷ c ∷ d ∷ [] → AtGuest cells 2 (λ front. IsHandedOut front c)
third_handed cells all a b c d at is = at.each 2 c (ap (λ (l : List Handles). slice_get l 2) is)

pub third_policy : {S : Type 0} (cells : List (Cell S)) (all : List Seat) (a b c d : Seat) → ArePolicySeats cells all → all ≡ a ∷ b ∷ c ∷ d ∷ [] → AtGuest cells 2 (λ front. IsPolicySeat front c)
third_policy cells all a b c d are is = (policies_at_each cells all are).each 2 c (ap (λ (l : List Seat). slice_get l 2) is)

pub fourth_handed : {S : Type 0} (cells : List (Cell S)) (all : List Handles) (a b c d : Handles) → AreHandedOut cells all → all ≡ a ∷ b ∷ c ∷ d ∷ [] → AtGuest cells 3 (λ front. IsHandedOut front d)
fourth_handed cells all a b c d at is = at.each 3 d (ap (λ (l : List Handles). slice_get l 3) is)

pub fourth_policy : {S : Type 0} (cells : List (Cell S)) (all : List Seat) (a b c d : Seat) → ArePolicySeats cells all → all ≡ a ∷ b ∷ c ∷ d ∷ [] → AtGuest cells 3 (λ front. IsPolicySeat front d)
fourth_policy cells all a b c d are is = (policies_at_each cells all are).each 3 d (ap (λ (l : List Seat). slice_get l 3) is)

pub policies_of_four : {S : Type 0} (cells : List (Cell S)) (all : List Seat) (a b c d : Seat) → length cells ≡ 4 → all ≡ a ∷ b ∷ c ∷ d ∷ []
    → AtGuest cells 0 (λ front. IsPolicySeat front a) → AtGuest cells 1 (λ front. IsPolicySeat front b) → AtGuest cells 2 (λ front. IsPolicySeat front c) → AtGuest cells 3 (λ front. IsPolicySeat front d)
    → ArePolicySeats cells all
policies_of_four cells all a b c d four is pa pb pc pd =
    policies_of_all cells all (omega (arith, four, ap length is)) (of_four (λ (g : ℕ) (s : Seat). AtGuest cells g (λ front. IsPolicySeat front s)) all a b c d is pa pb pc pd)

pub handles_of_four : {S : Type 0} (cells : List (Cell S)) (all : List Handles) (a b c d : Handles) → length cells ≡ 4 → all ≡ a ∷ b ∷ c ∷ d ∷ []
    → AtGuest cells 0 (λ front. AreHandlesOf front a) → AtGuest cells 1 (λ front. AreHandlesOf front b) → AtGuest cells 2 (λ front. AreHandlesOf front c) → AtGuest cells 3 (λ front. AreHandlesOf front d)
    → AreHandlesOfAll cells all
handles_of_four cells all a b c d four is pa pb pc pd =
    handles_of_all cells all (omega (arith, four, ap length is)) (of_four (λ (g : ℕ) (h : Handles). AtGuest cells g (λ front. AreHandlesOf front h)) all a b c d is pa pb pc pd)

pub debugger_of_crew : {S : Type 0} (cells : List (Cell S)) (guest : ℕ) (r c d : Seat) (f : FeedIs) → IsCrewOf cells guest r c d f → AtGuest cells guest (λ front. IsOf front d)
debugger_of_crew cells guest r c d f crew = crew.its_debugger

-- what was handed out of a guest, whose debugger's seat has been used
pub put_together : {S : Type 0} (cells : List (Cell S)) (guest : ℕ) (r c d d' p : Seat) (f : FeedIs) (h : Handles) → IsCrewOf cells guest r c d f → AtGuest cells guest (λ front. IsOf front d')
    → AtGuest cells guest (λ front. IsPolicySeat front p) → h ≡ record { seats = record { runner = r; console = c; policy = p; debugger = d' }; feed = f } → AtGuest cells guest (λ front. AreHandlesOf front h)
put_together cells guest r c d d' p f h crew of policy is = subst (λ (x : Handles). AtGuest cells guest (λ front. AreHandlesOf front x)) (sym is) (record {
  each = λ cell its. record {
    seats = record { runner = crew.its_runner.each cell its; console = crew.its_console.each cell its; policy = (policy.each cell its).its; debugger = of.each cell its };
    feed = crew.its_feed.each cell its;
  };
})

-- handles of two guests, taken off the last first
pub second_of_two : {S : Type 0} (cells : List (Cell S)) (all all' : List Handles) (two : Handles) → AreHandedOut cells all → length all ≡ 2 → all ≡ all' ++ two ∷ []
    → AtGuest cells 1 (λ front. AreHandlesOf front two)
second_of_two cells all all' two at count is =
    its_handles cells 1 two (last_of (λ (g : ℕ) (h : Handles). AtGuest cells g (λ front. IsHandedOut front h)) all all' two 1 at is (omega (arith, count, length-append all' (two ∷ []), ap length is)))

pub first_of_two : {S : Type 0} (cells : List (Cell S)) (all all' none : List Handles) (one two : Handles) → AreHandedOut cells all → length all ≡ 2 → all ≡ all' ++ two ∷ [] → all' ≡ none ++ one ∷ []
    → AtGuest cells 0 (λ front. AreHandlesOf front one)
first_of_two cells all all' none one two at count is is' =
    let before : AreHandedOut cells all' = rest_of (λ (g : ℕ) (h : Handles). AtGuest cells g (λ front. IsHandedOut front h)) all all' two at is in
    let left : length none ≡ 0 = omega (arith, count, length-append all' (two ∷ []), ap length is, length-append none (one ∷ []), ap length is') in
    its_handles cells 0 one (last_of (λ (g : ℕ) (h : Handles). AtGuest cells g (λ front. IsHandedOut front h)) all' none one 0 before is' left)

-- after a turn, or one for which there was no memory, they are still, where they are written back
pub turned_back : {S T E : Type 0} (is_true : S → Type 0) (cells : List (Cell S)) (seats seats' rest : List Seat) (len : ℕ) (result : Result T E) → IfOk result (λ _. AreTurned is_true cells seats seats')
    → OnErr result (seats' ≡ seats) → ArePolicySeats cells seats → length seats ≡ len → ArePolicySeats cells (take len (seats' ++ rest))
turned_back is_true cells seats seats' rest len result turned unchanged are count =
    written_back cells seats seats' rest len are (after_call is_true cells seats seats' result turned unchanged are) count
