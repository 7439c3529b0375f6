-- Seats by their places.
use Rattle.std.proofs.Common.{◌≡◌, ◌<◌, ℕ, zero, suc, List, [], ◌∷◌, ◌++◌, length, Option, Some, None, refl, sym, ap, ◌∙◌, subst, arith}
use Rattle.std.specs.List.{slice_get}
use Rattle.std.specs.Prelude.{slice_index_or}
use Rattle.std.proofs.lemmas.Option.{get_or_from_slice_get, slice_get-get_or, slice_get_within}
use Rattle.cell.specs.declared.cell.Front.{Front}
use Rattle.cell.specs.declared.cell.Cell.{Cell}
use Rattle.cell.specs.declared.seat.Seat.{Seat}
use Rattle.cell.specs.declared.ends.Ended.{Ended}
use Rattle.cell.specs.Sitting.{IsOf}
use Rattle.cell.specs.Slices.{Slice}
use Rattle.items.specs.declared.item.Item.{Item}
use Rattle.log_seats.specs.Heads.{SeatIs}
use Rattle.debug_session.specs.Goes.{Goes}
use Rattle.guest_cells.specs.Ends.{HaveEnded}
use Rattle.host_run.specs.Runs.{HaveRun}
use Rattle.booting.specs.declared.asked.NewGuest.{NewGuest}
use Rattle.console_queue.specs.Queues.{FeedIs, QueueId}
use Rattle.guest_cells.specs.declared.handles.Handles.{Handles}
use Rattle.guest_cells.specs.Places.{AllZip3}
use Rattle.guest_cells.specs.Handles.{AreHandlesOf, AreHandlesOfAll}
use Rattle.guest_cells.specs.Asked.{IsAsAsked, AreAsAsked}
use Rattle.guest_cells.proofs.ByPlace.{handles_by_place, asked_count}
use Rattle.host.specs.Places.{AtGuest}
use Rattle.host_policy.specs.Turns.{IsPolicySeat, ArePolicySeats, AreTurned}
use Rattle.host_run.specs.Seats.{IsSeat, AreSeats, IsHandedOut, AreHandedOut}

trans : {X : Type 0} {x y z : X} → x ≡ y → y ≡ z → x ≡ z
trans p q = p ∙ q

some_is : {X : Type 0} (x y : X) → Some x ≡ Some y → x ≡ y
some_is x y e = cc

none_is_some : {X : Type 0} (o : Option X) (x : X) → o ≡ None → o ≡ Some x → ⊥
none_is_some o x none some = absurd (cc)

-- the seat at a guest's place is the guest's
pub seat_at : {S : Type 0} (number : ℕ) (cells : List (Cell S)) (seats : List Seat) (guest : ℕ) (seat : Seat) → AreSeats number cells seats → slice_get seats guest ≡ Some seat
    → AtGuest cells guest (λ front. IsSeat front number seat)
seat_at number cells seats guest seat are at = record { each = λ cell its. are.each guest cell seat its at }

-- a seat of the guest, of whatever number
pub is_of : {S : Type 0} (cells : List (Cell S)) (guest number : ℕ) (seat : Seat) → AtGuest cells guest (λ front. IsSeat front number seat) → AtGuest cells guest (λ front. IsOf front seat)
is_of cells guest number seat at = record { each = λ cell its. (at.each cell its).its }

-- it keeps its number
still : {S : Type 0} (cells : List (Cell S)) (guest number : ℕ) (seat seat' : Seat) → AtGuest cells guest (λ front. IsSeat front number seat) → seat'.seat.number ≡ seat.seat.number
    → AtGuest cells guest (λ front. IsOf front seat') → AtGuest cells guest (λ front. IsSeat front number seat')
still cells guest number seat seat' at same of = record { each = λ cell its. record { its = of.each cell its; its_number = trans same (at.each cell its).its_number } }

number_of : (s s' : SeatIs) (saw made : List Item) → s' ≡ record s { saw = saw; made = made } → s'.number ≡ s.number
number_of s s' saw made is = ap (λ (x : SeatIs). x.number) is

pub after_slice : {S : Type 0} (cells : List (Cell S)) (guest number count : ℕ) (seat seat' : Seat) → AtGuest cells guest (λ front. IsSeat front number seat) → Slice seat.seat count seat'.seat
    → AtGuest cells guest (λ front. IsOf front seat') → AtGuest cells guest (λ front. IsSeat front number seat')
after_slice cells guest number count seat seat' at slice of =
    still cells guest number seat seat' at (number_of seat.seat seat'.seat seat'.seat.saw (seat.seat.made ++ slice.mine) slice.its_seat) of

pub after_going : {S : Type 0} (cells : List (Cell S)) (guest number : ℕ) (seat seat' : Seat) → AtGuest cells guest (λ front. IsSeat front number seat) → Goes seat.seat seat'.seat
    → AtGuest cells guest (λ front. IsOf front seat') → AtGuest cells guest (λ front. IsSeat front number seat')
after_going cells guest number seat seat' at goes of =
    still cells guest number seat seat' at (number_of seat.seat seat'.seat seat'.seat.saw (seat.seat.made ++ goes.mine) goes.its_seat) of

-- each thread has the seat at its place
pub seat_there : {S : Type 0} (number : ℕ) (cells : List (Cell S)) (seats : List Seat) (guest : ℕ) (seat d : Seat) → AreSeats number cells seats → guest < length seats
    → seat ≡ slice_index_or seats guest d → AtGuest cells guest (λ front. IsSeat front number seat)
seat_there number cells seats guest seat d are inside is =
    seat_at number cells seats guest seat are (subst (λ (x : Seat). slice_get seats guest ≡ Some x) (sym is) (slice_get-get_or seats guest d inside))

-- what the threads have left
pub seats_left : {S : Type 0} (number : ℕ) (cells : List (Cell S)) (seats : List Seat) → length seats ≡ length cells
    → ((guest : ℕ) (d : Seat) → guest < length cells → AtGuest cells guest (λ front. IsSeat front number (slice_index_or seats guest d))) → AreSeats number cells seats
seats_left number cells seats count each = record {
  count = count;
  each = λ g c s this that.
      let its = (each g s (slice_get_within cells g c this)).each c this in
      subst (λ (x : Seat). IsSeat c.front number x) (get_or_from_slice_get seats g s s that) its;
}

-- what may be asked of each thread: there is a guest, and the seat is its own
pub all_accept : {S : Type 0} (number n : ℕ) (cells : List (Cell S)) (seats seats' : List Seat) → AreSeats number cells seats → seats' ≡ seats → n ≡ length cells
    → (i : ℕ) (seat : Seat) → i < length seats' → seat ≡ slice_index_or seats' i seat → (i < length cells) × (n ≡ length cells) × AtGuest cells i (λ front. IsSeat front number seat)
all_accept number n cells seats seats' are same alike i seat inside is =
    let are' : AreSeats number cells seats' = subst (λ (l : List Seat). AreSeats number cells l) (sym same) are in
    (omega (arith, inside, are'.count), alike, seat_there number cells seats' i seat seat are' inside is)

-- what a turn leaves
pub turned : {S : Type 0} (is_true : S → Type 0) (cells : List (Cell S)) (seats seats' : List Seat) → AreTurned is_true cells seats seats' → ArePolicySeats cells seats'
turned is_true cells seats seats' are = record { count = are.count; each = λ g c s inside. (are.each g c s s inside).its }

-- what is left of a run
pub have_run : {S : Type 0} (is_true : S → Type 0) (cells : List (Cell S)) (handles : List Handles) (ended : List Ended) → AreHandedOut cells handles → HaveEnded is_true cells handles ended
    → HaveRun is_true cells ended
have_run is_true cells handles ended out have = record { handles = handles; handed_out = out; have_ended = have }

-- the policy's seats
pub of_policy : {S : Type 0} (cells : List (Cell S)) (seats : List Seat) → AreSeats 2 cells seats → ArePolicySeats cells seats
of_policy cells seats are = record {
  count = are.count;
  each = λ g c s inside.
      let its = are.each g (slice_index_or cells g c) (slice_index_or seats g s) (slice_get-get_or cells g c inside) (slice_get-get_or seats g s (omega (arith, inside, are.count))) in
      record { its = its.its; number = its.its_number };
}

pub to_policy : {S : Type 0} (cells : List (Cell S)) (seats : List Seat) → ArePolicySeats cells seats → AreSeats 2 cells seats
to_policy cells seats are = record {
  count = are.count;
  each = λ g c s this that.
      let its : IsPolicySeat (slice_index_or cells g c).front (slice_index_or seats g s) = are.each g c s (slice_get_within cells g c this) in
      let its' : IsPolicySeat c.front s =
      subst (λ (x : Seat). IsPolicySeat c.front x) (get_or_from_slice_get seats g s s that)
      (subst (λ (x : Cell _). IsPolicySeat x.front (slice_index_or seats g s)) (get_or_from_slice_get cells g c c this) its) in
      record { its = its'.its; its_number = its'.number };
}

-- what was handed out is of the guests
pub of_all : {S : Type 0} (cells : List (Cell S)) (all : List Handles) → AreHandedOut cells all → AreHandlesOfAll cells all
of_all cells all are = handles_by_place cells all (sym are.count) (λ g c h this that.
    let out = are.each g c h this that in
    record { seats = record { runner = out.runner.its; console = out.console; policy = out.policy.its; debugger = out.debugger.its }; feed = out.feed })

feed_of : (feed : FeedIs) (queue : QueueId) → feed ≡ record { queue = queue; put = [] } → feed.queue ≡ queue
feed_of feed queue is = cc

-- what was handed out at a boot
asked_there : {S : Type 0} (log_runs : ℕ) (asked : List NewGuest) (cells : List (Cell S)) (all : List Handles) (g : ℕ) (cell : Cell S) (handles : Handles)
    → AreAsAsked log_runs asked cells all → slice_get cells g ≡ Some cell → slice_get all g ≡ Some handles → (it : NewGuest) × IsAsAsked log_runs it cell.front handles
asked_there log_runs [] [] [] g cell handles are this that = absurd (none_is_some (slice_get [] g) cell refl this)
asked_there log_runs [] [] (h ∷ all) g cell handles are this that = absurd are
asked_there log_runs [] (c ∷ cells) all g cell handles are this that = absurd are
asked_there log_runs (a ∷ asked) [] all g cell handles are this that = absurd are
asked_there log_runs (a ∷ asked) (c ∷ cells) [] g cell handles are this that = absurd are
asked_there log_runs (a ∷ asked) (c ∷ cells) (h ∷ all) zero cell handles are this that =
    (a, subst (λ (x : Handles). IsAsAsked log_runs a cell.front x) (some_is h handles that) (subst (λ (x : Cell _). IsAsAsked log_runs a x.front h) (some_is c cell this) are.0))
asked_there log_runs (a ∷ asked) (c ∷ cells) (h ∷ all) (suc g) cell handles are this that = asked_there log_runs asked cells all g cell handles are.1 this that

pub as_asked : {S : Type 0} (log_runs : ℕ) (asked : List NewGuest) (cells : List (Cell S)) (all : List Handles) → AreAsAsked log_runs asked cells all → AreHandedOut cells all
as_asked log_runs asked cells all are = record {
  count = sym (asked_count log_runs asked cells all are).1;
  each = λ g c h this that.
      let it = (asked_there log_runs asked cells all g c h are this that).1 in
      record {
        runner = record { its = it.seats.runner; its_number = it.fresh.runner.its_number };
        console = it.seats.console;
        policy = record { its = it.seats.policy; its_number = it.fresh.policy.its_number };
        debugger = record { its = it.seats.debugger; its_number = it.fresh.debugger.its_number };
        feed = feed_of h.feed c.front.queue.id it.feed;
      };
}
