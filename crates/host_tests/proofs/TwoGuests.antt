-- What is handed out of one guest, or of two.
use Rattle.std.proofs.Common.{◌≡◌, ℕ, zero, suc, List, [], ◌∷◌, ◌++◌, Some, length, length-append, sym, subst, ap, ◌∙◌, arith}
use Rattle.std.specs.List.{slice_get}
use Rattle.cell.specs.declared.cell.Cell.{Cell}
use Rattle.cell.specs.declared.seat.Seat.{Seat}
use Rattle.guest_cells.specs.declared.handles.Handles.{Handles}
use Rattle.guest_cells.specs.Handles.{AreHandlesOf, AreHandlesOfAll}
use Rattle.host_policy.specs.Turns.{IsPolicySeat, ArePolicySeats}
use Rattle.host.specs.Places.{AtGuest}
use Rattle.host_tests.specs.Each.{AtEach, IsHandedOut, AreHandedOut}
use Rattle.host_tests.proofs.Places.{handles_of_all, rest_of, last_of}
use Rattle.host_tests.proofs.Crewing.{policies_of_all}

same_thing : {A : Type 0} (x y : A) → Some x ≡ Some y → x ≡ y
same_thing x y e = cc

one_place : {A : Type 0} (P : ℕ → A → Type 0) (a : A) (g : ℕ) (x : A) → P 0 a → slice_get (a ∷ []) g ≡ Some x → P g x
one_place P a zero x pa is = subst (P 0) (same_thing a x is) pa
one_place P a (suc g) x pa is = absurd (cc)

two_places : {A : Type 0} (P : ℕ → A → Type 0) (a b : A) (g : ℕ) (x : A) → P 0 a → P 1 b → slice_get (a ∷ b ∷ []) g ≡ Some x → P g x
two_places P a b zero x pa pb is = subst (P 0) (same_thing a x is) pa
two_places P a b (suc zero) x pa pb is = subst (P 1) (same_thing b x is) pb
two_places P a b (suc (suc g)) x pa pb is = absurd (cc)

-- handles of two guests, taken off the last first
pub second_of_two : {S : Type 0} (cells : List (Cell S)) (all all' : List Handles) (two : Handles) → AreHandedOut cells all → length all ≡ 2 → all ≡ all' ++ two ∷ []
    → AtGuest cells 1 (λ front. IsHandedOut front two)
second_of_two cells all all' two at count is =
    last_of (λ (g : ℕ) (h : Handles). AtGuest cells g (λ front. IsHandedOut front h)) all all' two 1 at is (omega (arith, count, length-append all' (two ∷ []), ap length is))

pub first_of_two : {S : Type 0} (cells : List (Cell S)) (all all' none : List Handles) (one two : Handles) → AreHandedOut cells all → length all ≡ 2 → all ≡ all' ++ two ∷ [] → all' ≡ none ++ one ∷ []
    → AtGuest cells 0 (λ front. IsHandedOut front one)
first_of_two cells all all' none one two at count is is' =
    let before : AreHandedOut cells all' = rest_of (λ (g : ℕ) (h : Handles). AtGuest cells g (λ front. IsHandedOut front h)) all all' two at is in
    let left : length none ≡ 0 = omega (arith, count, length-append all' (two ∷ []), ap length is, length-append none (one ∷ []), ap length is') in
    last_of (λ (g : ℕ) (h : Handles). AtGuest cells g (λ front. IsHandedOut front h)) all' none one 0 before is' left

-- the policy's seats of both
pub policies_of_two : {S : Type 0} (cells : List (Cell S)) (all : List Seat) (a b : Seat) → length cells ≡ 2 → all ≡ a ∷ b ∷ [] → AtGuest cells 0 (λ front. IsPolicySeat front a)
    → AtGuest cells 1 (λ front. IsPolicySeat front b) → ArePolicySeats cells all
policies_of_two cells all a b two is pa pb =
    let each : AtEach (λ (g : ℕ) (s : Seat). AtGuest cells g (λ front. IsPolicySeat front s)) all =
    record { each = λ g x its. two_places (λ (g : ℕ) (s : Seat). AtGuest cells g (λ front. IsPolicySeat front s)) a b g x pa pb (ap (λ (l : List Seat). slice_get l g) (sym is) ∙ its) } in
    policies_of_all cells all (omega (arith, two, ap length is)) each

-- what was handed out of the only guest
pub only_one : {S : Type 0} (cells : List (Cell S)) (all none : List Handles) (one : Handles) → AreHandedOut cells all → length all ≡ 1 → all ≡ none ++ one ∷ []
    → AtGuest cells 0 (λ front. IsHandedOut front one)
only_one cells all none one at count is =
    last_of (λ (g : ℕ) (h : Handles). AtGuest cells g (λ front. IsHandedOut front h)) all none one 0 at is (omega (arith, count, length-append none (one ∷ []), ap length is))

pub handles_of_one : {S : Type 0} (cells : List (Cell S)) (all : List Handles) (one : Handles) → length cells ≡ 1 → all ≡ one ∷ [] → AtGuest cells 0 (λ front. AreHandlesOf front one)
    → AreHandlesOfAll cells all
handles_of_one cells all one count is so =
    handles_of_all cells all (omega (arith, count, ap length is))
    (record { each = λ g x its. one_place (λ (g : ℕ) (h : Handles). AtGuest cells g (λ front. AreHandlesOf front h)) one g x so (ap (λ (l : List Handles). slice_get l g) (sym is) ∙ its) })
