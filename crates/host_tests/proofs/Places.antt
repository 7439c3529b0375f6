-- What stands at the places of guests.
use Rattle.std.proofs.Common.{◌≡◌, ℕ, zero, suc, ◌<◌, ◌≤◌, ◌⊎◌, inl, inr, List, [], ◌∷◌, ◌++◌, Some, None, length, length-append, get_or, sym, subst, ap, ◌∙◌, arith}
use Rattle.std.specs.List.{slice_get}
use Rattle.std.proofs.lemmas.Option.{slice_get_cases, slice_get_within, slice_get-get_or, get_or_from_slice_get}
use Rattle.std.proofs.lemmas.List.{get_or_append_left}
use Rattle.std.proofs.Math.Seq.{get_or-append_seam}
use Rattle.booting.specs.declared.asked.NewGuest.{NewGuest}
use Rattle.cell.specs.declared.cell.Cell.{Cell}
use Rattle.guest_cells.specs.declared.handles.Handles.{Handles}
use Rattle.guest_cells.specs.Handles.{AreHandlesOf, AreHandlesOfAll}
use Rattle.guest_cells.specs.Asked.{IsAsAsked, AreAsAsked}
use Rattle.guest_cells.proofs.ByPlace.{asked_count, asked_at, handles_by_place}
use Rattle.host.specs.Places.{AtGuest}
use Rattle.host_tests.specs.Each.{AtEach, IsHandedOut, AreHandedOut}

same_thing : {A : Type 0} (x y : A) → Some x ≡ Some y → x ≡ y
same_thing x y e = cc

before_last : {A : Type 0} (xs : List A) (x y : A) (g : ℕ) → slice_get xs g ≡ Some y → slice_get (xs ++ x ∷ []) g ≡ Some y
before_last xs x y g is =
    let inside : g < length xs = slice_get_within xs g y is in
    let more : g < length (xs ++ x ∷ []) = omega (arith, inside, length-append xs (x ∷ [])) in
    slice_get-get_or (xs ++ x ∷ []) g y more ∙ ap Some (get_or_append_left xs (x ∷ []) y g inside ∙ get_or_from_slice_get xs g y y is)

at_last : {A : Type 0} (xs : List A) (x : A) → slice_get (xs ++ x ∷ []) (length xs) ≡ Some x
at_last xs x =
    let more : length xs < length (xs ++ x ∷ []) = omega (arith, length-append xs (x ∷ [])) in
    slice_get-get_or (xs ++ x ∷ []) (length xs) x more ∙ ap Some (get_or-append_seam xs x [] x)

-- what is left where the last was taken off
pub rest_of : {A : Type 0} (P : ℕ → A → Type 0) (all xs : List A) (x : A) → AtEach P all → all ≡ xs ++ x ∷ [] → AtEach P xs
rest_of P all xs x at is = record { each = λ g y its. at.each g y (ap (λ (l : List _). slice_get l g) is ∙ before_last xs x y g its) }

-- and what was taken off
pub last_of : {A : Type 0} (P : ℕ → A → Type 0) (all xs : List A) (x : A) (n : ℕ) → AtEach P all → all ≡ xs ++ x ∷ [] → length xs ≡ n → P n x
last_of P all xs x n at is count = subst (λ (k : ℕ). P k x) count (at.each (length xs) x (ap (λ (l : List _). slice_get l (length xs)) is ∙ at_last xs x))

four_places : {A : Type 0} (P : ℕ → A → Type 0) (a b c d : A) (g : ℕ) (x : A) → P 0 a → P 1 b → P 2 c → P 3 d → slice_get (a ∷ b ∷ c ∷ d ∷ []) g ≡ Some x → P g x
four_places P a b c d zero x pa pb pc pd is = subst (P 0) (same_thing a x is) pa
four_places P a b c d (suc zero) x pa pb pc pd is = subst (P 1) (same_thing b x is) pb
four_places P a b c d (suc (suc zero)) x pa pb pc pd is = subst (P 2) (same_thing c x is) pc
four_places P a b c d (suc (suc (suc zero))) x pa pb pc pd is = subst (P 3) (same_thing d x is) pd
four_places P a b c d (suc (suc (suc (suc g)))) x pa pb pc pd is = absurd (cc)

pub of_four : {A : Type 0} (P : ℕ → A → Type 0) (all : List A) (a b c d : A) → all ≡ a ∷ b ∷ c ∷ d ∷ [] → P 0 a → P 1 b → P 2 c → P 3 d → AtEach P all
of_four P all a b c d are pa pb pc pd = record { each = λ g x is. four_places P a b c d g x pa pb pc pd (ap (λ (l : List _). slice_get l g) (sym are) ∙ is) }

-- a list of which four were taken off, the last first, and nothing is left
pub four_parted : {A : Type 0} (all three two one none : List A) (a b c d : A) → all ≡ three ++ d ∷ [] → three ≡ two ++ c ∷ [] → two ≡ one ++ b ∷ [] → one ≡ none ++ a ∷ [] → none ≡ []
    → all ≡ a ∷ b ∷ c ∷ d ∷ []
four_parted all three two one none a b c d e3 e2 e1 e0 e =
    e3 ∙ ap (λ (l : List _). l ++ d ∷ []) (e2 ∙ ap (λ (l : List _). l ++ c ∷ []) (e1 ∙ ap (λ (l : List _). l ++ b ∷ []) (e0 ∙ ap (λ (l : List _). l ++ a ∷ []) e)))

asked_there : {S : Type 0} (log_runs : ℕ) (asked : List NewGuest) (cells : List (Cell S)) (all : List Handles) (g : ℕ) (cell : Cell S) (h : Handles) → AreAsAsked log_runs asked cells all
    → slice_get all g ≡ Some h → slice_get cells g ≡ Some cell
    → ((it : NewGuest) × (g < length asked) × (slice_get asked g ≡ Some it) × (get_or asked g it ≡ it)) ⊎ ((length asked ≤ g) × (slice_get asked g ≡ None)) → IsHandedOut cell.front h
asked_there log_runs asked cells all g cell h are that this (inl found) =
    let booted : IsAsAsked log_runs found.0 cell.front h = asked_at log_runs asked cells all g found.0 cell h are found.2 this that in
    record { its = record { seats = booted.seats; feed = ap (λ (f : _). f.queue) booted.feed }; policy = booted.fresh.policy.its_number }
asked_there log_runs asked cells all g cell h are that this (inr past) =
    let inside : g < length cells = slice_get_within cells g cell this in
    absurd (omega (arith, inside, past.0, (asked_count log_runs asked cells all are).0))

-- what was handed out at the boot
pub handed_out : {S : Type 0} (log_runs : ℕ) (asked : List NewGuest) (cells : List (Cell S)) (all : List Handles) → AreAsAsked log_runs asked cells all → AreHandedOut cells all
handed_out log_runs asked cells all are = record { each = λ g h that. record { each = λ cell this. asked_there log_runs asked cells all g cell h are that this (slice_get_cases asked g).1 } }

-- handles at each place are those of all guests
pub handles_of_all : {S : Type 0} (cells : List (Cell S)) (all : List Handles) → length cells ≡ length all
    → AtEach (λ (g : ℕ) (h : Handles). AtGuest cells g (λ front. AreHandlesOf front h)) all → AreHandlesOfAll cells all
handles_of_all cells all same at = handles_by_place cells all same (λ g cell h this that. (at.each g h that).each cell this)
