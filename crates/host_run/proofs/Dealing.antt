-- What was handed out, dealt to threads and joined again.
use Rattle.std.proofs.Common.{◌≡◌, ◌≤◌, ◌+◌, ℕ, zero, suc, List, [], ◌∷◌, ◌++◌, length, map, Option, Some, None, length-append, append_assoc, append-nil, refl, sym, ap, ◌∙◌, subst, arith}
use Rattle.std.specs.List.{AllZip, slice_get}
use Rattle.std.proofs.lemmas.List.{map-append, length-map}
use Rattle.std.proofs.lemmas.Slice.Zip.{AllZip-long}
use Rattle.std.specs.Prelude.{vec_capacity}
use Rattle.cell.specs.declared.cell.Cell.{Cell}
use Rattle.cell.specs.declared.seat.Seat.{Seat}
use Rattle.guest_cells.specs.declared.handles.Handles.{Handles}
use Rattle.monitor_answers.specs.declared.hand.MonitorHand.{MonitorHand}
use Rattle.monitor_answers.specs.Hands.{IsHandOf, AreHands}
use Rattle.host_run.specs.declared.hands.Hands.{Hands}
use Rattle.host_run.specs.Hands.{runner_of, hand_of, policy_of, debugger_of, handles_of, joined, AreDealt, AreAllHands}
use Rattle.host_run.specs.Seats.{IsSeat, AreSeats, IsHandedOut, AreHandedOut}

trans : {X : Type 0} {x y z : X} → x ≡ y → y ≡ z → x ≡ z
trans p q = p ∙ q

some_is : {X : Type 0} (x y : X) → Some x ≡ Some y → x ≡ y
some_is x y e = cc

none_is_some : {X : Type 0} (o : Option X) (x : X) → o ≡ None → o ≡ Some x → ⊥
none_is_some o x none some = absurd (cc)

-- what stands in a mapped list
mapped_at : {A B : Type 0} (f : A → B) (xs : List A) (k : ℕ) (y : B) → slice_get (map f xs) k ≡ Some y → (x : A) × (slice_get xs k ≡ Some x) × (f x ≡ y)
mapped_at f [] k y at = absurd (none_is_some (slice_get [] k) y refl at)
mapped_at f (x ∷ xs) zero y at = (x, refl, some_is (f x) y at)
mapped_at f (x ∷ xs) (suc k) y at = mapped_at f xs k y at

-- what is in a relation place by place, and back
zip_of : {A B : Type 0} (R : A → B → Type 0) (xs : List A) (ys : List B) → length ys ≡ length xs
    → ((g : ℕ) (x : A) (y : B) → slice_get xs g ≡ Some x → slice_get ys g ≡ Some y → R x y) → AllZip R xs ys
zip_of R [] [] alike each = tt
zip_of R [] (y ∷ ys) alike each = absurd (omega (arith, alike))
zip_of R (x ∷ xs) [] alike each = absurd (omega (arith, alike))
zip_of R (x ∷ xs) (y ∷ ys) alike each = (each 0 x y refl refl, zip_of R xs ys (omega (arith, alike)) (λ g a b s t. each (suc g) a b s t))

zip_at : {A B : Type 0} (R : A → B → Type 0) (xs : List A) (ys : List B) → AllZip R xs ys
    → (g : ℕ) (x : A) (y : B) → slice_get xs g ≡ Some x → slice_get ys g ≡ Some y → R x y
zip_at R [] ys all g x y s t = absurd (none_is_some (slice_get [] g) x refl s)
zip_at R (a ∷ xs) [] all g x y s t = absurd (none_is_some (slice_get [] g) y refl t)
zip_at R (a ∷ xs) (b ∷ ys) all zero x y s t = subst (λ z. R x z) (some_is b y t) (subst (λ z. R z b) (some_is a x s) all.0)
zip_at R (a ∷ xs) (b ∷ ys) all (suc g) x y s t = zip_at R xs ys all.1 g x y s t

hand_count : {S : Type 0} (cells : List (Cell S)) (hands : List MonitorHand) → AreHands cells hands → length hands ≡ length cells
hand_count {S = S} cells hands are = AllZip-long (λ (c : Cell S) (hand : MonitorHand). IsHandOf c.front hand) cells hands are

hand_at : {S : Type 0} (cells : List (Cell S)) (hands : List MonitorHand) → AreHands cells hands
    → (g : ℕ) (c : Cell S) (hand : MonitorHand) → slice_get cells g ≡ Some c → slice_get hands g ≡ Some hand → IsHandOf c.front hand
hand_at {S = S} cells hands are = zip_at (λ (c : Cell S) (hand : MonitorHand). IsHandOf c.front hand) cells hands are

-- the seats of one number, of what was handed out
seats_of : {S : Type 0} (number : ℕ) (of : Handles → Seat) (cells : List (Cell S)) (all : List Handles) → length all ≡ length cells
    → ((g : ℕ) (c : Cell S) (h : Handles) → slice_get cells g ≡ Some c → slice_get all g ≡ Some h → IsSeat c.front number (of h)) → AreSeats number cells (map of all)
seats_of number of cells all count each = record {
  count = omega (arith, count, length-map all of);
  each = λ g c s this that. let it = mapped_at of all g s that in subst (λ (x : Seat). IsSeat c.front number x) it.2 (each g c it.0 this it.1);
}

pub all_hands : {S : Type 0} (cells : List (Cell S)) (all : List Handles) (hands : Hands) → AreHandedOut cells all → AreDealt all hands → AreAllHands cells hands
all_hands {S = S} cells all hands out dealt = record {
  runners = subst (λ (l : List Seat). AreSeats 0 cells l) (sym dealt.runners) (seats_of 0 runner_of cells all out.count (λ g c h this that. (out.each g c h this that).runner));
  monitors = subst (λ (l : List MonitorHand). AreHands cells l) (sym dealt.monitors) (zip_of (λ (c : Cell S) (hand : MonitorHand). IsHandOf c.front hand) cells (map hand_of all) (omega (arith, out.count, length-map all hand_of)) (λ g c hand this that.
      let it = mapped_at hand_of all g hand that in
      let its = out.each g c it.0 this it.1 in
      subst (λ (x : MonitorHand). IsHandOf c.front x) it.2 (record { seat = its.console; feed = its.feed })));
  policies = subst (λ (l : List Seat). AreSeats 2 cells l) (sym dealt.policies) (seats_of 2 policy_of cells all out.count (λ g c h this that. (out.each g c h this that).policy));
  debuggers = subst (λ (l : List Seat). AreSeats 3 cells l) (sym dealt.debuggers) (seats_of 3 debugger_of cells all out.count (λ g c h this that. (out.each g c h this that).debugger));
  none = dealt.none;
  room = subst (λ (n : ℕ). n ≤ vec_capacity hands.room) out.count dealt.room;
}

-- one more guest at the end
pub joined_last : (rs : List Seat) (ms : List MonitorHand) (ps ds : List Seat) (r : Seat) (m : MonitorHand) (p d : Seat)
    → length ms ≡ length rs → length ps ≡ length rs → length ds ≡ length rs
    → joined (rs ++ r ∷ []) (ms ++ m ∷ []) (ps ++ p ∷ []) (ds ++ d ∷ []) ≡ joined rs ms ps ds ++ handles_of r m p d ∷ []
joined_last [] [] [] [] r m p d a b c = refl
joined_last [] (x ∷ ms) ps ds r m p d a b c = absurd (omega (arith, a))
joined_last [] [] (x ∷ ps) ds r m p d a b c = absurd (omega (arith, b))
joined_last [] [] [] (x ∷ ds) r m p d a b c = absurd (omega (arith, c))
joined_last (y ∷ rs) [] ps ds r m p d a b c = absurd (omega (arith, a))
joined_last (y ∷ rs) (x ∷ ms) [] ds r m p d a b c = absurd (omega (arith, b))
joined_last (y ∷ rs) (x ∷ ms) (z ∷ ps) [] r m p d a b c = absurd (omega (arith, c))
joined_last (y ∷ rs) (x ∷ ms) (z ∷ ps) (w ∷ ds) r m p d a b c =
    ap (λ (l : List Handles). handles_of y x z w ∷ l) (joined_last rs ms ps ds r m p d (omega (arith, a)) (omega (arith, b)) (omega (arith, c)))

-- what was handed out last is dealt last
pub dealt_last : {A : Type 0} (f : Handles → A) (all rest : List Handles) (last : Handles) (before mid after : List A) → all ≡ rest ++ last ∷ [] → mid ≡ before ++ map f rest
    → after ≡ mid ++ f last ∷ [] → after ≡ before ++ map f all
dealt_last {A = A} f all rest last before mid after whole so_far then =
    trans then (trans (ap (λ (l : List A). l ++ f last ∷ []) so_far) (trans (append_assoc before (map f rest) (f last ∷ []))
    (ap (λ (l : List A). before ++ l) (trans (sym (map-append f rest (last ∷ []))) (ap (map f) (sym whole))))))

pub dealt_none : {A : Type 0} (f : Handles → A) (all : List Handles) (before : List A) → all ≡ [] → before ≡ before ++ map f all
dealt_none f all before none = sym (trans (ap (λ (l : List Handles). before ++ map f l) none) (append-nil before))

same_joined : (rs rs' : List Seat) (ms ms' : List MonitorHand) (ps ps' ds ds' : List Seat) → rs ≡ rs' → ms ≡ ms' → ps ≡ ps' → ds ≡ ds' → joined rs ms ps ds ≡ joined rs' ms' ps' ds'
same_joined rs rs' ms ms' ps ps' ds ds' a b c d = cc

-- the last guest's are joined last
pub joined_more : (rs rs' : List Seat) (ms ms' : List MonitorHand) (ps ps' ds ds' : List Seat) (r : Seat) (m : MonitorHand) (p d : Seat) (before mid after : List Handles)
    → rs ≡ rs' ++ r ∷ [] → ms ≡ ms' ++ m ∷ [] → ps ≡ ps' ++ p ∷ [] → ds ≡ ds' ++ d ∷ [] → length ms ≡ length rs → length ps ≡ length rs → length ds ≡ length rs
    → mid ≡ before ++ joined rs' ms' ps' ds' → after ≡ mid ++ handles_of r m p d ∷ [] → after ≡ before ++ joined rs ms ps ds
joined_more rs rs' ms ms' ps ps' ds ds' r m p d before mid after e1 e2 e3 e4 a b c so_far then =
    let n1 : length rs ≡ length rs' + 1 = ap (λ (l : List Seat). length l) e1 ∙ length-append rs' (r ∷ []) in
    let n2 : length ms ≡ length ms' + 1 = ap (λ (l : List MonitorHand). length l) e2 ∙ length-append ms' (m ∷ []) in
    let n3 : length ps ≡ length ps' + 1 = ap (λ (l : List Seat). length l) e3 ∙ length-append ps' (p ∷ []) in
    let n4 : length ds ≡ length ds' + 1 = ap (λ (l : List Seat). length l) e4 ∙ length-append ds' (d ∷ []) in
    let more : joined rs ms ps ds ≡ joined rs' ms' ps' ds' ++ handles_of r m p d ∷ [] =
    same_joined rs (rs' ++ r ∷ []) ms (ms' ++ m ∷ []) ps (ps' ++ p ∷ []) ds (ds' ++ d ∷ []) e1 e2 e3 e4
    ∙ joined_last rs' ms' ps' ds' r m p d (omega (arith, a, n1, n2)) (omega (arith, b, n1, n3)) (omega (arith, c, n1, n4)) in
    then ∙ (ap (λ (l : List Handles). l ++ handles_of r m p d ∷ []) so_far ∙ (append_assoc before (joined rs' ms' ps' ds') (handles_of r m p d ∷ [])
    ∙ ap (λ (l : List Handles). before ++ l) (sym more)))

pub joined_none : (rs : List Seat) (ms : List MonitorHand) (ps ds : List Seat) (before : List Handles) → rs ≡ [] → before ≡ before ++ joined rs ms ps ds
joined_none rs ms ps ds before none = sym (trans (ap (λ (l : List Seat). before ++ joined l ms ps ds) none) (append-nil before))

-- the hands of all guests are as many
pub hands_alike : {S : Type 0} (cells : List (Cell S)) (hands : Hands) → AreAllHands cells hands
    → (length hands.monitors.items ≡ length hands.runners.items) × ((length hands.policies.items ≡ length hands.runners.items) × ((length hands.debuggers.items ≡ length hands.runners.items)
    × ((hands.room.items ≡ []) × (length hands.runners.items ≤ vec_capacity hands.room))))
hands_alike cells hands are = (
  trans (hand_count cells hands.monitors.items are.monitors) (sym are.runners.count),
  (
    trans are.policies.count (sym are.runners.count),
    (
      trans are.debuggers.count (sym are.runners.count),
      (are.none, omega (arith, are.room, are.runners.count)),
    ),
  ),
)

joined_count : (rs : List Seat) (ms : List MonitorHand) (ps ds : List Seat) → length ms ≡ length rs → length ps ≡ length rs → length ds ≡ length rs
    → length (joined rs ms ps ds) ≡ length rs
joined_count [] ms ps ds a b c = refl
joined_count (r ∷ rs) [] ps ds a b c = absurd (omega (arith, a))
joined_count (r ∷ rs) (m ∷ ms) [] ds a b c = absurd (omega (arith, b))
joined_count (r ∷ rs) (m ∷ ms) (p ∷ ps) [] a b c = absurd (omega (arith, c))
joined_count (r ∷ rs) (m ∷ ms) (p ∷ ps) (d ∷ ds) a b c = omega (arith, joined_count rs ms ps ds (omega (arith, a)) (omega (arith, b)) (omega (arith, c)))

-- what stands at a guest's place of what was joined
record At (rs : List Seat) (ms : List MonitorHand) (ps ds : List Seat) (g : ℕ) (h : Handles) : Type 0 where
  r : Seat
  m : MonitorHand
  p : Seat
  d : Seat
  at_r : slice_get rs g ≡ Some r
  at_m : slice_get ms g ≡ Some m
  at_p : slice_get ps g ≡ Some p
  at_d : slice_get ds g ≡ Some d
  is : handles_of r m p d ≡ h

joined_at : (rs : List Seat) (ms : List MonitorHand) (ps ds : List Seat) (g : ℕ) (h : Handles) → slice_get (joined rs ms ps ds) g ≡ Some h → At rs ms ps ds g h
joined_at [] ms ps ds g h at = absurd (none_is_some (slice_get [] g) h refl at)
joined_at (r ∷ rs) [] ps ds g h at = absurd (none_is_some (slice_get [] g) h refl at)
joined_at (r ∷ rs) (m ∷ ms) [] ds g h at = absurd (none_is_some (slice_get [] g) h refl at)
joined_at (r ∷ rs) (m ∷ ms) (p ∷ ps) [] g h at = absurd (none_is_some (slice_get [] g) h refl at)
joined_at (r ∷ rs) (m ∷ ms) (p ∷ ps) (d ∷ ds) zero h at =
    record { r = r; m = m; p = p; d = d; at_r = refl; at_m = refl; at_p = refl; at_d = refl; is = some_is (handles_of r m p d) h at }
joined_at (r ∷ rs) (m ∷ ms) (p ∷ ps) (d ∷ ds) (suc g) h at =
    let it = joined_at rs ms ps ds g h at in
    record { r = it.r; m = it.m; p = it.p; d = it.d; at_r = it.at_r; at_m = it.at_m; at_p = it.at_p; at_d = it.at_d; is = it.is }

-- what the threads had is what was handed out, with their seats as they are now
pub handed_back : {S : Type 0} (cells : List (Cell S)) (hands : Hands) → AreAllHands cells hands
    → AreHandedOut cells (joined hands.runners.items hands.monitors.items hands.policies.items hands.debuggers.items)
handed_back cells hands are = record {
  count = omega (
    arith,
    are.runners.count,
    joined_count hands.runners.items hands.monitors.items hands.policies.items hands.debuggers.items
        (omega (arith, hand_count cells hands.monitors.items are.monitors, are.runners.count)) (omega (arith, are.policies.count, are.runners.count)) (omega (arith, are.debuggers.count, are.runners.count)),
  );
  each = λ g c h this that.
      let it = joined_at hands.runners.items hands.monitors.items hands.policies.items hands.debuggers.items g h that in
      let hand = hand_at cells hands.monitors.items are.monitors g c it.m this it.at_m in
      subst (λ (x : Handles). IsHandedOut c.front x) it.is (record {
        runner = are.runners.each g c it.r this it.at_r;
        console = hand.seat;
        policy = are.policies.each g c it.p this it.at_p;
        debugger = are.debuggers.each g c it.d this it.at_d;
        feed = hand.feed;
      });
}
