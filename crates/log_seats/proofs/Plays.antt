-- Each step keeps the rule, and tells what it is to tell.
use Rattle.std.proofs.Common.{◌≡◌, ◌≢◌, ℕ, zero, suc, ◌+◌, ◌-◌, ◌<◌, ◌≤◌, max, true, false, List, [], ◌∷◌, ◌++◌, length, replicate, take, refl, sym, ap, ◌∙◌, subst, arith, length-append}
use Rattle.std.specs.Prelude.{◌==◌, slice_index, slice_set}
use Rattle.std.proofs.lemmas.List.{length-replicate, length-take-le}
use mathlib.Core.Option.{none, some, some-injective, some-ne-none}
use lib.ListN.{get_elem?}
use prog.Atomic.{either}
use Rattle.atomic_table.specs.Table.{State, Me, step, Allows, opening}
use Rattle.atomic_table.specs.Table.Act.{keeps}
use Rattle.atomic_table.proofs.Lists.{exchanged}
use Rattle.items.specs.declared.item.Item.{Item}
use Rattle.items.specs.Items.{own}
use Rattle.items.specs.Entries.{step_by}
use Rattle.items.proofs.Seats.{own-append}
use Rattle.log_seats.specs.declared.view.SeatView.{SeatView}
use Rattle.log_seats.specs.declared.view.View.{View}
use Rattle.log_seats.specs.Rule.{Place, Whole, Knows, IsSeatAt, Fits, IsKept}
use Rattle.log_seats.specs.Plays.{IsLegalFor, Appends, AppendsCopies, AppendsStep, SeatSettles, Publishes, SeatLooks, SeatsLook}
use Rattle.log_seats.specs.Views.{pen_of, pen_alone, pen_beside, seat_alone, two_seats, pen_with, seat_with, seat_seeing}
use Rattle.log_seats.proofs.Copies.{own_copies, own_copies_of, own_copies_other}
use Rattle.log_seats.proofs.Places.{everywhere_set, other_token, off}
use Rattle.log_seats.proofs.Seats.{legal_own, legal_others, legal_between, knows_between, knows_whole, saw_at_most}

abbrev M : Type 0
M = Me Item View

-- ---- steps by which no log grows

-- one token's view changes, and the word
abbrev after : State Item View → ℕ → ℕ → View → State Item View
after s n token w = record { words = slice_set s.words 0 n; homes = s.homes; views = slice_set s.views token w }

same_log : (s : State Item View) (h : IsKept s) (token n : ℕ) (w : View) → Fits h.whole token w → n ≤ length h.whole.log → IsKept (after s n token w)
same_log s h token n w fits least = record {
  whole = h.whole;
  word = n;
  words = ap (λ (l : List ℕ). slice_set l 0 n) h.words;
  at_most = least;
  unused = h.unused;
  views = everywhere_set (Fits h.whole) s.views token w (λ j u _ e. h.views j u e) fits;
}

found_is : (s : State Item View) (h : IsKept s) → slice_index s.words 0 ≡ h.word
found_is s h = ap (λ (l : List ℕ). slice_index l 0) h.words

-- a seat looks
pub looks : (slots token : ℕ) (me : M) → me.0.first.present ≡ true → Allows IsKept slots token me 0 (λ n. n) (SeatLooks (step slots 0 0 0 none) me)
looks slots token me there s h homes at room =
    let x = h.whole in
    let seat = me.0.first in
    let here = (h.views token me.0 at).first there in
    let found = slice_index s.words 0 in
    let to = max (length seat.saw) found in
    let log = take to x.log in
    let is : found ≡ h.word = found_is s h in
    let a : length seat.saw ≤ length x.log = saw_at_most x.log seat here.knows in
    let b : h.word ≤ length x.log = h.at_most in
    let reached : length seat.saw ≤ to = omega arith in (
      seat_alone (seat_seeing seat log),
      keeps,
      tt,
      same_log s h token found (seat_alone (seat_seeing seat log))
          (record {
            pen = off;
            first = λ _. record { at_place = here.at_place; numbered = here.numbered; knows = knows_between x.log seat to reached here.knows };
            second = off;
          })
          (omega arith),
      record { seat = refl; long = length-take-le to x.log (omega arith); legal = legal_between x.log seat to reached here.knows },
    )

-- two seats look
pub look_together : (slots token : ℕ) (me : M) → me.0.first.present ≡ true → me.0.second.present ≡ true → Allows IsKept slots token me 0 (λ n. n) (SeatsLook (step slots 0 0 0 none) me)
look_together slots token me there second_there s h homes at room =
    let x = h.whole in
    let one = me.0.first in
    let two = me.0.second in
    let fit = h.views token me.0 at in
    let here = fit.first there in
    let here_too = fit.second second_there in
    let found = slice_index s.words 0 in
    let to = max (max (length one.saw) (length two.saw)) found in
    let log = take to x.log in
    let is : found ≡ h.word = found_is s h in
    let a : length one.saw ≤ length x.log = saw_at_most x.log one here.knows in
    let a' : length two.saw ≤ length x.log = saw_at_most x.log two here_too.knows in
    let b : h.word ≤ length x.log = h.at_most in
    let reached : length one.saw ≤ to = omega arith in
    let reached' : length two.saw ≤ to = omega arith in
    let w = two_seats (seat_seeing one log) (seat_seeing two log) in (
      w,
      keeps,
      tt,
      same_log s h token found w
          (record {
            pen = off;
            first = λ _. record { at_place = here.at_place; numbered = here.numbered; knows = knows_between x.log one to reached here.knows };
            second = λ _. record { at_place = here_too.at_place; numbered = here_too.numbered; knows = knows_between x.log two to reached' here_too.knows };
          })
          (omega arith),
      record {
        first = refl;
        second = refl;
        long = length-take-le to x.log (omega arith);
        first_legal = legal_between x.log one to reached here.knows;
        second_legal = legal_between x.log two to reached' here_too.knows;
      },
    )

-- the word becomes the length of the pen's log
pub publishes : (slots token : ℕ) (me : M) (new : ℕ) → me.0.pen.present ≡ true → new ≡ length me.0.pen.log
    → Allows IsKept slots token me 0 (λ _. new) (λ _. Publishes (step slots 0 new 0 none) me new)
publishes slots token me new there is s h homes at room =
    let p = (h.views token me.0 at).pen there in
    let same : new ≡ length h.whole.log = is ∙ ap length p.log_is in (
      pen_alone me.0.pen,
      keeps,
      tt,
      same_log s h token new (pen_alone me.0.pen) (record { pen = λ _. p; first = off; second = off }) (omega arith),
      refl,
    )

-- the seat beside the pen seat_seeing the log
pub settles : (slots token : ℕ) (me : M) → me.0.pen.present ≡ true → me.0.first.present ≡ true → Allows IsKept slots token me 0 (λ n. n) (SeatSettles (step slots 0 0 0 none) me)
settles slots token me there seat_there s h homes at room =
    let x = h.whole in
    let fit = h.views token me.0 at in
    let p = fit.pen there in
    let here = fit.first seat_there in
    let found = slice_index s.words 0 in
    let is : found ≡ h.word = found_is s h in
    let b : h.word ≤ length x.log = h.at_most in
    let knows : Knows me.0.pen.log me.0.first = subst (λ (l : List Item). Knows l me.0.first) (sym p.log_is) here.knows in
    let w = pen_beside me.0.pen (seat_seeing me.0.first me.0.pen.log) in (
      w,
      keeps,
      tt,
      same_log s h token found w
          (record {
            pen = λ _. p;
            first = λ _. record {
              at_place = here.at_place;
              numbered = here.numbered;
              knows = subst (λ (l : List Item). Knows l (seat_seeing me.0.first me.0.pen.log)) p.log_is (knows_whole me.0.pen.log me.0.first knows);
            };
            second = off;
          })
          (omega arith),
      record { pen = refl; seat = refl; legal = knows.legal },
    )

-- ---- steps by which the log grows

abbrev grown : Whole → List Item → Whole
grown x items = record { log = x.log ++ items; next = x.next; pen_at = x.pen_at; seat_at = x.seat_at }

-- another seat stays as it is
other_seat : (x : Whole) (place mine : Place) (number : ℕ) (items : List Item) (seat : SeatView) → x.seat_at number ≡ mine → place ≢ mine → ((k : ℕ) → number ≢ k → own k items ≡ []) → IsSeatAt x place seat → IsSeatAt (grown x items) place seat
other_seat x place mine number items seat is apart others h =
    let other : number ≢ seat.number = λ e. apart (sym h.at_place ∙ ap x.seat_at (sym e) ∙ is) in record {
      at_place = h.at_place;
      numbered = h.numbered;
      knows = record {
        legal = legal_others x.log seat.saw seat.made items seat.number h.knows.legal (others seat.number other);
        saw_own = h.knows.saw_own;
      };
    }

-- the seat that seat_with the items knows the new log, all of which it has seen
maker : (log : List Item) (seat : SeatView) (items : List Item) → Knows log seat → own seat.number items ≡ items → Knows (log ++ items) (seat_with seat log items)
maker log seat items h mine =
    let after = legal_own log seat.saw seat.made items seat.number h.legal mine in
    record { legal = after; saw_own = after.own_items }

-- the pen appends items of the seat beside it, and the word becomes at most the new length
appends : (token n : ℕ) (v : View) (items : List Item) (s : State Item View) (h : IsKept s) → get_elem? s.views token ≡ some v → v.pen.present ≡ true → v.first.present ≡ true
    → own v.first.number items ≡ items → ((k : ℕ) → v.first.number ≢ k → own k items ≡ []) → n ≤ length (v.pen.log ++ items)
    → IsKept (after s n token (pen_beside (pen_with v.pen items) (seat_with v.first v.pen.log items))) × IsLegalFor v.pen.log v.first
appends token n v items s h at there seat_there mine others least =
    let x = h.whole in
    let fit = h.views token v at in
    let p = fit.pen there in
    let here = fit.first seat_there in
    let x' = grown x items in
    let w = pen_beside (pen_with v.pen items) (seat_with v.first v.pen.log items) in
    let same : v.pen.log ++ items ≡ x.log ++ items = ap (λ (l : List Item). l ++ items) p.log_is in
    let knows : Knows v.pen.log v.first = subst (λ (l : List Item). Knows l v.first) (sym p.log_is) here.knows in (
      record {
        whole = x';
        word = n;
        words = ap (λ (l : List ℕ). slice_set l 0 n) h.words;
        at_most = subst (λ (l : List Item). n ≤ length l) same least;
        unused = λ k le. let less : v.first.number < x.next = here.numbered in
            let one = h.unused k le in let none_of = others k (λ e. absurd (omega arith)) in rw (own-append k x.log items, one, none_of) refl;
        views = everywhere_set (Fits x') s.views token w
            (λ j u apart e. let f = h.views j u e in record {
              pen = λ on. let q = f.pen on in absurd (apart (q.at_token ∙ sym p.at_token));
              first = λ on. other_seat x (j, false) (token, false) v.first.number items u.first here.at_place (other_token (j, false) (token, false) apart) others (f.first on);
              second = λ on. other_seat x (j, true) (token, false) v.first.number items u.second here.at_place (other_token (j, true) (token, false) apart) others (f.second on);
            })
            (record {
              pen = λ _. record { at_token = p.at_token; log_is = same; next_is = p.next_is };
              first = λ _. record {
                at_place = here.at_place;
                numbered = here.numbered;
                knows = subst (λ (l : List Item). Knows l (seat_with v.first v.pen.log items)) same (maker v.pen.log v.first items knows mine);
              };
              second = off;
            });
      },
      knows.legal,
    )

-- copies of an item, at an exchange, whatever the word was
pub appends_copies : (slots token : ℕ) (me : M) (old new times : ℕ) (item : Item) → me.0.pen.present ≡ true → me.0.first.present ≡ true → item.seat ≡ me.0.first.number → new ≡ length me.0.pen.log + times
    → Allows IsKept slots token me 0 (λ n. either (n == old) new n) (AppendsCopies (step slots 0 old new (some item)) me)
appends_copies slots token me old new times item there seat_there is len s h homes at room =
    let v = me.0 in
    let more = new - length v.pen.log in
    let items = replicate more item in
    let found = slice_index s.words 0 in
    let f : found ≡ h.word = found_is s h in
    let same : length v.pen.log ≡ length h.whole.log = ap length ((h.views token v at).pen there).log_is in
    let b : h.word ≤ length h.whole.log = h.at_most in
    let long : length (v.pen.log ++ items) ≡ length v.pen.log + more = length-append v.pen.log items ∙ ap (λ (n : ℕ). length v.pen.log + n) (length-replicate more item) in
    let mine : own v.first.number items ≡ items = own_copies_of item v.first.number more is in
    let others : (k : ℕ) → v.first.number ≢ k → own k items ≡ [] = λ k apart. own_copies_other item k more (λ e. apart (sym is ∙ e)) in
    let n = either (found == old) new found in
    let least : n ≤ length (v.pen.log ++ items) = exchanged found old new (λ m. m ≤ length (v.pen.log ++ items)) (λ e. omega arith) (λ e. omega arith) in
    let kept = appends token n v items s h at there seat_there mine others least in (
      pen_beside (pen_with v.pen items) (seat_with v.first v.pen.log items),
      keeps,
      tt,
      kept.0,
      λ said announced. subst (λ (i : Item). Appends v (replicate more i) (pen_beside (pen_with v.pen items) (seat_with v.first v.pen.log items))) (some-injective item said announced) (record { pen = refl; seat = refl; legal = kept.1 }),
    )

-- a step of the processor, at a load
pub appends_step : (slots token : ℕ) (me : M) → me.0.pen.present ≡ true → me.0.first.present ≡ true → Allows IsKept slots token me 0 (λ n. n) (AppendsStep (step slots 0 0 0 none) me)
appends_step slots token me there seat_there s h homes at room =
    let v = me.0 in
    let item = step_by v.first.number in
    let items = item ∷ [] in
    let found = slice_index s.words 0 in
    let f : found ≡ h.word = found_is s h in
    let same : length v.pen.log ≡ length h.whole.log = ap length ((h.views token v at).pen there).log_is in
    let b : h.word ≤ length h.whole.log = h.at_most in
    let long : length (v.pen.log ++ items) ≡ length v.pen.log + 1 = length-append v.pen.log items in
    let kept = appends token found v items s h at there seat_there (own_copies item 1) (λ k apart. own_copies_other item k 1 apart) (omega arith) in (
      pen_beside (pen_with v.pen items) (seat_with v.first v.pen.log items),
      keeps,
      tt,
      kept.0,
      record { pen = refl; seat = refl; legal = kept.1 },
    )

-- ---- the empty log

abbrev nothing_yet : Whole
nothing_yet = record { log = []; next = 0; pen_at = 0; seat_at = λ _. (0, false) }

begins_at : (token : ℕ) (v : View) → get_elem? (pen_alone (pen_of [] 0) ∷ []) token ≡ some v → Fits nothing_yet token v
begins_at zero v e = subst (Fits nothing_yet 0) (some-injective (pen_alone (pen_of [] 0)) v e) (record { pen = λ _. record { at_token = refl; log_is = refl; next_is = refl }; first = off; second = off })
begins_at (suc token) v e = absurd (some-ne-none v (sym e))

pub begins : IsKept (opening (0 ∷ []) [] (pen_alone (pen_of [] 0)))
begins = record { whole = nothing_yet; word = 0; words = refl; at_most = omega arith; unused = λ _ _. refl; views = begins_at }
