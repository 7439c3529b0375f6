-- Each cut and each joining of views keeps the rule.
use Rattle.std.proofs.Common.{◌≡◌, ◌≢◌, ℕ, ◌+◌, ◌<◌, Bool, true, false, length, set, refl, sym, ap, ◌∙◌, arith}
use Rattle.atomic_table.specs.Table.{Splits, Joins}
use Rattle.atomic_table.proofs.Lists.{set_else}
use Rattle.log_seats.specs.declared.view.SeatView.{SeatView}
use Rattle.log_seats.specs.declared.view.View.{View}
use Rattle.log_seats.specs.Rule.{Place, Whole, IsSeatAt, Fits, IsKept}
use Rattle.log_seats.specs.Views.{pen_of, pen_alone, pen_beside, new_seat, seat_alone, two_seats, nobody}
use Rattle.log_seats.proofs.Places.{everywhere_set, everywhere_push, after_move, moved, moved_here, moved_other, first_second, seat_stays, view_stays, seat_comes, off, nobody_fits}

-- a seat leaves a token for a new one
leaves_for_new : (token : ℕ) (v left : View) (second : Bool) (seat : SeatView)
    → ((x : Whole) → Fits x token v → IsSeatAt x (token, second) seat)
    → ((x : Whole) (to : Place) → x.seat_at seat.number ≡ (token, second) → Fits x token v → Fits (after_move x seat.number to) token left)
    → Splits IsKept token v left (seat_alone seat)
leaves_for_new token v left second seat sits stays s h at =
    let x = h.whole in
    let fit = h.views token v at in
    let here = sits x fit in
    let views = set s.views token left in
    let to : Place = (length views, false) in
    let x' = after_move x seat.number to in
    record {
      whole = x';
      word = h.word;
      words = h.words;
      at_most = h.at_most;
      unused = h.unused;
      views = everywhere_push (Fits x') views (seat_alone seat)
          (everywhere_set (Fits x') s.views token left
          (λ j u apart e. view_stays x seat.number (token, second) to j u here.at_place apart (h.views j u e))
          (stays x to here.at_place fit))
          (record { pen = off; first = λ _. seat_comes x to seat here.numbered here.knows; second = off });
    }

-- a seat comes to a token
comes_to : (token other : ℕ) (v w both : View) (second : Bool)
    → w.first.present ≡ true
    → ((x : Whole) → ¬ (other ≡ token) → IsSeatAt x (other, false) w.first → Fits x token v → Fits (after_move x w.first.number (token, second)) token both)
    → Joins IsKept token v other w both nobody
comes_to token other v w both second there fits s h at apart at_other =
    let x = h.whole in
    let was = sym (set_else s.views token other both apart) ∙ at_other in
    let sits = (h.views other w was).first there in
    let to : Place = (token, second) in
    let x' = after_move x w.first.number to in
    let views = set s.views token both in
    record {
      whole = x';
      word = h.word;
      words = h.words;
      at_most = h.at_most;
      unused = h.unused;
      views = everywhere_set (Fits x') views other nobody
          (λ j u not_other e. everywhere_set (λ k t. k ≢ other → Fits x' k t) s.views token both
          (λ k t _ f else_other. view_stays x w.first.number (other, false) to k t sits.at_place else_other (h.views k t f))
          (λ _. fits x apart sits (h.views token v at)) j u e not_other)
          (nobody_fits x' other);
    }

pub leave : (token : ℕ) (v : View) → v.first.present ≡ true → Splits IsKept token v nobody (seat_alone v.first)
leave token v there =
    leaves_for_new token v nobody false v.first (λ x fit. fit.first there) (λ x to is fit. nobody_fits (after_move x v.first.number to) token)

pub leave_pen : (token : ℕ) (v : View) → v.first.present ≡ true → Splits IsKept token v (pen_alone v.pen) (seat_alone v.first)
leave_pen token v there = leaves_for_new token v (pen_alone v.pen) false v.first (λ x fit. fit.first there) (λ x to is fit. record {
  pen = λ pen_there. let p = fit.pen pen_there in record { at_token = p.at_token; log_is = p.log_is; next_is = p.next_is };
  first = off;
  second = off;
})

pub leave_seat : (token : ℕ) (v : View) → v.first.present ≡ true → v.second.present ≡ true → Splits IsKept token v (seat_alone v.first) (seat_alone v.second)
leave_seat token v there second_there = leaves_for_new token v (seat_alone v.first) true v.second (λ x fit. fit.second second_there) (λ x to is fit. record {
  pen = off;
  first = λ _. seat_stays x v.second.number (token, true) to (token, false) v.first is (first_second (token, false) (token, true) refl refl) (fit.first there);
  second = off;
})

pub come_beside_pen : (token other : ℕ) (v w : View) → w.first.present ≡ true → Joins IsKept token v other w (pen_beside v.pen w.first) nobody
come_beside_pen token other v w there = comes_to token other v w (pen_beside v.pen w.first) false there (λ x apart sits fit. record {
  pen = λ pen_there. let p = fit.pen pen_there in record { at_token = p.at_token; log_is = p.log_is; next_is = p.next_is };
  first = λ _. seat_comes x (token, false) w.first sits.numbered sits.knows;
  second = off;
})

pub come_beside_seat : (token other : ℕ) (v w : View) → v.first.present ≡ true → w.first.present ≡ true → Joins IsKept token v other w (two_seats v.first w.first) nobody
come_beside_seat token other v w there other_there = comes_to token other v w (two_seats v.first w.first) true other_there (λ x apart sits fit. record {
  pen = off;
  first = λ _. seat_stays x w.first.number (other, false) (token, true) (token, false) v.first sits.at_place (λ e. apart (sym (λ i. (e i).0))) (fit.first there);
  second = λ _. seat_comes x (token, true) w.first sits.numbered sits.knows;
})

-- a number that no seat has yet is at no place of a seat that there is
next_stays : (x : Whole) (to place : Place) (seat : SeatView) → IsSeatAt x place seat → IsSeatAt (record { log = x.log; next = x.next + 1; pen_at = x.pen_at; seat_at = moved x.seat_at x.next to }) place seat
next_stays x to place seat h =
    let less : seat.number < x.next = h.numbered in record {
      at_place = moved_other x.seat_at x.next to seat.number (λ e. absurd (omega arith)) ∙ h.at_place;
      numbered = omega arith;
      knows = h.knows;
    }

-- the pen makes the next seat
pub next_seat : (token : ℕ) (v : View) → v.pen.present ≡ true → Splits IsKept token v (pen_alone (pen_of v.pen.log (v.pen.next + 1))) (seat_alone (new_seat v.pen.next))
next_seat token v there s h at =
    let x = h.whole in
    let fit = h.views token v at in
    let p = fit.pen there in
    let same : v.pen.next ≡ x.next = p.next_is in
    let left = pen_alone (pen_of v.pen.log (v.pen.next + 1)) in
    let views = set s.views token left in
    let to : Place = (length views, false) in
    let x' : Whole = record { log = x.log; next = x.next + 1; pen_at = x.pen_at; seat_at = moved x.seat_at x.next to } in
    let none_yet = h.unused v.pen.next (omega arith) in
    record {
      whole = x';
      word = h.word;
      words = h.words;
      at_most = h.at_most;
      unused = λ number le. h.unused number (omega arith);
      views = everywhere_push (Fits x') views (seat_alone (new_seat v.pen.next))
          (everywhere_set (Fits x') s.views token left
          (λ j u apart e. let f = h.views j u e in record {
            pen = λ on. let q = f.pen on in absurd (apart (q.at_token ∙ sym p.at_token));
            first = λ on. next_stays x to (j, false) u.first (f.first on);
            second = λ on. next_stays x to (j, true) u.second (f.second on);
          })
          (record {
            pen = λ _. record { at_token = p.at_token; log_is = p.log_is; next_is = omega arith };
            first = off;
            second = off;
          }))
          (record {
            pen = off;
            first = λ _. record {
              at_place = ap (moved x.seat_at x.next to) same ∙ moved_here x.seat_at x.next to;
              numbered = omega arith;
              knows = record { legal = record { begins = (x.log, refl); own_items = none_yet }; saw_own = refl };
            };
            second = off;
          });
    }
