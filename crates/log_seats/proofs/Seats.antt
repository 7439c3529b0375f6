-- Seats that are legal, and those that know the log.
use Rattle.std.proofs.Common.{◌≡◌, ℕ, ◌+◌, ◌-◌, ◌≤◌, List, [], ◌++◌, length, take, drop, sym, ap, ◌∙◌, arith, append_assoc, append-nil, length-append}
use Rattle.std.proofs.lemmas.List.{take-append-drop, nil_from_length}
use Rattle.std.proofs.Math.Seq.{take-append-add}
use mathlib.Core.List.{IsPrefix}
use Rattle.items.specs.declared.item.Item.{Item}
use Rattle.items.specs.Items.{own}
use Rattle.items.proofs.Seats.{own-append}
use Rattle.log_seats.specs.declared.view.SeatView.{SeatView}
use Rattle.log_seats.specs.Legal.{Legal}
use Rattle.log_seats.specs.Rule.{Knows}
use Rattle.log_seats.specs.Plays.{IsLegalFor}
use Rattle.log_seats.specs.Views.{seat_seeing}

-- ---- beginnings of lists

pub prefix_self : (xs : List Item) → IsPrefix xs xs
prefix_self xs = ([], append-nil xs)

pub prefix_append : (xs ys more : List Item) → IsPrefix xs ys → IsPrefix xs (ys ++ more)
prefix_append xs ys more p = (p.0 ++ more, sym (append_assoc xs p.0 more) ∙ ap (λ (l : List Item). l ++ more) p.1)

pub prefix_trans : (xs ys zs : List Item) → IsPrefix xs ys → IsPrefix ys zs → IsPrefix xs zs
prefix_trans xs ys zs p q =
    (p.0 ++ q.0, sym (append_assoc xs p.0 q.0) ∙ ap (λ (l : List Item). l ++ q.0) p.1 ∙ q.1)

pub prefix_length : (xs ys : List Item) → IsPrefix xs ys → length xs ≤ length ys
prefix_length xs ys p = let e : length xs + length p.0 ≡ length ys = sym (length-append xs p.0) ∙ ap length p.1 in omega arith

-- ---- legal seats

pub legal_whole : (log saw made : List Item) (number : ℕ) → Legal log number saw made → Legal log number log made
legal_whole log saw made number h = record { begins = prefix_self log; own_items = h.own_items }

pub legal_less : (log saw made less : List Item) (number : ℕ) → Legal log number saw made → IsPrefix less saw → Legal log number less made
legal_less log saw made less number h p = record { begins = prefix_trans less saw log p h.begins; own_items = h.own_items }

pub legal_own : (log saw made items : List Item) (number : ℕ) → Legal log number saw made → own number items ≡ items → Legal (log ++ items) number (log ++ items) (made ++ items)
legal_own log saw made items number h mine = record {
  begins = prefix_self (log ++ items);
  own_items = own-append number log items ∙ ap (λ (l : List Item). own number log ++ l) mine ∙ ap (λ (l : List Item). l ++ items) h.own_items;
}

pub legal_others : (log saw made items : List Item) (number : ℕ) → Legal log number saw made → own number items ≡ [] → Legal (log ++ items) number saw made
legal_others log saw made items number h nothing = record {
  begins = prefix_append saw log items h.begins;
  own_items = own-append number log items ∙ ap (λ (l : List Item). own number log ++ l) nothing ∙ append-nil (own number log) ∙ h.own_items;
}

-- ---- seats that know the log

nothing_after : (xs ys : List Item) → xs ++ ys ≡ xs → ys ≡ []
nothing_after xs ys e = let n : length xs + length ys ≡ length xs = sym (length-append xs ys) ∙ ap length e in nil_from_length ys (omega arith)

nothing_before : (xs ys : List Item) → xs ++ ys ≡ [] → xs ≡ []
nothing_before xs ys e = let n : length xs + length ys ≡ 0 = sym (length-append xs ys) ∙ ap length e in nil_from_length xs (omega arith)

-- what comes after what a knowing seat saw has no item of it
none_unseen : (log : List Item) (seat : SeatView) (h : Knows log seat) → own seat.number h.legal.begins.0 ≡ []
none_unseen log seat h =
    let rest = h.legal.begins.0 in
    nothing_after (own seat.number seat.saw) (own seat.number rest)
    (sym (own-append seat.number seat.saw rest) ∙ ap (own seat.number) h.legal.begins.1 ∙ h.legal.own_items ∙ sym h.saw_own)

none_within : (number n : ℕ) (xs : List Item) → own number xs ≡ [] → own number (take n xs) ≡ []
none_within number n xs e =
    nothing_before (own number (take n xs)) (own number (drop n xs))
    (sym (own-append number (take n xs) (drop n xs)) ∙ ap (own number) (take-append-drop n xs) ∙ e)

-- a knowing seat is legal for each beginning of the log that begins with what it saw
pub legal_between : (log : List Item) (seat : SeatView) (n : ℕ) → length seat.saw ≤ n → Knows log seat → IsLegalFor (take n log) seat
legal_between log seat n reached h =
    let rest = h.legal.begins.0 in
    let more = n - length seat.saw in
    let sum_is : n ≡ length seat.saw + more = omega arith in
    let is : take n log ≡ seat.saw ++ take more rest = ap (take n) (sym h.legal.begins.1) ∙ ap (λ (m : ℕ). take m (seat.saw ++ rest)) sum_is ∙ take-append-add seat.saw rest more in
    let nothing = none_within seat.number more rest (none_unseen log seat h) in
    record {
      begins = (take more rest, sym is);
      own_items = ap (own seat.number) is ∙ own-append seat.number seat.saw (take more rest) ∙ ap (λ (l : List Item). own seat.number seat.saw ++ l) nothing ∙ append-nil (own seat.number seat.saw) ∙ h.saw_own;
    }

-- and once it has seen that, it still knows the log
pub knows_between : (log : List Item) (seat : SeatView) (n : ℕ) → length seat.saw ≤ n → Knows log seat → Knows log (seat_seeing seat (take n log))
knows_between log seat n reached h = record {
  legal = record { begins = (drop n log, take-append-drop n log); own_items = h.legal.own_items };
  saw_own = (legal_between log seat n reached h).own_items;
}

pub knows_whole : (log : List Item) (seat : SeatView) → Knows log seat → Knows log (seat_seeing seat log)
knows_whole log seat h = record { legal = legal_whole log seat.saw seat.made seat.number h.legal; saw_own = h.legal.own_items }

pub saw_at_most : (log : List Item) (seat : SeatView) → Knows log seat → length seat.saw ≤ length log
saw_at_most log seat h = prefix_length seat.saw log h.legal.begins
