-- Where seats are, and what holds of every token's view after a change of some.
use Rattle.std.proofs.Common.{◌≡◌, ◌≢◌, ◌⊎◌, ℕ, zero, suc, ◌<◌, Bool, true, false, cond, eqb, List, [], ◌∷◌, ◌++◌, length, set, refl, sym, ap, ◌∙◌, subst, inl, inr, ⊎_elim}
use Rattle.std.proofs.lemmas.Bool.{eq-eqb, ne_eqb, false≢true}
use mathlib.Core.Option.{some, some-ne-none, some-injective}
use lib.ListN.{get_elem?}
use Rattle.atomic_table.proofs.Lists.{at_set}
use Rattle.log_seats.specs.declared.view.SeatView.{SeatView}
use Rattle.log_seats.specs.declared.view.View.{View}
use Rattle.log_seats.specs.Rule.{Place, Whole, Knows, IsSeatAt, Fits}
use Rattle.log_seats.specs.Views.{nobody}

-- ---- views in a list

-- what holds of one token's new view, and of the views of all others
pub everywhere_set : (P : ℕ → View → Type 0) (views : List View) (token : ℕ) (w : View) → ((j : ℕ) (v : View) → j ≢ token → get_elem? views j ≡ some v → P j v) → P token w → (j : ℕ) (v : View) → get_elem? (set views token w) j ≡ some v → P j v
everywhere_set P views token w others here j v e =
    ⊎_elim
    (λ (same : (j ≡ token) × (w ≡ v)). subst (λ (k : ℕ). P k v) (sym same.0) (subst (P token) same.1 here))
    (λ (other : (j ≢ token) × (get_elem? views j ≡ some v)). others j v other.0 other.1)
    (at_set views token j w v e)

at_end : (views : List View) (w v : View) (j : ℕ) → get_elem? (views ++ w ∷ []) j ≡ some v → (get_elem? views j ≡ some v) ⊎ ((j ≡ length views) × (w ≡ v))
at_end [] w v zero e = inr (refl, some-injective w v e)
at_end [] w v (suc j) e = absurd (some-ne-none v (sym e))
at_end (u ∷ views) w v zero e = inl e
at_end (u ∷ views) w v (suc j) e = ⊎_elim inl (λ (t : (j ≡ length views) × (w ≡ v)). inr (ap suc t.0, t.1)) (at_end views w v j e)

-- what holds of the views so far, and of that of a new token
pub everywhere_push : (P : ℕ → View → Type 0) (views : List View) (w : View) → ((j : ℕ) (v : View) → get_elem? views j ≡ some v → P j v) → P (length views) w → (j : ℕ) (v : View) → get_elem? (views ++ w ∷ []) j ≡ some v → P j v
everywhere_push P views w before here j v e =
    ⊎_elim
    (λ (old : get_elem? views j ≡ some v). before j v old)
    (λ (new : (j ≡ length views) × (w ≡ v)). subst (λ (k : ℕ). P k v) (sym new.0) (subst (P (length views)) new.1 here))
    (at_end views w v j e)

-- ---- one seat goes to another place

pub moved : (ℕ → Place) → ℕ → Place → ℕ → Place
moved seat_at number place k = cond (eqb k number) place (seat_at k)

pub moved_here : (seat_at : ℕ → Place) (number : ℕ) (place : Place) → moved seat_at number place number ≡ place
unfolding moved
moved_here seat_at number place = ap (λ (b : Bool). cond b place (seat_at number)) (eq-eqb number number refl)

pub moved_other : (seat_at : ℕ → Place) (number : ℕ) (place : Place) (k : ℕ) → k ≢ number → moved seat_at number place k ≡ seat_at k
unfolding moved
moved_other seat_at number place k apart = ap (λ (b : Bool). cond b place (seat_at k)) (ne_eqb k number apart)

abbrev pub after_move : Whole → ℕ → Place → Whole
after_move x number place = record { log = x.log; next = x.next; pen_at = x.pen_at; seat_at = moved x.seat_at number place }

-- two places of different tokens; the second place of a token, and the first
pub other_token : (p q : Place) → p.0 ≢ q.0 → p ≢ q
other_token p q apart e = apart (ap (λ (r : Place). r.0) e)

pub first_second : (p q : Place) → p.1 ≡ false → q.1 ≡ true → p ≢ q
first_second p q first second e = false≢true (sym first ∙ ap (λ (r : Place). r.1) e ∙ second)

-- a seat at another place than the one that is left stays where it is
pub seat_stays : (x : Whole) (number : ℕ) (from to place : Place) (seat : SeatView) → x.seat_at number ≡ from → place ≢ from → IsSeatAt x place seat → IsSeatAt (after_move x number to) place seat
seat_stays x number from to place seat is apart h =
    let other : seat.number ≢ number = λ e. apart (sym h.at_place ∙ ap x.seat_at e ∙ is) in
    record { at_place = moved_other x.seat_at number to seat.number other ∙ h.at_place; numbered = h.numbered; knows = h.knows }

-- and so do all that are with other tokens
pub view_stays : (x : Whole) (number : ℕ) (from to : Place) (token : ℕ) (v : View) → x.seat_at number ≡ from → token ≢ from.0 → Fits x token v → Fits (after_move x number to) token v
view_stays x number from to token v is apart h = record {
  pen = λ there. let p = h.pen there in record { at_token = p.at_token; log_is = p.log_is; next_is = p.next_is };
  first = λ there. seat_stays x number from to (token, false) v.first is (other_token (token, false) from apart) (h.first there);
  second = λ there. seat_stays x number from to (token, true) v.second is (other_token (token, true) from apart) (h.second there);
}

-- the seat comes to its new place
pub seat_comes : (x : Whole) (to : Place) (seat : SeatView) → seat.number < x.next → Knows x.log seat → IsSeatAt (after_move x seat.number to) to seat
seat_comes x to seat numbered knows = record { at_place = moved_here x.seat_at seat.number to; numbered = numbered; knows = knows }

-- ---- nothing

pub off : {A : Type 0} → false ≡ true → A
off e = absurd (false≢true e)

pub nobody_fits : (x : Whole) (token : ℕ) → Fits x token nobody
nobody_fits x token = record { pen = off; first = off; second = off }
