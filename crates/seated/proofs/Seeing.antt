-- What a seat has seen and made after a call.
use Rattle.std.proofs.Common.{◌≡◌, ℕ, List, [], ◌∷◌, ◌++◌, sym, ap, ◌∙◌, subst, append-nil}
use mathlib.Core.List.{IsPrefix}
use Rattle.items.specs.declared.item.Item.{Item}
use Rattle.items.specs.Entries.{steps_of}
use Rattle.items.proofs.Runs.{steps_of-none}
use Rattle.log_seats.specs.Heads.{SeatIs}
use Rattle.log_seats.specs.Legal.{Legal}
use Rattle.guest.specs.Guests.{GuestIs, LogsSteps, Logs}
use Rattle.seated.specs.Acts.{Acts, Sees}

-- the seat has seen a log for which it was legal
pub sees : (s s' : SeatIs) (log : List Item) → s' ≡ record s { saw = log } → Legal log s.number s.saw s.made → Sees s s'
sees s s' log is l =
    let saw : s'.saw ≡ log = ap (λ (t : SeatIs). t.saw) is in
    record {
      its_seat = is ∙ ap (λ (xs : List Item). record s { saw = xs }) (sym saw);
      begins = subst (IsPrefix s.saw) (sym saw) l.begins;
      legal = subst (λ (t : SeatIs). Legal t.saw t.number t.saw t.made) (sym is) (record { begins = ([], append-nil log); own_items = l.own_items });
    }

-- items were added
acted : (s s' : SeatIs) (before mine log' : List Item) → log' ≡ before ++ mine → s' ≡ record s { saw = log'; made = s.made ++ mine } → Legal before s.number s.saw s.made
    → Legal log' s'.number s'.saw s'.made → Acts s before mine s'
acted s s' before mine log' items is found l =
    let saw : s'.saw ≡ log' = ap (λ (t : SeatIs). t.saw) is in
    record {
      found = found;
      its_seat = is ∙ ap (λ (xs : List Item). record s { saw = xs; made = s.made ++ mine }) items;
      legal = subst (λ (xs : List Item). Legal xs s'.number s'.saw s'.made) (sym saw) l;
    }

pub acts : (g g' : GuestIs) (s s' : SeatIs) (i : Item) → Logs g s i g' s' → Acts s g.log.items (i ∷ []) s'
acts g g' s s' i l = acted s s' g.log.items (i ∷ []) g'.log.items l.adds.items l.adds.its_seat l.adds.before l.adds.after

-- steps were added
pub acts_some : (g g' : GuestIs) (s s' : SeatIs) (before : List Item) (count : ℕ) → before ≡ g.log.items → LogsSteps g s count g' s' → Acts s before (steps_of s.number count) s'
acts_some g g' s s' before count same l =
    subst (λ (xs : List Item). Acts s xs (steps_of s.number count) s') (sym same)
    (acted s s' g.log.items (steps_of s.number count) g'.log.items l.adds.items l.adds.its_seat l.adds.before l.adds.after)

-- no step was added, and the seat was shown the log
pub acts_none : (s s' : SeatIs) (before : List Item) (count : ℕ) → count ≡ 0 → s' ≡ record s { saw = before } → Legal before s.number s.saw s.made → Acts s before (steps_of s.number count) s'
acts_none s s' before count e is l =
    let empty : steps_of s.number count ≡ [] = ap (steps_of s.number) e ∙ steps_of-none s.number in
    let all : before ≡ before ++ steps_of s.number count = sym (append-nil before) ∙ sym (ap (λ xs. before ++ xs) empty) in
    let made : s.made ≡ s.made ++ steps_of s.number count = sym (append-nil s.made) ∙ sym (ap (λ xs. s.made ++ xs) empty) in
    let its : s' ≡ record s { saw = before; made = s.made ++ steps_of s.number count } = is ∙ ap (λ (xs : List Item). record s { saw = before; made = xs }) made in
    acted s s' before (steps_of s.number count) before all its l (subst (λ (t : SeatIs). Legal before t.number t.saw t.made) (sym is) (record { begins = ([], append-nil before); own_items = l.own_items }))
