-- Turns of a talk, one after another.
use Rattle.std.proofs.Common.{◌≡◌, ◌≢◌, ℕ, List, [], ◌∷◌, ◌++◌, Option, Some, None, map, refl, ap, sym, subst, ◌∙◌, append_assoc, append-nil, All}
use Rattle.std.proofs.lemmas.List.Elements.{All-head, All-tail}
use Rattle.debugline.specs.Commands.{Command, Regs, Reg, Set, Read, Write, Cont, Step, Break, Clear, Detach, End, command_of}
use Rattle.debugline.specs.Lines.{Line}
use Rattle.cell.specs.declared.cell.Front.{Front}
use Rattle.cell.specs.declared.seat.Seat.{Seat}
use Rattle.debug_session.specs.declared.state.State.{State}
use Rattle.debug_session.specs.declared.state.State.TheVariants as state
use Rattle.debug_session.specs.Talks.{Answers, TakesLine, TakesTurn, TakesTurns, TakesLines, HaveNoCont, lines_in}

-- some turns, and then others
pub turns_join : {S : Type 0} (front : Front S) (before : State) (seat : Seat) (turns more : List (Option Line)) (s : State) (t : Seat) (x : List ℕ) (s' : State) (t' : Seat) (y : List ℕ)
    → TakesTurns front before seat turns s t x → TakesTurns front s t more s' t' y → TakesTurns front before seat (turns ++ more) s' t' (x ++ y)
turns_join front before seat [] more s t x s' t' y h k =
    subst (λ (l : List ℕ). TakesTurns front before seat more s' t' (l ++ y)) (sym h.2)
    (subst (λ (u : Seat). TakesTurns front before u more s' t' y) h.1
    (subst (λ (u : State). TakesTurns front u t more s' t' y) h.0 k))
turns_join front before seat (turn ∷ turns) more s t x s' t' y h k = record {
  state = h.state;
  seat = h.seat;
  first = h.first;
  others = h.others ++ y;
  turns = h.turns;
  goes_on = turns_join front h.state h.seat turns more s t h.others s' t' y h.goes_on k;
  said = ap (λ (l : List ℕ). l ++ y) h.said ∙ append_assoc h.first h.others y;
}

-- one turn
pub one_turn : {S : Type 0} (front : Front S) (before : State) (seat : Seat) (turn : Option Line) (s : State) (t : Seat) (x : List ℕ) → TakesTurn front before seat turn s t x → TakesTurns front before seat (turn ∷ []) s t x
one_turn front before seat turn s t x h = record { state = s; seat = t; first = x; others = []; turns = h; goes_on = (refl, refl, refl); said = sym (append-nil x) }

map_join : (lines : List Line) (line : Line) → map Some (lines ++ line ∷ []) ≡ map Some lines ++ Some line ∷ []
map_join [] line = refl
map_join (l ∷ lines) line = ap (λ (xs : List (Option Line)). Some l ∷ xs) (map_join lines line)

-- some lines, and one more
pub line_more : {S : Type 0} (front : Front S) (before : State) (seat : Seat) (lines : List Line) (line : Line) (s : State) (t : Seat) (x : List ℕ) (s' : State) (t' : Seat) (y : List ℕ)
    → TakesLines front before seat lines s t x → TakesLine front s t line s' t' y → TakesLines front before seat (lines ++ line ∷ []) s' t' (x ++ y)
line_more front before seat lines line s t x s' t' y h k =
    subst (λ (turns : List (Option Line)). TakesTurns front before seat turns s' t' (x ++ y)) (sym (map_join lines line))
    (turns_join front before seat (map Some lines) (Some line ∷ []) s t x s' t' y h (one_turn front s t (Some line) s' t' y k))

-- ---- the lines among turns

pub lines_join : (turns more : List (Option Line)) → lines_in (turns ++ more) ≡ lines_in turns ++ lines_in more
lines_join [] more = refl
lines_join (None ∷ turns) more = lines_join turns more
lines_join (Some line ∷ turns) more = ap (λ (l : List Line). line ∷ l) (lines_join turns more)

pub lines_are : (lines : List Line) → lines_in (map Some lines) ≡ lines
lines_are [] = refl
lines_are (line ∷ lines) = ap (λ (l : List Line). line ∷ l) (lines_are lines)

-- ---- no `cont`

no_run : (s : State) → s ≡ state.Ready → s ≡ state.Running → ⊥
no_run s a b = cc

no_run_left : (s : State) → s ≡ state.Detached → s ≡ state.Running → ⊥
no_run_left s a b = cc

no_run_ended : (s : State) → s ≡ state.Ended → s ≡ state.Running → ⊥
no_run_ended s a b = cc

-- what isn't `cont` starts none
answers_none : {S : Type 0} (front : Front S) (seat : Seat) (command : Option Command) (s : State) (t : Seat) (x : List ℕ) → Answers front seat command s t x → command ≢ Some Cont → s ≢ state.Running
answers_none front seat None s t x h other = no_run s h.state_is
answers_none front seat (Some Regs) s t x h other = no_run s h.0
answers_none front seat (Some (Reg n)) s t x h other = no_run s h.0
answers_none front seat (Some (Set n w)) s t x h other = no_run s h.0
answers_none front seat (Some (Read a c)) s t x h other = no_run s h.0
answers_none front seat (Some (Write a b)) s t x h other = no_run s h.0
answers_none front seat (Some Cont) s t x h other = absurd (other refl)
answers_none front seat (Some Step) s t x h other = no_run s h.state_is
answers_none front seat (Some (Break a)) s t x h other = no_run s h.0
answers_none front seat (Some (Clear a)) s t x h other = no_run s h.0
answers_none front seat (Some Detach) s t x h other = no_run_left s h.state_is
answers_none front seat (Some End) s t x h other = no_run_ended s h.state_is

line_starts_none : {S : Type 0} (front : Front S) (before : State) (seat : Seat) (line : Line) (s : State) (t : Seat) (x : List ℕ) → TakesLine front before seat line s t x → before ≢ state.Running
    → command_of line ≢ Some Cont → s ≢ state.Running
line_starts_none front state.Ready seat line s t x h still other = answers_none front seat (command_of line) s t x h other
line_starts_none front state.Running seat line s t x h still other = absurd (still refl)
line_starts_none front state.Detached seat line s t x h still other = no_run_left s h.state_is
line_starts_none front state.Ended seat line s t x h still other = no_run_ended s h.state_is

no_slice : {S : Type 0} (front : Front S) (before : State) (seat : Seat) (s : State) (t : Seat) (x : List ℕ) → TakesTurn front before seat None s t x → before ≢ state.Running → ⊥
no_slice front state.Ready seat s t x h still = h
no_slice front state.Running seat s t x h still = still refl
no_slice front state.Detached seat s t x h still = h
no_slice front state.Ended seat s t x h still = h

-- where no line asks for a `cont`, each turn is a line
pub turns_are_lines : {S : Type 0} (front : Front S) (before : State) (seat : Seat) (turns : List (Option Line)) (s : State) (t : Seat) (x : List ℕ) → TakesTurns front before seat turns s t x → before ≢ state.Running
    → HaveNoCont (lines_in turns) → turns ≡ map Some (lines_in turns)
turns_are_lines front before seat [] s t x h still none = refl
turns_are_lines front before seat (None ∷ turns) s t x h still none = absurd (no_slice front before seat h.state h.seat h.first h.turns still)
turns_are_lines front before seat (Some line ∷ turns) s t x h still none =
    ap (λ (l : List (Option Line)). Some line ∷ l)
    (turns_are_lines front h.state h.seat turns s t h.others h.goes_on
    (line_starts_none front before seat line h.state h.seat h.first h.turns still (All-head (λ (l : Line). command_of l ≢ Some Cont) line (lines_in turns) none))
    (All-tail (λ (l : Line). command_of l ≢ Some Cont) line (lines_in turns) none))
