-- A talk, piece after piece and slice after slice.
use Rattle.std.proofs.Common.{◌≡◌, ◌≢◌, ℕ, List, [], ◌∷◌, ◌++◌, Option, Some, None, map, refl, ap, sym, subst, ◌∙◌, append-nil, All}
use Rattle.debugline.specs.Commands.{Cont, command_of}
use Rattle.debugline.specs.Lines.{Line, Text, IsLines}
use Rattle.cell.specs.declared.cell.Front.{Front}
use Rattle.cell.specs.declared.seat.Seat.{Seat}
use Rattle.debug_session.specs.declared.session.Session.{Session}
use Rattle.debug_session.specs.declared.state.State.{State}
use Rattle.debug_session.specs.declared.state.State.TheVariants as state
use Rattle.debug_session.specs.Talks.{HasRun, TakesTurn, TakesTurns, TakesLines, HasTalked, HaveNoCont, lines_in}
use Rattle.debug_session.proofs.Turning.{turns_join, one_turn, lines_join, lines_are, turns_are_lines}

-- nothing has come yet
pub talk_begins : {S : Type 0} (front : Front S) (start : Seat) (session : Session) → session.framer ≡ Text [] → session.state ≡ state.Ready → IsLines [] [] (Text []) → HasTalked front start [] [] session start
talk_begins front start session framer state none = record {
  turns = [];
  lines = subst (λ (rest : Line). IsLines [] [] rest) (sym framer) none;
  talked = (state, refl, refl);
}

-- one more piece has come
pub talked_on : {S : Type 0} (front : Front S) (start : Seat) (came sent : List ℕ) (session : Session) (seat : Seat) (piece : List ℕ) (lines : List Line) (session' : Session) (seat' : Seat) (text : List ℕ)
    → ((stream : List ℕ) (before : List Line) → IsLines stream before session.framer → IsLines (stream ++ piece) (before ++ lines) session'.framer)
    → TakesLines front session.state seat lines session'.state seat' text → HasTalked front start came sent session seat → HasTalked front start (came ++ piece) (sent ++ text) session' seat'
talked_on front start came sent session seat piece lines session' seat' text fed took h = record {
  turns = h.turns ++ map Some lines;
  lines = subst (λ (l : List Line). IsLines (came ++ piece) l session'.framer) (sym (lines_join h.turns (map Some lines) ∙ ap (λ (l : List Line). lines_in h.turns ++ l) (lines_are lines)))
      (fed came (lines_in h.turns) h.lines);
  talked = turns_join front state.Ready start h.turns (map Some lines) session.state seat sent session'.state seat' text h.talked took;
}

-- one more slice was made
pub talked_slice : {S : Type 0} (front : Front S) (start : Seat) (came sent : List ℕ) (session : Session) (seat : Seat) (session' : Session) (seat' : Seat) (text : List ℕ) → session.state ≡ state.Running
    → session'.framer ≡ session.framer → HasRun front seat session'.state seat' text → HasTalked front start came sent session seat → HasTalked front start came (sent ++ text) session' seat'
talked_slice front start came sent session seat session' seat' text running framer run h =
    let turn : TakesTurn front session.state seat None session'.state seat' text = subst (λ (s : State). TakesTurn front s seat None session'.state seat' text) (sym running) run in
    record {
      turns = h.turns ++ None ∷ [];
      lines = subst (λ (l : List Line). IsLines came l session'.framer) (sym (lines_join h.turns (None ∷ []) ∙ append-nil (lines_in h.turns)))
          (subst (λ (rest : Line). IsLines came (lines_in h.turns) rest) (sym framer) h.lines);
      talked = turns_join front state.Ready start h.turns (None ∷ []) session.state seat sent session'.state seat' text h.talked (one_turn front session.state seat None session'.state seat' text turn);
    }

-- where no line asks for a `cont`
pub talk_by_lines : {S : Type 0} (front : Front S) (start seat : Seat) (came sent : List ℕ) (session : Session) (lines : List Line) (h : HasTalked front start came sent session seat) → lines ≡ lines_in h.turns
    → HaveNoCont lines → TakesLines front state.Ready start lines session.state seat sent
talk_by_lines front start seat came sent session lines h same none =
    let turns : h.turns ≡ map Some lines =
    turns_are_lines front state.Ready start h.turns session.state seat sent h.talked (λ e. not_running e) (subst HaveNoCont same none) ∙ ap (λ (l : List Line). map Some l) (sym same) in
    subst (λ (ts : List (Option Line)). TakesTurns front state.Ready start ts session.state seat sent) turns h.talked
  where
    not_running : state.Ready ≡ state.Running → ⊥
    not_running e = cc
