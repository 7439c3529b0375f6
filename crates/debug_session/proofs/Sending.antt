-- What is sent back, reply after reply.
use Rattle.std.proofs.Common.{◌≡◌, ℕ, ◌+◌, ◌<◌, ◌≤◌, ◌⊎◌, List, [], ◌∷◌, ◌++◌, Option, Some, None, Result, Ok, Err, IfOk, OnOk, length, take, get_or, map, codes, refl, ap, sym, subst, ◌∙◌, append_assoc, append-nil, arith, true, inl, inr}
use Rattle.std.specs.declared.alloc.AllocError.{AllocError}
use Rattle.std.specs.List.{slice_get}
use Rattle.std.proofs.lemmas.List.{take_more, map-append}
use Rattle.std.proofs.lemmas.Option.{slice_get-get_or, slice_get_cases}
use Rattle.debugline.specs.Commands.{Command, command_of}
use Rattle.debugline.specs.Lines.{Line, IsLines, ended}
use Rattle.debugline.specs.Replies.{error_text}
use Rattle.debugline.specs.Views.{command_view, line_view}
use Rattle.debugline.specs.declared.command.Command.{Command as CommandCode}
use Rattle.debugline.specs.declared.line.Line.{Line as LineCode}
use Rattle.cell.specs.declared.cell.Cell.{Cell}
use Rattle.cell.specs.declared.cell.Front.{Front}
use Rattle.cell.specs.declared.seat.Seat.{Seat}
use Rattle.seated.specs.Acts.{Sees}
use Rattle.host.specs.declared.requests.DebugError.{DebugError}
use Rattle.host.specs.declared.requests.Reply.{Reply}
use Rattle.host.specs.declared.requests.Request.{Request}
use Rattle.host.specs.declared.requests.Request.TheVariants as request
use Rattle.host.specs.Debugging.{Did, WhyRefused}
use Rattle.host.specs.Places.{AtGuest}
use Rattle.debug_session.specs.declared.session.Session.{Session}
use Rattle.debug_session.specs.declared.state.State.{State}
use Rattle.debug_session.specs.declared.state.State.TheVariants as state
use Rattle.debug_session.specs.Goes.{Goes}
use Rattle.debug_session.specs.Replies.{Adds, error_number, reply_bytes}
use Rattle.debug_session.specs.Talks.{Says, Asked, Obeys, Answers, HasRun, TakesLine, TakesLines, HasTalked}
use Rattle.debug_session.proofs.Seats.{goes_done}
use Rattle.debug_session.proofs.Turning.{line_more}
use Rattle.debug_session.proofs.Talking.{talked_on, talked_slice}

-- what is so of a guest's front, and no matter of it
at_some : {S : Type 0} {X : Type 0} (cells : List (Cell S)) (guest : ℕ) → guest < length cells → ((cell : Cell S) → slice_get cells guest ≡ Some cell → X) → X
at_some {X = X} cells guest within f = elim (slice_get_cases cells guest).1 [ inl here ↦ f here.0 here.2 | inr past ↦ absurd (omega (arith, past.0)) ]

pub goes_did : {S : Type 0} (cells : List (Cell S)) (guest : ℕ) (seat : Seat) (request : Request) (seat' : Seat) (reply : Reply) → guest < length cells
    → AtGuest cells guest (λ front. Did front seat request seat' reply) → Goes seat.seat seat'.seat
goes_did cells guest seat request seat' reply within at = at_some cells guest within (λ cell its. goes_done cell.front seat request seat' reply (at.each cell its))

-- ---- what the host answers

pub asked_done : {S : Type 0} (cells : List (Cell S)) (guest : ℕ) (seat : Seat) (which : Option ℕ) (asked : Request) (seat' : Seat) (reply : Reply) (before after : List ℕ) (result : Result State AllocError)
    → AtGuest cells guest (λ front. Did front seat asked seat' reply) → IfOk result (λ s. s ≡ state.Ready) → OnOk result (after ≡ before ++ ended (reply_bytes which reply))
    → IfOk result (λ s. Adds before after (λ t. AtGuest cells guest (λ front. Asked front seat which asked s seat' t)))
asked_done cells guest seat which asked seat' reply before after (Ok s) did state said = record {
  text = ended (reply_bytes which reply);
  behind = said;
  said = record { each = λ cell its. (state, inl (record { reply = reply; did = did.each cell its; said = refl })) };
}
asked_done cells guest seat which asked seat' reply before after (Err e) did state said = tt

pub asked_refused : {S : Type 0} (cells : List (Cell S)) (guest : ℕ) (seat : Seat) (which : Option ℕ) (asked : Request) (seat' : Seat) (error : DebugError) (before after : List ℕ) (result : Result State AllocError)
    → Sees seat.seat seat'.seat → AtGuest cells guest (λ front. WhyRefused front asked seat' error) → IfOk result (λ s. s ≡ state.Ready)
    → OnOk result (after ≡ before ++ ended (error_text (error_number error))) → IfOk result (λ s. Adds before after (λ t. AtGuest cells guest (λ front. Asked front seat which asked s seat' t)))
asked_refused cells guest seat which asked seat' error before after (Ok s) sees why state said = record {
  text = ended (error_text (error_number error));
  behind = said;
  said = record { each = λ cell its. (state, inr (record { error = error; sees = sees; why = why.each cell its; said = refl })) };
}
asked_refused cells guest seat which asked seat' error before after (Err e) sees why state said = tt

-- a reply that goes by nothing
pub says_adds : {S : Type 0} (cells : List (Cell S)) (guest : ℕ) (seat : Seat) (next : State) (before after text : List ℕ) → after ≡ before ++ text
    → Adds before after (λ t. AtGuest cells guest (λ front. Says seat text next next seat t))
says_adds cells guest seat next before after text behind =
    record { text = text; behind = behind; said = record { each = λ cell its. record { same = refl; state_is = refl; said_is = refl } } }

pub says_ok : {S : Type 0} (cells : List (Cell S)) (guest : ℕ) (seat : Seat) (next : State) (before after text : List ℕ) (result : Result State AllocError) → IfOk result (λ s. s ≡ next) → OnOk result (after ≡ before ++ text)
    → IfOk result (λ s. Adds before after (λ t. AtGuest cells guest (λ front. Says seat text next s seat t)))
says_ok cells guest seat next before after text (Ok s) state said =
    record { text = text; behind = said; said = record { each = λ cell its. record { same = refl; state_is = state; said_is = refl } } }
says_ok cells guest seat next before after text (Err e) state said = tt

-- ---- by which command, which line, and how the session stood

pub obeys_is : {S : Type 0} (cells : List (Cell S)) (guest : ℕ) (seat : Seat) (command same : CommandCode) (seat' : Seat) (before after : List ℕ) (result : Result State AllocError) → command ≡ same
    → IfOk result (λ s. Adds before after (λ t. AtGuest cells guest (λ front. Obeys front seat (command_view same) s seat' t)))
    → IfOk result (λ s. Adds before after (λ t. AtGuest cells guest (λ front. Obeys front seat (command_view command) s seat' t)))
obeys_is cells guest seat command same seat' before after result is h =
    subst (λ (c : CommandCode). IfOk result (λ s. Adds before after (λ t. AtGuest cells guest (λ front. Obeys front seat (command_view c) s seat' t)))) (sym is) h

-- the bytes that were asked to be written are those of the command
pub writes_is : {S : Type 0} (cells : List (Cell S)) (guest : ℕ) (seat : Seat) (address : ℕ) (asked bytes : List ℕ) (seat' : Seat) (before after : List ℕ) (result : Result State AllocError) → asked ≡ bytes
    → IfOk result (λ s. Adds before after (λ t. AtGuest cells guest (λ front. Asked front seat None (request.Write address asked) s seat' t)))
    → IfOk result (λ s. Adds before after (λ t. AtGuest cells guest (λ front. Asked front seat None (request.Write address bytes) s seat' t)))
writes_is cells guest seat address asked bytes seat' before after result is h =
    subst (λ (b : List ℕ). IfOk result (λ s. Adds before after (λ t. AtGuest cells guest (λ front. Asked front seat None (request.Write address b) s seat' t)))) is h

pub answers_is : {S : Type 0} (cells : List (Cell S)) (guest : ℕ) (seat : Seat) (same found : Option Command) (seat' : Seat) (before after : List ℕ) (result : Result State AllocError) → same ≡ found
    → IfOk result (λ s. Adds before after (λ t. AtGuest cells guest (λ front. Answers front seat same s seat' t)))
    → IfOk result (λ s. Adds before after (λ t. AtGuest cells guest (λ front. Answers front seat found s seat' t)))
answers_is cells guest seat same found seat' before after result is h =
    subst (λ (c : Option Command). IfOk result (λ s. Adds before after (λ t. AtGuest cells guest (λ front. Answers front seat c s seat' t)))) is h

pub ends_is : {S : Type 0} (cells : List (Cell S)) (guest : ℕ) (seat : Seat) (before : State) (line : Line) (seat' : Seat) (o o' o'' : List ℕ) (result : Result State AllocError) → before ≡ state.Running
    → o' ≡ o ++ ended (codes "held") → IfOk result (λ s. Adds o' o'' (λ t. AtGuest cells guest (λ front. Answers front seat (command_of line) s seat' t)))
    → IfOk result (λ s. Adds o o'' (λ t. AtGuest cells guest (λ front. TakesLine front before seat line s seat' t)))
ends_is cells guest seat before line seat' o o' o'' (Ok s) is held h = record {
  text = ended (codes "held") ++ h.text;
  behind = h.behind ∙ ap (λ (l : List ℕ). l ++ h.text) held ∙ append_assoc o (ended (codes "held")) h.text;
  said = record {
    each = λ cell its. subst (λ (u : State). TakesLine cell.front u seat line s seat' (ended (codes "held") ++ h.text)) (sym is)
        (record { own = h.text; said = refl; answers = h.said.each cell its });
  };
}
ends_is cells guest seat before line seat' o o' o'' (Err e) is held h = tt

pub detached_is : {S : Type 0} (cells : List (Cell S)) (guest : ℕ) (seat : Seat) (before : State) (line : Line) (o : List ℕ) → before ≡ state.Detached
    → Adds o o (λ t. AtGuest cells guest (λ front. TakesLine front before seat line state.Detached seat t))
detached_is cells guest seat before line o is = record {
  text = [];
  behind = sym (append-nil o);
  said = record { each = λ cell its. subst (λ (u : State). TakesLine cell.front u seat line state.Detached seat []) (sym is) (record { same = refl; state_is = refl; said_is = refl }) };
}

pub ended_is : {S : Type 0} (cells : List (Cell S)) (guest : ℕ) (seat : Seat) (before : State) (line : Line) (o : List ℕ) → before ≡ state.Ended
    → Adds o o (λ t. AtGuest cells guest (λ front. TakesLine front before seat line state.Ended seat t))
ended_is cells guest seat before line o is = record {
  text = [];
  behind = sym (append-nil o);
  said = record { each = λ cell its. subst (λ (u : State). TakesLine cell.front u seat line state.Ended seat []) (sym is) (record { same = refl; state_is = refl; said_is = refl }) };
}

-- ---- line after line

pub no_lines : {S : Type 0} (cells : List (Cell S)) (guest : ℕ) (before : State) (seat : Seat) (o : List ℕ) → Adds o o (λ t. AtGuest cells guest (λ front. TakesLines front before seat [] before seat t))
no_lines cells guest before seat o = record { text = []; behind = sym (append-nil o); said = record { each = λ cell its. (refl, refl, refl) } }

lines_more : (lines : List LineCode) (i : ℕ) (line : LineCode) → i < length lines → line ≡ get_or lines i line → map line_view (take (i + 1) lines) ≡ map line_view (take i lines) ++ line_view line ∷ []
lines_more lines i line within is =
    ap (map line_view) (take_more lines i line within) ∙ map-append line_view (take i lines) (get_or lines i line ∷ [])
    ∙ ap (λ (l : LineCode). map line_view (take i lines) ++ line_view l ∷ []) (sym is)

pub one_line_more : {S : Type 0} (cells : List (Cell S)) (guest : ℕ) (before : State) (seat : Seat) (lines : List LineCode) (i : ℕ) (line : LineCode) (s : State) (t : Seat) (s' : State) (t' : Seat) (o o' o'' : List ℕ)
    → i < length lines → line ≡ get_or lines i line → Adds o o' (λ x. AtGuest cells guest (λ front. TakesLines front before seat (map line_view (take i lines)) s t x))
    → Adds o' o'' (λ x. AtGuest cells guest (λ front. TakesLine front s t (line_view line) s' t' x))
    → Adds o o'' (λ x. AtGuest cells guest (λ front. TakesLines front before seat (map line_view (take (i + 1) lines)) s' t' x))
one_line_more cells guest before seat lines i line s t s' t' o o' o'' within is a b = record {
  text = a.text ++ b.text;
  behind = b.behind ∙ ap (λ (l : List ℕ). l ++ b.text) a.behind ∙ append_assoc o a.text b.text;
  said = record {
    each = λ cell its. subst (λ (ls : List Line). TakesLines cell.front before seat ls s' t' (a.text ++ b.text)) (sym (lines_more lines i line within is))
        (line_more cell.front before seat (map line_view (take i lines)) (line_view line) s t a.text s' t' b.text (a.said.each cell its) (b.said.each cell its));
  };
}

pub all_lines : {S : Type 0} (cells : List (Cell S)) (guest : ℕ) (before : State) (seat : Seat) (some lines : List LineCode) (s : State) (t : Seat) (o o' : List ℕ) → some ≡ lines
    → Adds o o' (λ x. AtGuest cells guest (λ front. TakesLines front before seat (map line_view some) s t x)) → Adds o o' (λ x. AtGuest cells guest (λ front. TakesLines front before seat (map line_view lines) s t x))
all_lines cells guest before seat some lines s t o o' is h = subst (λ (ls : List LineCode). Adds o o' (λ x. AtGuest cells guest (λ front. TakesLines front before seat (map line_view ls) s t x))) is h

-- ---- piece after piece, slice after slice

pub piece_talked : {S : Type 0} (cells : List (Cell S)) (guest : ℕ) (session session' : Session) (seat seat' : Seat) (piece : List ℕ) (shown lines : List LineCode) (o o' : List ℕ) → shown ≡ lines
    → ((stream : List ℕ) (before : List Line) → IsLines stream before session.framer → IsLines (stream ++ piece) (before ++ map line_view lines) session'.framer)
    → Adds o o' (λ x. AtGuest cells guest (λ front. TakesLines front session.state seat (map line_view shown) session'.state seat' x))
    → Adds o o' (λ x. AtGuest cells guest (λ front. (start : Seat) (came sent : List ℕ) → HasTalked front start came sent session seat → HasTalked front start (came ++ piece) (sent ++ x) session' seat'))
piece_talked cells guest session session' seat seat' piece shown lines o o' is fed h =
    let taken = all_lines cells guest session.state seat shown lines session'.state seat' o o' is h in
    record {
      text = taken.text;
      behind = taken.behind;
      said = record {
        each = λ cell its. λ start came sent talked.
            talked_on cell.front start came sent session seat piece (map line_view lines) session' seat' taken.text fed (taken.said.each cell its) talked;
      };
    }

pub slice_talked : {S : Type 0} (cells : List (Cell S)) (guest : ℕ) (session session' : Session) (seat seat' : Seat) (o o' : List ℕ) → session.state ≡ state.Running → session'.framer ≡ session.framer
    → Adds o o' (λ x. AtGuest cells guest (λ front. HasRun front seat session'.state seat' x))
    → Adds o o' (λ x. AtGuest cells guest (λ front. (start : Seat) (came sent : List ℕ) → HasTalked front start came sent session seat → HasTalked front start came (sent ++ x) session' seat'))
slice_talked cells guest session session' seat seat' o o' running framer h = record {
  text = h.text;
  behind = h.behind;
  said = record { each = λ cell its. λ start came sent talked. talked_slice cell.front start came sent session seat session' seat' h.text running framer (h.said.each cell its) talked };
}
