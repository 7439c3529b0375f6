-- A debugger's lines, and what each leads to.
use Rattle.std.specs.Prelude.{◌≡◌, ◌≢◌, ℕ, ◌≤◌, ◌⊎◌, Option, Some, None, List, [], ◌∷◌, ◌++◌, All, codes, map}
use Rattle.debugline.specs.Commands.{Command, Regs, Reg, Set, Read, Write, Cont, Step, Break, Clear, Detach, End, command_of}
use Rattle.debugline.specs.Lines.{Line, IsLines, ended}
use Rattle.debugline.specs.Replies.{error_text}
use Rattle.seated.specs.Acts.{Sees}
use Rattle.cell.specs.declared.cell.Front.{Front}
use Rattle.cell.specs.declared.seat.Seat.{Seat}
use Rattle.cell.specs.Sitting.{IsFullOf}
use Rattle.cell.specs.Slices.{Slice}
use Rattle.host.specs.declared.requests.DebugError.{DebugError}
use Rattle.host.specs.declared.requests.Reply.{Reply}
use Rattle.host.specs.declared.requests.Request.{Request}
use Rattle.host.specs.declared.requests.Request.TheVariants as request
use Rattle.host.specs.declared.stops.Ran.{Ran}
use Rattle.host.specs.declared.stops.Ran.TheVariants as ran
use Rattle.host.specs.declared.stops.Stop.TheVariants as stop
use Rattle.host.specs.Debugging.{Did, WhyRefused}
use Rattle.host.specs.Slices.{steps_made}
use Rattle.debug_session.specs.declared.state.State.{State}
use Rattle.debug_session.specs.declared.state.State.TheVariants as state
use Rattle.debug_session.specs.declared.session.Session.{Session}
use Rattle.debug_session.specs.Replies.{error_number, reply_bytes, said_to_run, said_to_step, state_after}

-- a request was done, and this was sent: of registers one or all
pub record IsDone {S : Type 0} (front : Front S) (seat : Seat) (which : Option ℕ) (asked : Request) (seat' : Seat) (text : List ℕ) : Type 0 where
  pub reply : Reply
  pub did : Did front seat asked seat' reply
  pub said : text ≡ ended (reply_bytes which reply)

-- a request was refused, and this was sent; the seat has added nothing
pub record IsRefused {S : Type 0} (front : Front S) (seat : Seat) (asked : Request) (seat' : Seat) (text : List ℕ) : Type 0 where
  pub error : DebugError
  pub sees : Sees seat.seat seat'.seat
  pub why : WhyRefused front asked seat' error
  pub said : text ≡ ended (error_text (error_number error))

abbrev pub Asked : {S : Type 0} → Front S → Seat → Option ℕ → Request → State → Seat → List ℕ → Type 0
Asked front seat which asked state' seat' text = (state' ≡ state.Ready) × (IsDone front seat which asked seat' text ⊎ IsRefused front seat asked seat' text)

-- how a slice of so many steps has ended, of which the seat has made those that are counted
pub record IsSlice {S : Type 0} (front : Front S) (seat : Seat) (count : ℕ) (how : Ran) (seat' : Seat) : Type 0 where
  pub slice : Slice seat.seat (steps_made how) seat'.seat
  pub few : steps_made how ≤ count
  pub all : (k : ℕ) → how ≡ ran.Ran k → k ≡ count
  pub full : (k : ℕ) → how ≡ ran.Stopped k stop.LogFull → IsFullOf front seat'.seat.saw

-- a slice of a `cont`
pub record HasRun {S : Type 0} (front : Front S) (seat : Seat) (state' : State) (seat' : Seat) (text : List ℕ) : Type 0 where
  pub how : Ran
  pub made : IsSlice front seat 16384 how seat'
  pub state_is : state' ≡ state_after how
  pub said : text ≡ said_to_run how

-- a `step`
pub record HasStepped {S : Type 0} (front : Front S) (seat : Seat) (state' : State) (seat' : Seat) (text : List ℕ) : Type 0 where
  pub how : Ran
  pub made : IsSlice front seat 1 how seat'
  pub state_is : state' ≡ state.Ready
  pub said : text ≡ said_to_step how

-- this was sent, and nothing else has happened
pub record Says (seat : Seat) (said : List ℕ) (next : State) (state' : State) (seat' : Seat) (text : List ℕ) : Type 0 where
  pub same : seat' ≡ seat
  pub state_is : state' ≡ next
  pub said_is : text ≡ said

-- what a command leads to
abbrev pub Obeys : {S : Type 0} → Front S → Seat → Command → State → Seat → List ℕ → Type 0
Obeys front seat Regs = Asked front seat None request.Regs
Obeys front seat (Reg number) = Asked front seat (Some number) request.Regs
Obeys front seat (Set number word) = Asked front seat None (request.Poke number word)
Obeys front seat (Read address count) = Asked front seat None (request.Read address count)
Obeys front seat (Write address bytes) = Asked front seat None (request.Write address bytes)
Obeys front seat Cont = HasRun front seat
Obeys front seat Step = HasStepped front seat
Obeys front seat (Break address) = Asked front seat None (request.Break address)
Obeys front seat (Clear address) = Asked front seat None (request.Clear address)
Obeys front seat Detach = Says seat (ended (codes "ok")) state.Detached
Obeys front seat End = Says seat [] state.Ended

-- what a line leads to where the session waits for one: what isn't a command is an error
abbrev pub Answers : {S : Type 0} → Front S → Seat → Option Command → State → Seat → List ℕ → Type 0
Answers front seat None = Says seat (ended (error_text 1)) state.Ready
Answers front seat (Some command) = Obeys front seat command

-- the same where a `cont` went on, which the line ends
pub record Ends {S : Type 0} (front : Front S) (seat : Seat) (line : Line) (state' : State) (seat' : Seat) (text : List ℕ) : Type 0 where
  pub own : List ℕ
  pub said : text ≡ ended (codes "held") ++ own
  pub answers : Answers front seat (command_of line) state' seat' own

-- what a line leads to; nothing where the debugger has left
abbrev pub TakesLine : {S : Type 0} → Front S → State → Seat → Line → State → Seat → List ℕ → Type 0
TakesLine front state.Ready seat line = Answers front seat (command_of line)
TakesLine front state.Running seat line = Ends front seat line
TakesLine front state.Detached seat line = Says seat [] state.Detached
TakesLine front state.Ended seat line = Says seat [] state.Ended

-- a turn of a talk: a line, or with none one more slice of a `cont` that goes on
abbrev pub TakesTurn : {S : Type 0} → Front S → State → Seat → Option Line → State → Seat → List ℕ → Type 0
TakesTurn front before seat (Some line) = TakesLine front before seat line
TakesTurn front state.Running seat None = HasRun front seat
TakesTurn front before seat None = λ _ _ _. ⊥

-- one turn, and what comes after it
pub record Follows (turn : State → Seat → List ℕ → Type 0) (rest : State → Seat → List ℕ → Type 0) (text : List ℕ) : Type 0 where
  pub state : State
  pub seat : Seat
  pub first : List ℕ
  pub others : List ℕ
  pub turns : turn state seat first
  pub goes_on : rest state seat others
  pub said : text ≡ first ++ others

-- some turns, one after another, and what was sent at them
abbrev pub TakesTurns : {S : Type 0} → Front S → State → Seat → List (Option Line) → State → Seat → List ℕ → Type 0
TakesTurns front before seat [] state' seat' text = (state' ≡ before) × (seat' ≡ seat) × (text ≡ [])
TakesTurns front before seat (turn ∷ turns) state' seat' text =
    Follows (TakesTurn front before seat turn) (λ next sits said. TakesTurns front next sits turns state' seat' said) text

-- some lines, one after another
abbrev pub TakesLines : {S : Type 0} → Front S → State → Seat → List Line → State → Seat → List ℕ → Type 0
TakesLines front before seat lines = TakesTurns front before seat (map Some lines)

-- the lines among some turns
abbrev pub lines_in : List (Option Line) → List Line
lines_in [] = []
lines_in (None ∷ turns) = lines_in turns
lines_in (Some line ∷ turns) = line ∷ lines_in turns

-- What was talked since a session was opened with this seat: these bytes came, however they were cut, and these were sent, by turns one for each
-- of their lines, and slices of each `cont` behind its own.
pub record HasTalked {S : Type 0} (front : Front S) (start : Seat) (came sent : List ℕ) (session : Session) (seat : Seat) : Type 0 where
  pub turns : List (Option Line)
  pub lines : IsLines came (lines_in turns) session.framer
  pub talked : TakesTurns front state.Ready start turns session.state seat sent

-- no line asks for a `cont`
abbrev pub HaveNoCont : List Line → Type 0
HaveNoCont lines = All (λ line. command_of line ≢ Some Cont) lines
