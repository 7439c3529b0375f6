-- What is played of a course of events, and written.
use Rattle.std.specs.Prelude.{◌≡◌, ℕ, Bool, All, List, ◌++◌, length, map, Option, Result, OnOk, IsErrOf}
use Rattle.std.specs.Io.KnownBytes.{Appends}
use Rattle.script.specs.Courses.{LineEvent}
use Rattle.script.specs.Views.{event_view}
use Rattle.world.specs.All.{StoreFacts, Stream, WorldIs}
use Rattle.simulation.specs.declared.blocks.Interruption.{Interruption}
use Rattle.simulation.specs.declared.blocks.Interruption.TheVariants.{Memory}
use Rattle.simulation.specs.Acts.{IsFor}
use Rattle.simulation.specs.Lines.{NumberedEvent}
use Rattle.simulation.specs.Transcripts.{IsPlayed, line_event}

-- an event can be done in a world of so many guests and slots
abbrev pub CanBe : ℕ → ℕ → NumberedEvent → Type 0
CanBe guests slots e = IsFor guests slots (event_view e.event)

-- the events of a course are done, each of which a world of so many guests and slots can do, and the replies are written behind known bytes
pub record HasPlayed {Store : Type 0} (facts : StoreFacts Store) (numbered : Bool) (guests slots : ℕ) (words : Stream) (w : WorldIs Store) (course : List LineEvent) (rest : Stream) (w' : WorldIs Store) (known known' : Option (List ℕ)) : Type 0 where
  pub events : List NumberedEvent
  pub text : List ℕ
  pub are : map line_event events ≡ course
  pub can : All (CanBe guests slots) events
  pub played : IsPlayed facts numbered words w events rest w' text
  pub written : Appends known known' text

-- so the first of them are, from a world on
pub record HasBegun {Store : Type 0} (facts : StoreFacts Store) (numbered : Bool) (guests slots : ℕ) (words : Stream) (w : WorldIs Store) (course : List LineEvent) (known known' : Option (List ℕ)) : Type 0 where
  pub before : List LineEvent
  pub after : List LineEvent
  pub whole : course ≡ before ++ after
  pub rest : Stream
  pub now : WorldIs Store
  pub played : HasPlayed facts numbered guests slots words w before rest now known known'

-- What comes of playing a course: it is played whole, or where memory is refused its first events are; guests and slots stay as many.
pub record IsOutcome {Store : Type 0} (facts : StoreFacts Store) (numbered : Bool) (guests slots : ℕ) (words : Stream) (w : WorldIs Store) (course : List LineEvent) (rest : Stream) (w' : WorldIs Store) (known known' : Option (List ℕ)) (result : Result (Unit {0}) Interruption) : Type 0 where
  pub done : OnOk result (HasPlayed facts numbered guests slots words w course rest w' known known')
  pub begun : IsErrOf result Memory → HasBegun facts numbered guests slots words w course known known'
  pub guests_stay : length w'.tenants ≡ length w.tenants
  pub slots_stay : facts.slots w'.store ≡ facts.slots w.store
