-- What the values of the code say.
use Rattle.std.specs.Prelude.{ℕ, List, map, option_map}
use Rattle.std.specs.Borrow.{Bor}
use Rattle.script.specs.Words.{Arguments, Zero, One, Two, Three, Four}
use Rattle.script.specs.Events.{Event, Step, Run, In, Drain, Target, Poke, Write, Probe, Fault, Scan, Evict, Sample, Level, Audit, AuditGuest, Dump, Stats, Damage}
use Rattle.script.specs.Actions.{Action, Single, StepEach, RunEach, ActionLine, Block}
use Rattle.script.specs.Headers as headers
use Rattle.script.specs.Headers.{GuestLine, Part, Draft, Header}
use Rattle.script.specs.Statements.{Statement, OfHeader, OfAction, OfRepeat, OfEnd}
use Rattle.script.specs.Scripts.{Reading, Script}
use Rattle.script.specs.declared.words.Arguments.{Arguments as ArgumentsCode}
use Rattle.script.specs.declared.words.Arguments.TheVariants as arguments
use Rattle.script.specs.declared.event.Event.{Event as EventCode}
use Rattle.script.specs.declared.event.Event.TheVariants as event
use Rattle.script.specs.declared.action.Action.{Action as ActionCode}
use Rattle.script.specs.declared.action.Action.TheVariants as action
use Rattle.script.specs.declared.action.ActionLine.{ActionLine as ActionLineCode}
use Rattle.script.specs.declared.action.Block.{Block as BlockCode}
use Rattle.script.specs.declared.header.GuestLine.{GuestLine as GuestLineCode}
use Rattle.script.specs.declared.header.Header.{Header as HeaderCode}
use Rattle.script.specs.declared.header.Script.{Script as ScriptCode}
use Rattle.script.specs.declared.part.Part.{Part as PartCode}
use Rattle.script.specs.declared.part.Part.TheVariants as part
use Rattle.script.specs.declared.draft.Draft.{Draft as DraftCode}
use Rattle.script.specs.declared.statement.Statement.{Statement as StatementCode}
use Rattle.script.specs.declared.statement.Statement.TheVariants as statement
use Rattle.script.specs.declared.reading.Reading.{Reading as ReadingCode}

abbrev pub text_view : Bor (List ℕ) → List ℕ
text_view text = text.now

abbrev pub arguments_view : ArgumentsCode → Arguments
arguments_view arguments.Zero = Zero
arguments_view (arguments.One a) = One a.now
arguments_view (arguments.Two a b) = Two a.now b.now
arguments_view (arguments.Three a b c) = Three a.now b.now c.now
arguments_view (arguments.Four a b c d) = Four a.now b.now c.now d.now

abbrev pub parts_view : Bor (List ℕ) × ArgumentsCode → List ℕ × Arguments
parts_view parts = (parts.0.now, arguments_view parts.1)

abbrev pub event_view : EventCode → Event
event_view (event.Step guest count) = Step guest count
event_view (event.Run guest count) = Run guest count
event_view (event.In guest bytes) = In guest bytes.items
event_view (event.Drain guest) = Drain guest
event_view (event.Target guest pages) = Target guest pages
event_view (event.Poke guest register value) = Poke guest register value
event_view (event.Write guest address bytes) = Write guest address bytes.items
event_view (event.Probe guest address count) = Probe guest address count
event_view (event.Fault guest) = Fault guest
event_view (event.Scan guest page) = Scan guest page
event_view (event.Evict guest page) = Evict guest page
event_view event.Sample = Sample
event_view event.Level = Level
event_view event.Audit = Audit
event_view (event.AuditGuest guest) = AuditGuest guest
event_view (event.Dump guest) = Dump guest
event_view (event.Stats guest) = Stats guest
event_view (event.Damage slot byte) = Damage slot byte

abbrev pub action_view : ActionCode → Action
action_view (action.Single event) = Single (event_view event)
action_view (action.StepEach count) = StepEach count
action_view (action.RunEach count) = RunEach count

abbrev pub line_view : ActionLineCode → ActionLine
line_view line = record { number = line.number; action = action_view line.action }

abbrev pub block_view : BlockCode → Block
block_view block = record { times = block.times; lines = map line_view block.lines.items }

abbrev pub guest_view : GuestLineCode → GuestLine
guest_view line = record { file = line.file.now; pages = line.pages; shares = line.shares; minimum = line.minimum }

abbrev pub part_view : PartCode → Part
part_view (part.Frames n) = headers.Frames n
part_view (part.Slots n) = headers.Slots n
part_view (part.Seed n) = headers.Seed n
part_view (part.Guest line) = headers.Guest (guest_view line)
part_view (part.Failure f) = headers.Failure f
part_view part.Admit = headers.Admit
part_view (part.Profile n) = headers.Profile n

abbrev pub statement_view : StatementCode → Statement
statement_view (statement.OfHeader p) = OfHeader (part_view p)
statement_view (statement.OfAction a) = OfAction (action_view a)
statement_view (statement.OfRepeat times) = OfRepeat times
statement_view statement.OfEnd = OfEnd

abbrev pub draft_view : DraftCode → Draft
draft_view d = record { frames = d.frames; slots = d.slots; seed = d.seed; guests = map guest_view d.guests.items; failure = d.failure; admit = d.admit; profile = d.profile }

abbrev pub header_view : HeaderCode → Header
header_view h = record { frames = h.frames; slots = h.slots; seed = h.seed; guests = map guest_view h.guests.items; failure = h.failure; admit = h.admit; profile = h.profile }

abbrev pub reading_view : ReadingCode → Reading
reading_view r = record { header = draft_view r.header; blocks = map block_view r.blocks.items; block = block_view r.block; repeats = r.repeats }

abbrev pub script_view : ScriptCode → Script
script_view s = record { header = header_view s.header; blocks = map block_view s.blocks.items }
