-- The lines of what is answered to events.
use Rattle.std.specs.Prelude.{ℕ, Bool, if◌then◌else◌, List, [], ◌∷◌, ◌++◌, codes, decimal, string_bytes, Option, Some, None, Result, Ok, Err}
use Rattle.std.specs.declared.alloc.AllocError.{AllocError}
use Rattle.std.specs.declared.alloc.Global.{Global}
use Rattle.std.specs.declared.string.String.{String}
use Rattle.std.specs.declared.vec.Vec.{Vec}
use Rattle.world.specs.All.{EvictError, Level, Refused, Reply, Why, for_room, stop_of}
use Rattle.machine.specs.declared.access.Why.TheVariants.{First, Swapped, Copy}
use Rattle.page_moves.specs.declared.scan.Scan.{Scan}
use Rattle.page_moves.specs.declared.scan.Scan.TheVariants as scan
use Rattle.reclaim.specs.Levels.{level_name}
use Rattle.guest_log.specs.declared.stop.Stop.{Stop}
use Rattle.machine.specs.declared.reply.Reply.TheVariants as reply
use Rattle.guest.specs.declared.refused.Refused.TheVariants as refusal
use Rattle.world.specs.declared.events.Answer.{Answer}
use Rattle.world.specs.declared.events.Answer.TheVariants as answer
use Rattle.world.specs.declared.events.Event.TheVariants as happening
use Rattle.world.specs.declared.events.Fed.{Fed}
use Rattle.world.specs.declared.debugging.DebugError.{DebugError}
use Rattle.world.specs.declared.debugging.DebugError.TheVariants as debug
use Rattle.world.specs.declared.faulting.FaultError.{FaultError}
use Rattle.world.specs.declared.turns.Turn.{Turn}
use Rattle.world.specs.declared.books.BookCounts.{BookCounts}
use Rattle.tenant.specs.declared.counts.MoveCounts.{MoveCounts}
use Rattle.tenant.specs.declared.moves.EvictError.TheVariants.{NoSwap, SwapWrite}
use Rattle.world.specs.declared.running.End.{End}
use Rattle.world.specs.declared.running.End.TheVariants as ending
use Rattle.world.specs.declared.running.Ran.{Ran}
use Rattle.world.specs.declared.running.RunStop.{RunStop}
use Rattle.world.specs.declared.running.RunStop.TheVariants as stop
use Rattle.world.specs.declared.world.Evicted.{Evicted}
use Rattle.world.specs.declared.world.Evicted.TheVariants as evicted
use Rattle.dump.specs.Dumps.{digits_of, output_digits}
use Rattle.script.specs.declared.event.Event.{Event}
use Rattle.simulation.specs.Acts.{act_of}
use Rattle.simulation.specs.declared.acts.Act.{Act}
use Rattle.simulation.specs.declared.acts.Act.TheVariants as act
use Rattle.simulation.specs.declared.pages.PageCounts.{PageCounts}
use Rattle.simulation.specs.declared.said.Said.{Said}
use Rattle.simulation.specs.declared.said.Said.TheVariants as said
use Rattle.simulation.specs.declared.text.Heading.{Heading}
use Rattle.simulation.specs.declared.text.Heading.TheVariants as heading

-- the number by which what stops an event is known
abbrev pub stop_number : RunStop → ℕ
stop_number stop.NoFrame = 1
stop_number stop.NoSwap = 2
stop_number stop.SwapRead = 3
stop_number stop.SwapDamaged = 4
stop_number stop.Memory = 5
stop_number stop.LogFull = 6

abbrev pub stop_text : RunStop → List ℕ
stop_text why = codes "stop " ++ decimal (stop_number why)

-- why a step needs a page
abbrev pub why_text : Why → List ℕ
why_text First = codes "first"
why_text Swapped = codes "swapped"
why_text Copy = codes "copy"

-- how steps ended, where it was before the last
abbrev pub end_text : End → List ℕ
end_text ending.Done = []
end_text (ending.Need page why) = codes " need " ++ decimal page ++ codes " " ++ why_text why
end_text (ending.Stop why) = codes " " ++ stop_text why

-- what a line begins with where it names its event and its guest
abbrev pub heading_text : Heading → List ℕ
heading_text (heading.Step guest) = codes "step " ++ decimal guest ++ codes " "
heading_text (heading.Run guest) = codes "run " ++ decimal guest ++ codes " "
heading_text (heading.In guest) = codes "in " ++ decimal guest ++ codes " "
heading_text (heading.Drain guest) = codes "drain " ++ decimal guest ++ codes " "
heading_text (heading.Stats guest) = codes "stats " ++ decimal guest ++ codes " "
heading_text (heading.Audit guest) = codes "audit " ++ decimal guest ++ codes " "
heading_text heading.Bare = []

-- steps of a guest
abbrev pub ran_text : Heading → Ran → List ℕ
ran_text h ran = heading_text h ++ codes "done " ++ decimal ran.steps ++ end_text ran.end ++ codes "\n"

-- no step of a guest that is blocked
abbrev pub blocked_text : Heading → List ℕ
blocked_text h = heading_text h ++ codes "done 0 blocked" ++ codes "\n"

abbrev pub fed_end_text : Option Stop → List ℕ
fed_end_text None = []
fed_end_text (Some why) = codes " " ++ stop_text (for_room why)

-- how many bytes a guest's console has taken
abbrev pub fed_text : Heading → Fed → List ℕ
fed_text h fed = heading_text h ++ decimal fed.count ++ fed_end_text fed.stop ++ codes "\n"

-- a guest's output, or a dash where there is none
abbrev pub output_text : Heading → List ℕ → List ℕ
output_text h output = heading_text h ++ output_digits output ++ codes "\n"

-- a line of its own for what stops an event
abbrev pub stopped_text : RunStop → List ℕ
stopped_text why = stop_text why ++ codes "\n"

-- an item; one that the guest's machine refuses has no line, and no event of a script makes one
abbrev pub input_text : Heading → Result Reply Refused → List ℕ
input_text h (Ok reply.Done) = codes "ok\n"
input_text h (Ok (reply.Output output)) = output_text h output.items
input_text h (Err refusal.Machine) = []
input_text h (Err (refusal.Away page)) = []
input_text h (Err (refusal.Stop why)) = stopped_text (for_room why)

-- why a debugger's bytes are not read or written
abbrev pub access_text : DebugError → List ℕ
access_text debug.NoPlace = codes "error E14\n"
access_text (debug.Stop why) = stopped_text why

abbrev pub probed_text : Result (Vec ℕ Global) DebugError → List ℕ
probed_text (Ok bytes) = digits_of bytes.items ++ codes "\n"
probed_text (Err error) = access_text error

abbrev pub written_text : Result (Unit {0}) DebugError → List ℕ
written_text (Ok done) = codes "ok\n"
written_text (Err error) = access_text error

abbrev pub faulted_text : Result (Unit {0}) FaultError → List ℕ
faulted_text (Ok done) = codes "ok\n"
faulted_text (Err error) = stopped_text (stop_of error)

abbrev pub scan_text : Scan → List ℕ
scan_text scan.Noted = codes "noted\n"
scan_text (scan.Admitted other) = codes "admitted " ++ decimal other.guest ++ codes " " ++ decimal other.page ++ codes "\n"
scan_text scan.Joined = codes "joined\n"
scan_text scan.Skipped = codes "skipped\n"
scan_text scan.Memory = stopped_text stop.Memory

abbrev pub evict_text : Result Evicted EvictError → List ℕ
evict_text (Ok evicted.Done) = codes "ok\n"
evict_text (Ok evicted.Skipped) = codes "skipped\n"
evict_text (Err NoSwap) = codes "refused 2\n"
evict_text (Err SwapWrite) = codes "refused 8\n"

-- the level of a turn of the policy
abbrev pub level_text : Level → List ℕ
level_text level = codes "level " ++ level_name level ++ codes "\n"

-- frames and slots, of each kind how many
abbrev pub books_text : BookCounts → List ℕ
books_text b =
    codes "frames " ++ decimal b.frames ++ codes " free " ++ decimal b.free ++ codes " private " ++ decimal b.private
    ++ codes " shared " ++ decimal b.shared ++ codes " refs " ++ decimal b.references
    ++ codes " slots " ++ decimal b.swapped ++ codes " of " ++ decimal b.slots ++ codes "\n"

-- how many pages got a frame, or came to read a shared one, by why
abbrev pub gained_text : MoveCounts → List ℕ
gained_text m =
    codes "first " ++ decimal m.first ++ codes " copied " ++ decimal m.copied ++ codes " read " ++ decimal m.read
    ++ codes " joined " ++ decimal m.joined

-- how many pages left their frames for slots, by why
abbrev pub left_text : MoveCounts → List ℕ
left_text m =
    codes " fault " ++ decimal m.fault ++ codes " run " ++ decimal m.run ++ codes " debugger " ++ decimal m.debugger
    ++ codes " level " ++ decimal m.level ++ codes " evict " ++ decimal m.order

-- how often the pages of a guest have moved since its boot
abbrev pub moves_text : Heading → MoveCounts → List ℕ
moves_text h m = heading_text h ++ gained_text m ++ left_text m ++ codes "\n"

-- where the pages of a guest are
abbrev pub pages_text : Heading → PageCounts → List ℕ
pages_text h counts =
    heading_text h ++ codes "private " ++ decimal counts.private ++ codes " shared " ++ decimal counts.shared ++ codes " swapped "
    ++ decimal counts.swapped ++ codes " given " ++ decimal counts.given ++ codes " zero " ++ decimal counts.zero ++ codes "\n"

-- the level of a turn of the policy, or want of memory to plan it
abbrev pub turned_text : Result Turn AllocError → List ℕ
turned_text (Ok turn) = level_text turn.level
turned_text (Err error) = stopped_text stop.Memory

-- What the world answers to an event. No event of a script makes a single step or a supply, or is answered that its guest isn't there:
-- these have no line.
abbrev pub answer_text : Heading → Answer → List ℕ
answer_text h (answer.Ran ran) = ran_text h ran
answer_text h answer.Blocked = blocked_text h
answer_text h (answer.Fed fed) = fed_text h fed
answer_text h (answer.Input done) = input_text h done
answer_text h (answer.Probed done) = probed_text done
answer_text h (answer.Written done) = written_text done
answer_text h (answer.Faulted done) = faulted_text done
answer_text h (answer.Evicted done) = evict_text done
answer_text h (answer.Scanned done) = scan_text done
answer_text h answer.Sampled = codes "ok\n"
answer_text h (answer.Turned done) = turned_text done
answer_text h (answer.Stepped done) = []
answer_text h (answer.Supplied done) = []
answer_text h answer.Nowhere = []

-- the lines of a dump, or want of memory for it
abbrev pub dumped_text : Result (String Global) AllocError → List ℕ
dumped_text (Ok text) = string_bytes text
dumped_text (Err error) = stopped_text stop.Memory

-- a damaged slot, or want of memory to keep apart what was last written to it
abbrev pub damaged_text : Result (Unit {0}) AllocError → List ℕ
damaged_text (Ok done) = codes "ok\n"
damaged_text (Err error) = stopped_text stop.Memory

-- what a line begins with, by what is done
abbrev pub heading_of : Act → Heading
heading_of (act.World (happening.Steps guest count)) = heading.Step guest
heading_of (act.World (happening.Run guest count)) = heading.Run guest
heading_of (act.World (happening.Feed guest bytes)) = heading.In guest
heading_of (act.World (happening.Input guest item)) = heading.Drain guest
heading_of (act.Stats guest) = heading.Stats guest
heading_of (act.Pages guest) = heading.Audit guest
heading_of _ = heading.Bare

-- the line of what is answered to an act, or the lines of a dump
abbrev pub said_text : Heading → Said → List ℕ
said_text h (said.Answered a) = answer_text h a
said_text h said.Skipped = codes "skipped\n"
said_text h (said.Counted counts) = books_text counts
said_text h (said.Placed counts) = pages_text h counts
said_text h (said.Dumped done) = dumped_text done
said_text h (said.Moved counts) = moves_text h counts
said_text h (said.Damaged done) = damaged_text done

-- ---- many

-- an event of a script, and the number of its line
pub record NumberedEvent : Type 0 where
  pub line : ℕ
  pub event : Event

-- what stands before a reply that is to have the number of its line
abbrev pub number_text : Bool → ℕ → List ℕ
number_text numbered line = if numbered then decimal line ++ codes ": " else []

abbrev pub reply_text : Bool → NumberedEvent → Said → List ℕ
reply_text numbered e s = number_text numbered e.line ++ said_text (heading_of (act_of e.event)) s

-- the replies to events, one after another, each with the number of its line or all without
abbrev pub lines_of : Bool → List NumberedEvent → List Said → List ℕ
lines_of numbered [] saids = []
lines_of numbered (e ∷ es) [] = []
lines_of numbered (e ∷ es) (s ∷ ss) = reply_text numbered e s ++ lines_of numbered es ss
