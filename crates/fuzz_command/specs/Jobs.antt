-- Inputs that are run at once.
use Rattle.std.specs.Prelude.{◌≡◌, ◌<◌, ◌≤◌, ◌+◌, ℕ, List, [], ◌∷◌, ◌++◌, decimal, filter, flat_map, length, map, not, take, true, string_bytes, Option, Some, None, IfSome}
use Rattle.std.specs.Io.BufRead.{drop_through}
use Rattle.std.specs.Io.KnownBytes.{IsAtEnd}
use Rattle.items.specs.declared.item.Item.{Item}
use Rattle.items.specs.declared.item.What.TheVariants.{In}
use Rattle.reset_machine.specs.Watched.{Resettable}
use Rattle.runs.specs.Coverage.{is_reached}
use Rattle.fuzz_command.specs.declared.fault.FuzzFault.{FuzzFault}
use Rattle.fuzz_command.specs.declared.fault.FuzzFault.TheVariants.{Line}
use Rattle.fuzz_command.specs.declared.job.Job.{Job}
use Rattle.fuzz_command.specs.declared.job.Outcome.{Outcome}
use Rattle.fuzz_command.specs.declared.job.Outcome.TheVariants.{Waiting, Done, Refused}
use Rattle.fuzz_command.specs.declared.job.RunResult.{RunResult}
use Rattle.fuzz_command.specs.declared.job.Then.{Then}
use Rattle.fuzz_command.specs.declared.job.Then.TheVariants.{More, End, Fault}
use Rattle.fuzz_command.specs.declared.order.InputFile.{InputFile}
use Rattle.fuzz_command.specs.Faults.{IsFilesFault}
use Rattle.fuzz_command.specs.Inputs.{IsNoLine, first_digits, input_of, name_of}
use Rattle.fuzz_command.specs.Lines.{IsTrial, Trial, line_text, reached_in}
use Rattle.fuzz_command.specs.Settings.{Setting, coverage_of}

-- ---- an input

abbrev pub job_name : Job → List ℕ
job_name job = string_bytes job.name

abbrev pub job_input : Job → List ℕ
job_input job = job.input

-- ---- its run

-- what the run of an input of this name gave: its line is the one of its run
pub record IsResult (s : Setting) (name input : List ℕ) (done : RunResult) : Type 0 where
  pub trial : IsTrial s (record { name = name; input = input; ran = done.ran })
  pub text : string_bytes done.text ≡ line_text s (record { name = name; input = input; ran = done.ran })

-- what became of the run of an input of this name: it gave that, or memory was refused
abbrev pub IsOutcome : Setting → List ℕ → List ℕ → Outcome → Type 0
IsOutcome s name input Waiting = ⊥
IsOutcome s name input (Done done) = IsResult s name input done
IsOutcome s name input (Refused want) = Unit {0}

-- an input is run
abbrev pub HasRun : Setting → Job → Type 0
HasRun s job = IsOutcome s (job_name job) (job_input job) job.outcome

-- it waits for its run no more
abbrev pub IsOver : Outcome → Type 0
IsOver Waiting = ⊥
IsOver (Done done) = Unit {0}
IsOver (Refused want) = Unit {0}

-- it is the same input, and it is run
pub record IsRunOf (s : Setting) (job job' : Job) : Type 0 where
  pub name : job_name job' ≡ job_name job
  pub input : job_input job' ≡ job_input job
  pub run : HasRun s job'

-- ---- the words that it hands over

-- some words, but for others
abbrev pub but_for : List ℕ → List ℕ → List ℕ
but_for others words = filter (λ word. not (is_reached word others)) words

-- each of these words is one of those
abbrev pub AreAmong : List ℕ → List ℕ → Type 0
AreAmong words those = (word : ℕ) → is_reached word words ≡ true → is_reached word those ≡ true

-- The run of an input of this name handed over the words that PC led to in it, but for some that are known. These are among the words that were
-- handed over before; where the words of each run are shown on its line, there are none.
pub record HandsOver (s : Setting) (before name input : List ℕ) (done : RunResult) : Type 0 where
  pub known : List ℕ
  pub among : AreAmong known before
  pub alone : s.reached ≡ true → known ≡ []
  pub reached : done.reached.items ≡ but_for known (reached_in s (record { name = name; input = input; ran = done.ran }))

-- the same of what became of a run: where memory was refused, it handed over nothing
abbrev pub HandsIn : Setting → List ℕ → List ℕ → List ℕ → Outcome → Type 0
HandsIn s before name input (Done done) = HandsOver s before name input done
HandsIn s before name input other = Unit {0}

-- and of an input
abbrev pub Hands : Setting → List ℕ → Job → Type 0
Hands s before job = HandsIn s before (job_name job) (job_input job) job.outcome

-- the words that were handed over
abbrev pub handed_in : Outcome → List ℕ
handed_in (Done done) = done.reached.items
handed_in other = []

abbrev pub handed : Job → List ℕ
handed job = handed_in job.outcome

abbrev pub handed_over : List Job → List ℕ
handed_over jobs = flat_map handed jobs

-- ---- the machine that runs inputs

-- the words that it knows, if there is one
abbrev pub known_by : Option Resettable → List ℕ
known_by None = []
known_by (Some m) = m.coverage.reached

-- a machine goes back to where a setting's is ready, and keeps a coverage of as many words
pub record RunsAgain (s : Setting) (m : Resettable) : Type 0 where
  pub home : m.home ≡ s.home
  pub words : m.coverage.words ≡ (coverage_of s).words

-- so does the machine that runs inputs, if there is one
abbrev pub IsReusable : Setting → Option Resettable → Type 0
IsReusable s used = IfSome used (RunsAgain s)

-- a machine is where a setting's is ready, and goes back there; where the words that are reached are shown on the lines, none is yet
pub record IsReadyMachine (s : Setting) (m : Resettable) : Type 0 where
  pub machine : m.machine ≡ s.home
  pub home : m.home ≡ s.home
  pub words : m.coverage.words ≡ (coverage_of s).words
  pub alone : s.reached ≡ true → m.coverage.reached ≡ []

-- the items of a log that are bytes of input by the runner's seat
abbrev pub input_items : List ℕ → List Item
input_items bytes = map (λ byte. record { seat = 0; what = In byte }) bytes

-- ---- some inputs

-- these are runs of some inputs, in their order
pub record AreJobs (jobs : List Job) (trials : List Trial) : Type 0 where
  pub names : map job_name jobs ≡ map (λ (t : Trial). t.name) trials
  pub inputs : map job_input jobs ≡ map (λ (t : Trial). t.input) trials

-- they are those of the first of them
pub record BeginJobs (jobs : List Job) (trials : List Trial) : Type 0 where
  pub other_names : List (List ℕ)
  pub other_inputs : List (List ℕ)
  pub names : map job_name jobs ≡ map (λ (t : Trial). t.name) trials ++ other_names
  pub inputs : map job_input jobs ≡ map (λ (t : Trial). t.input) trials ++ other_inputs

-- what holds of the fault behind some inputs, where there is one
abbrev pub IfFault : Then → (FuzzFault → Type 0) → Type 0
IfFault (Fault fault) P = P fault
IfFault other P = Unit {0}

-- ---- inputs that are lines

-- the first line of a text is this input, by the line's number
pub record IsFirstJob (number : ℕ) (text : List ℕ) (job : Job) : Type 0 where
  pub some : 0 < length text
  pub input : input_of (first_digits text) ≡ Some (job_input job)
  pub name : job_name job ≡ decimal number

-- the next line of a text is this input, and that is left behind it
pub record IsNextJob (number : ℕ) (text : List ℕ) (job : Job) (left : Option (List ℕ)) : Type 0 where
  pub first : IsFirstJob number text job
  pub behind : left ≡ Some (drop_through 10 text)

-- the first lines of a text, numbered from a number on, are these inputs, and the rest is behind them
abbrev pub AreFirstJobs : ℕ → List ℕ → List Job → List ℕ → Type 0
AreFirstJobs number text [] rest = rest ≡ text
AreFirstJobs number text (job ∷ jobs) rest = IsFirstJob number text job × AreFirstJobs (number + 1) (drop_through 10 text) jobs rest

-- the rest of a text, which begins with the line of this number, is what is left, or nothing, or a line that is no input; or it can't be read
abbrev pub IsBehind : ℕ → List ℕ → Option (List ℕ) → Then → Type 0
IsBehind number rest left (More next) = left ≡ Some rest
IsBehind number rest left End = rest ≡ []
IsBehind number rest left (Fault (Line n)) = IsNoLine rest × (n ≡ number)
IsBehind number rest left (Fault other) = Unit {0}

-- what comes behind the lines before the one of this number, which is not an input that is taken: it is none, or can't be had, or there is none
abbrev pub EndsLines : ℕ → Option (List ℕ) → Then → Type 0
EndsLines number had (More next) = ⊥
EndsLines number had End = IsAtEnd had
EndsLines number had (Fault fault) = (n : ℕ) → fault ≡ Line n → (n ≡ number) × IfSome had IsNoLine

-- the next line, of this number, is taken behind other inputs, or these are all
abbrev pub TakesLine : ℕ → Option (List ℕ) → List Job → List Job → Option (List ℕ) → Option Then → Type 0
TakesLine number had jobs jobs' left None = (job : Job) × (jobs' ≡ jobs ++ job ∷ []) × IfSome had (λ text. IsNextJob number text job left)
TakesLine number had jobs jobs' left (Some then) = (jobs' ≡ jobs) × EndsLines number had then

-- more lines are numbered from there on
abbrev pub IsNumbered : ℕ → Then → Type 0
IsNumbered number (More next) = next ≡ number
IsNumbered number other = Unit {0}

-- the first lines of a text, numbered from a number on, are these inputs, and that is behind them
pub record TakesLines (number : ℕ) (text : List ℕ) (jobs : List Job) (left : Option (List ℕ)) (then : Then) : Type 0 where
  pub rest : List ℕ
  pub lines : AreFirstJobs number text jobs rest
  pub behind : IsBehind (number + length jobs) rest left then

-- ---- inputs that are files

-- behind the files from one index to another are more, or none; or the next one can't be had
abbrev pub IsBehindFiles : List InputFile → ℕ → ℕ → Then → Type 0
IsBehindFiles files first next (More index) = (index ≡ next) × (first < next)
IsBehindFiles files first next End = length files ≤ next
IsBehindFiles files first next (Fault fault) = IsFilesFault files fault

-- the files from this index on are these inputs, by their names as they were given, and that is behind them
pub record TakesFiles (files : List InputFile) (first : ℕ) (jobs : List Job) (then : Then) : Type 0 where
  pub next : ℕ
  pub inside : next ≤ length files
  pub names : map name_of (take next files) ≡ map name_of (take first files) ++ map job_name jobs
  pub behind : IsBehindFiles files first next then
