-- Inputs that are run at once.
use Rattle.std.proofs.Common.{◌≡◌, refl, sym, ap, subst, ◌∙◌, ℕ, zero, suc, ◌+◌, ◌<◌, ◌≤◌, arith, Bool, false, ◌||◌, List, [], ◌∷◌, ◌++◌, All, append_assoc, length, length-append, map, take, drop, take_all, get_or, set, ◌⊎◌, inl, inr, Option, Some, None, IfSome, decimal}
use Rattle.std.specs.Io.BufRead.{drop_through}
use Rattle.std.specs.Io.KnownBytes.{Appends, IsAtEnd}
use Rattle.std.specs.List.{flat_map, list_any}
use Rattle.std.proofs.lemmas.Grind.{flat_map-append}
use Rattle.std.proofs.lemmas.List.{append-nil, get_or-set_other, get_or-set_same, length-map, length-set, map-append, take_more, take-append-drop}
use Rattle.std.proofs.lemmas.List.Elements.{All-nil, All-cons, All-append}
use Rattle.std.proofs.lemmas.List.Folds.{list_any-append}
use Rattle.commands.specs.declared.fault.Fault.{Fault as CommandFault}
use Rattle.commands.specs.declared.fault.Fault.TheVariants.{Memory}
use Rattle.fuzz_command.specs.declared.fault.FuzzFault.{FuzzFault}
use Rattle.fuzz_command.specs.declared.fault.FuzzFault.TheVariants.{Command, Unready, Line, Unread, Output}
use Rattle.fuzz_command.specs.declared.job.Job.{Job}
use Rattle.fuzz_command.specs.declared.job.Outcome.{Outcome}
use Rattle.fuzz_command.specs.declared.job.Outcome.TheVariants.{Waiting, Done, Refused}
use Rattle.fuzz_command.specs.declared.job.Then.{Then}
use Rattle.fuzz_command.specs.declared.job.Then.TheVariants.{More, End, Fault}
use Rattle.fuzz_command.specs.declared.order.InputFile.{InputFile}
use Rattle.fuzz_command.specs.Faults.{IsFilesFault, IsTrialFault}
use Rattle.fuzz_command.specs.Inputs.{AreBefore, AreFiles, AreFirstLines, AreInputs, BeginFiles, BeginInputs, IsNext, IsNoLine, input_of, name_of}
use Rattle.fuzz_command.specs.Jobs.{AreFirstJobs, AreJobs, BeginJobs, EndsLines, HasRun, IsBehind, IsBehindFiles, IsFirstJob, IsNextJob, IsNumbered, IsOutcome, IsOver, IsRunOf, TakesFiles, TakesLine, TakesLines, job_input, job_name}
use Rattle.fuzz_command.specs.Lines.{IsTrial, Trial, has_stopped, line_text}
use Rattle.fuzz_command.specs.Settings.{Setting}
use Rattle.fuzz_command.specs.Writing.{Begins, Writes, WritesLine, WritesLines}
use Rattle.fuzz_command.proofs.Trials.{AreSoFar, FilesSoFar, SoFar, all_files, appends_more, name_in, none_written, one_more, stops_more, trial_of}

abbrev pub input_in : Trial → List ℕ
input_in t = t.input

head_is : {X : Type 0} (x y : X) (xs ys : List X) → x ∷ xs ≡ y ∷ ys → x ≡ y
head_is x y xs ys e = cc

tail_is : {X : Type 0} (x y : X) (xs ys : List X) → x ∷ xs ≡ y ∷ ys → xs ≡ ys
tail_is x y xs ys e = cc

-- ---- what is written of runs, and then of others

lines_join : (s : Setting) (ts us : List Trial) (k k' k'' : Option (List ℕ)) → WritesLines s ts k k' → WritesLines s us k' k'' → WritesLines s (ts ++ us) k k''
lines_join s ts us k k' k'' written more = record {
  each = All-append (IsTrial s) ts us written.each more.each;
  text = subst (λ (l : List ℕ). Appends k k'' l) (sym (flat_map-append (line_text s) ts us))
      (appends_more k k' k'' (flat_map (line_text s) ts) (flat_map (line_text s) us) written.text more.text);
}

stops_join : (ts us : List Trial) (stopped stops : Bool) → stopped ≡ list_any has_stopped ts → stops ≡ list_any has_stopped us → stopped || stops ≡ list_any has_stopped (ts ++ us)
stops_join ts us stopped stops before now =
    ap (λ b. b || stops) before ∙ ap (λ b. list_any has_stopped ts || b) now ∙ sym (list_any-append has_stopped ts us)

-- ---- inputs and their runs

-- the same inputs, each of which is run
pub record AreRun (s : Setting) (jobs jobs' : List Job) : Type 0 where
  pub names : map job_name jobs' ≡ map job_name jobs
  pub inputs : map job_input jobs' ≡ map job_input jobs
  pub over : All (λ (job : Job). IsOver job.outcome) jobs'
  pub run : All (HasRun s) jobs'

is_over : (s : Setting) (name input : List ℕ) (outcome : Outcome) → IsOutcome s name input outcome → IsOver outcome
is_over s name input Waiting is = is
is_over s name input (Done done) is = tt
is_over s name input (Refused want) is = tt

pub all_run : (s : Setting) (xs ys : List Job) → length ys ≡ length xs → ((i : ℕ) (d : Job) → i < length xs → IsRunOf s (get_or xs i d) (get_or ys i d)) → AreRun s xs ys
all_run s [] [] same each = record { names = refl; inputs = refl; over = All-nil (λ (job : Job). IsOver job.outcome); run = All-nil (HasRun s) }
all_run s [] (y ∷ ys) same each = absurd (omega (arith, same))
all_run s (x ∷ xs) [] same each = absurd (omega (arith, same))
all_run s (x ∷ xs) (y ∷ ys) same each =
    let this : IsRunOf s x y = each 0 x (omega arith) in
    let rest = all_run s xs ys (omega (arith, same)) (λ i d inside. each (suc i) d (omega (arith, inside))) in
    record {
      names = ap (λ (l : List ℕ). l ∷ map job_name ys) this.name ∙ ap (λ (l : List (List ℕ)). job_name x ∷ l) rest.names;
      inputs = ap (λ (l : List ℕ). l ∷ map job_input ys) this.input ∙ ap (λ (l : List (List ℕ)). job_input x ∷ l) rest.inputs;
      over = All-cons (λ (job : Job). IsOver job.outcome) y ys (is_over s (job_name y) (job_input y) y.outcome this.run) rest.over;
      run = All-cons (HasRun s) y ys this.run rest.run;
    }

-- what is written of them is written of the inputs before they were run
pub written_before : (s : Setting) (jobs jobs' : List Job) (known known' : Option (List ℕ)) (stopped : Bool) → AreRun s jobs jobs' → Writes s (AreJobs jobs') known known' stopped
    → Writes s (AreJobs jobs) known known' stopped
written_before s jobs jobs' known known' stopped are writes = record {
  trials = writes.trials;
  inputs = record { names = sym are.names ∙ writes.inputs.names; inputs = sym are.inputs ∙ writes.inputs.inputs };
  lines = writes.lines;
  stops = writes.stops;
}

pub begun_before : (s : Setting) (jobs jobs' : List Job) (known known' : Option (List ℕ)) → AreRun s jobs jobs' → Begins s (BeginJobs jobs') known known' → Begins s (BeginJobs jobs) known known'
begun_before s jobs jobs' known known' are begins = record {
  trials = begins.trials;
  inputs = record {
    other_names = begins.inputs.other_names;
    other_inputs = begins.inputs.other_inputs;
    names = sym are.names ∙ begins.inputs.names;
    inputs = sym are.inputs ∙ begins.inputs.inputs;
  };
  lines = begins.lines;
}

-- ---- the lines of inputs that are run

-- those before this index are written
pub record JobsSoFar (s : Setting) (jobs : List Job) (index : ℕ) (known known' : Option (List ℕ)) (stopped : Bool) : Type 0 where
  pub trials : List Trial
  pub of : AreJobs (take index jobs) trials
  pub lines : WritesLines s trials known known'
  pub stops : stopped ≡ list_any has_stopped trials

pub no_jobs : (s : Setting) (jobs : List Job) (known : Option (List ℕ)) → JobsSoFar s jobs 0 known known false
no_jobs s jobs known = record { trials = []; of = record { names = refl; inputs = refl }; lines = none_written s known; stops = refl }

-- a list of what is taken of each, with one more
mapped_more : {X Y : Type 0} (f : X → Y) (g : Trial → Y) (xs : List X) (ts : List Trial) (t : Trial) (index : ℕ) (d : X) → index < length xs → map f (take index xs) ≡ map g ts
    → f (get_or xs index d) ≡ g t → map f (take (index + 1) xs) ≡ map g (ts ++ t ∷ [])
mapped_more f g xs ts t index d inside before this =
    ap (map f) (take_more xs index d inside) ∙ map-append f (take index xs) (get_or xs index d ∷ []) ∙ ap (λ l. l ++ f (get_or xs index d) ∷ []) before
    ∙ ap (λ y. map g ts ++ y ∷ []) this ∙ sym (map-append g ts (t ∷ []))

pub next_written : (s : Setting) (jobs : List Job) (index : ℕ) (d : Job) (known mid known' : Option (List ℕ)) (stopped stops : Bool) → JobsSoFar s jobs index known mid stopped
    → index < length jobs → WritesLine s (job_name (get_or jobs index d)) (job_input (get_or jobs index d)) mid known' stops → JobsSoFar s jobs (index + 1) known known' (stopped || stops)
next_written s jobs index d known mid known' stopped stops so inside run =
    let t = trial_of (job_name (get_or jobs index d)) (job_input (get_or jobs index d)) run.ran in
    record {
      trials = so.trials ++ t ∷ [];
      of = record {
        names = mapped_more job_name name_in jobs so.trials t index d inside so.of.names refl;
        inputs = mapped_more job_input input_in jobs so.trials t index d inside so.of.inputs refl;
      };
      lines = one_more s so.trials t known mid known' so.lines run.trial run.text;
      stops = stops_more so.trials t stopped stops so.stops run.stops;
    }

pub all_written : (s : Setting) (jobs : List Job) (index : ℕ) (known known' : Option (List ℕ)) (stopped : Bool) → JobsSoFar s jobs index known known' stopped → length jobs ≤ index
    → Writes s (AreJobs jobs) known known' stopped
all_written s jobs index known known' stopped so past =
    record { trials = so.trials; inputs = subst (λ (l : List Job). AreJobs l so.trials) (take_all index jobs past) so.of; lines = so.lines; stops = so.stops }

-- the first of a list, and the others
mapped_first : {X Y : Type 0} (f : X → Y) (g : Trial → Y) (xs : List X) (ts : List Trial) (index : ℕ) → map f (take index xs) ≡ map g ts → map f xs ≡ map g ts ++ map f (drop index xs)
mapped_first f g xs ts index before =
    ap (map f) (sym (take-append-drop index xs)) ∙ map-append f (take index xs) (drop index xs) ∙ ap (λ l. l ++ map f (drop index xs)) before

pub first_written : (s : Setting) (jobs : List Job) (index : ℕ) (known known' : Option (List ℕ)) (stopped : Bool) → JobsSoFar s jobs index known known' stopped
    → Begins s (BeginJobs jobs) known known'
first_written s jobs index known known' stopped so = record {
  trials = so.trials;
  inputs = record {
    other_names = map job_name (drop index jobs);
    other_inputs = map job_input (drop index jobs);
    names = mapped_first job_name name_in jobs so.trials index so.of.names;
    inputs = mapped_first job_input input_in jobs so.trials index so.of.inputs;
  };
  lines = so.lines;
}

-- ---- lines that are read

-- what was read of what was left
abbrev pub Takes : ℕ → Option (List ℕ) → List Job → Option (List ℕ) → Then → Type 0
Takes number left jobs left' then = IfSome left (λ text. TakesLines number text jobs left' then)

-- the next line is an input, or none
pub next_is : (number : ℕ) (had left' : Option (List ℕ)) (digits : List ℕ) (job : Job) → IfSome had (λ text. IsNext text digits left') → input_of digits ≡ Some (job_input job)
    → job_name job ≡ decimal number → IfSome had (λ text. IsNextJob number text job left')
next_is number None left' digits job next is named = tt
next_is number (Some text) left' digits job next is named =
    record { first = record { some = next.some; input = ap input_of (sym next.digits) ∙ is; name = named }; behind = next.behind }

pub none_is : (had left' : Option (List ℕ)) (digits : List ℕ) → IfSome had (λ text. IsNext text digits left') → input_of digits ≡ None → IfSome had IsNoLine
none_is None left' digits next is = tt
none_is (Some text) left' digits next is = record { some = next.some; input = ap input_of (sym next.digits) ∙ is }

-- what is read of a text, line after line: so many lines are these inputs, and that is left
pub record TakesSoFar (first : ℕ) (text : List ℕ) (jobs : List Job) (left : Option (List ℕ)) : Type 0 where
  pub rest : List ℕ
  pub lines : AreFirstJobs first text jobs rest
  pub behind : left ≡ Some rest

jobs_more : (k : ℕ) (text : List ℕ) (jobs : List Job) (rest : List ℕ) (job : Job) → AreFirstJobs k text jobs rest → IsFirstJob (k + length jobs) rest job
    → AreFirstJobs k text (jobs ++ job ∷ []) (drop_through 10 rest)
jobs_more k text [] rest job are first =
    (subst (λ (l : List ℕ). IsFirstJob k l job) are (subst (λ n. IsFirstJob n rest job) (let same : k + 0 ≡ k = omega arith in same) first), ap (drop_through 10) are)
jobs_more k text (j ∷ js) rest job are first =
    (are.0, jobs_more (k + 1) (drop_through 10 text) js rest job are.1 (subst (λ n. IsFirstJob n rest job) (let same : k + length (j ∷ js) ≡ k + 1 + length js = omega arith in same) first))

-- the same with its number, where the text may not be known
abbrev pub TakesFrom : ℕ → ℕ → Option (List ℕ) → List Job → Option (List ℕ) → Type 0
TakesFrom first number had jobs left = (number ≡ first + length jobs) × IfSome had (λ text. TakesSoFar first text jobs left)

pub none_taken : (first : ℕ) (had : Option (List ℕ)) → TakesFrom first first had [] had
none_taken first None = (omega arith, tt)
none_taken first (Some text) = (omega arith, record { rest = text; lines = refl; behind = refl })

-- the next line is read
one_behind : (first number : ℕ) (had left left' : Option (List ℕ)) (jobs : List Job) (job : Job) → number ≡ first + length jobs → IfSome had (λ text. TakesSoFar first text jobs left)
    → IfSome left (λ text. IsNextJob number text job left') → IfSome had (λ text. TakesSoFar first text (jobs ++ job ∷ []) left')
one_behind first number None left left' jobs job count so next = tt
one_behind first number (Some text) left left' jobs job count so next =
    let n : IsNextJob number so.rest job left' = subst (λ (l : Option (List ℕ)). IfSome l (λ text. IsNextJob number text job left')) so.behind next in
    record {
      rest = drop_through 10 so.rest;
      lines = jobs_more first text jobs so.rest job so.lines (subst (λ k. IsFirstJob k so.rest job) count n.first);
      behind = n.behind;
    }

pub one_taken : (first number : ℕ) (had left left' : Option (List ℕ)) (jobs : List Job) (job : Job) → TakesFrom first number had jobs left
    → IfSome left (λ text. IsNextJob number text job left') → TakesFrom first (number + 1) had (jobs ++ job ∷ []) left'
one_taken first number had left left' jobs job so next =
    (omega (arith, so.0, length-append jobs (job ∷ [])), one_behind first number had left left' jobs job so.0 so.1 next)

-- and there are perhaps more
pub taken_more : (first number : ℕ) (had left : Option (List ℕ)) (jobs : List Job) → TakesFrom first number had jobs left → Takes first had jobs left (More number)
taken_more first number None left jobs so = tt
taken_more first number (Some text) left jobs so = record { rest = so.1.rest; lines = so.1.lines; behind = so.1.behind }

-- or none
pub taken_all : (first number : ℕ) (had left left' : Option (List ℕ)) (jobs : List Job) → TakesFrom first number had jobs left → IsAtEnd left → Takes first had jobs left' End
taken_all first number None left left' jobs so end = tt
taken_all first number (Some text) left left' jobs so end = record { rest = so.1.rest; lines = so.1.lines; behind = subst IsAtEnd so.1.behind end }

-- or a line that is no input, or that can't be read
is_behind : (number at : ℕ) (rest : List ℕ) (left' : Option (List ℕ)) (fault : FuzzFault) → number ≡ at → ((n : ℕ) → fault ≡ Line n → (n ≡ number) × IsNoLine rest)
    → IsBehind at rest left' (Fault fault)
is_behind number at rest left' (Command fault) count none = tt
is_behind number at rest left' (Line n) count none = let is = none n refl in (is.1, is.0 ∙ count)
is_behind number at rest left' Unready count none = tt
is_behind number at rest left' Unread count none = tt
is_behind number at rest left' Output count none = tt

pub taken_refused : (first number : ℕ) (had left left' : Option (List ℕ)) (jobs : List Job) (fault : _) → TakesFrom first number had jobs left → Takes first had jobs left' (Fault (Command fault))
taken_refused first number None left left' jobs fault so = tt
taken_refused first number (Some text) left left' jobs fault so = record { rest = so.1.rest; lines = so.1.lines; behind = tt }

pub taken_fault : (first number : ℕ) (had left left' : Option (List ℕ)) (jobs : List Job) (fault : FuzzFault) → TakesFrom first number had jobs left
    → ((n : ℕ) → fault ≡ Line n → (n ≡ number) × IfSome left IsNoLine) → Takes first had jobs left' (Fault fault)
taken_fault first number None left left' jobs fault so none = tt
taken_fault first number (Some text) left left' jobs fault so none =
    record {
      rest = so.1.rest;
      lines = so.1.lines;
      behind = is_behind number (first + length jobs) so.1.rest left' fault so.0 (λ n is. let it = none n is in (it.0, subst (λ (l : Option (List ℕ)). IfSome l IsNoLine) so.1.behind it.1));
    }

ended : (first number : ℕ) (had left left' : Option (List ℕ)) (jobs : List Job) (then : Then) → TakesFrom first number had jobs left → EndsLines number left then → Takes first had jobs left' then
ended first number had left left' jobs (More next) so ends = absurd ends
ended first number had left left' jobs End so ends = taken_all first number had left left' jobs so ends
ended first number had left left' jobs (Fault fault) so ends = taken_fault first number had left left' jobs fault so ends

-- the line behind them is not taken
pub taken_then : (first number : ℕ) (had left left' : Option (List ℕ)) (jobs jobs' : List Job) (then : Then) → TakesFrom first number had jobs left → TakesLine number left jobs jobs' left' (Some then)
    → Takes first had jobs' left' then
taken_then first number had left left' jobs jobs' then so line =
    subst (λ (l : List Job). Takes first had l left' then) (sym line.0) (ended first number had left left' jobs then so line.1)

pub numbered_then : (number k : ℕ) (had : Option (List ℕ)) (then : Then) → EndsLines number had then → IsNumbered k then
numbered_then number k had (More next) ends = absurd ends
numbered_then number k had End ends = tt
numbered_then number k had (Fault fault) ends = tt

-- it is
pub taken_line : (first number : ℕ) (had left left' : Option (List ℕ)) (jobs jobs' : List Job) → TakesFrom first number had jobs left → TakesLine number left jobs jobs' left' None
    → TakesFrom first (number + 1) had jobs' left'
taken_line first number had left left' jobs jobs' so line =
    subst (λ (l : List Job). TakesFrom first (number + 1) had l left') (sym line.1) (one_taken first number had left left' jobs line.0 so line.2)

command_is_no_line : (fault : CommandFault) (n : ℕ) → Command fault ≡ Line n → ⊥
command_is_no_line fault n is = cc

no_room : (number : ℕ) (had left : Option (List ℕ)) (jobs jobs' : List Job) (fault : CommandFault) → jobs' ≡ jobs → TakesLine number had jobs jobs' left (Some (Fault (Command fault)))
no_room number had left jobs jobs' fault same = (same, λ n is. absurd (command_is_no_line fault n is))

-- a line that is an input is taken, or there is no room for it
pub line_added : (number : ℕ) (had left : Option (List ℕ)) (jobs jobs' : List Job) (job : Job) (told : Option Then) → (told ≡ None → jobs' ≡ jobs ++ job ∷ [])
    → IfSome told (λ then. (then ≡ Fault (Command Memory)) × (jobs' ≡ jobs)) → IfSome had (λ text. IsNextJob number text job left) → TakesLine number had jobs jobs' left told
line_added number had left jobs jobs' job None added same next = (job, added refl, next)
line_added number had left jobs jobs' job (Some then) added same next =
    subst (λ (t : Then). TakesLine number had jobs jobs' left (Some t)) (sym same.0) (no_room number had left jobs jobs' Memory same.1)

-- ---- the runs of lines that were read

lines_of : (k : ℕ) (text : List ℕ) (jobs : List Job) (rest : List ℕ) (us : List Trial) → AreFirstJobs k text jobs rest → map job_name jobs ≡ map name_in us → map job_input jobs ≡ map input_in us
    → AreFirstLines k text us rest
lines_of k text [] rest [] are names inputs = are
lines_of k text [] rest (u ∷ us) are names inputs = absurd (cc)
lines_of k text (j ∷ js) rest [] are names inputs = absurd (cc)
lines_of k text (j ∷ js) rest (u ∷ us) are names inputs =
    let name = head_is (job_name j) u.name (map job_name js) (map name_in us) names in
    let input = head_is (job_input j) u.input (map job_input js) (map input_in us) inputs in (
      record { some = are.0.some; input = are.0.input ∙ ap (λ (l : List ℕ). let o : Option (List ℕ) = Some l in o) input; name = sym name ∙ are.0.name },
      lines_of (k + 1) (drop_through 10 text) js rest us are.1 (tail_is (job_name j) u.name (map job_name js) (map name_in us) names)
          (tail_is (job_input j) u.input (map job_input js) (map input_in us) inputs),
    )

first_lines_of : (k : ℕ) (text : List ℕ) (jobs : List Job) (rest : List ℕ) (us : List Trial) (other_names other_inputs : List (List ℕ)) → AreFirstJobs k text jobs rest
    → map job_name jobs ≡ map name_in us ++ other_names → map job_input jobs ≡ map input_in us ++ other_inputs → (rest' : List ℕ) × AreFirstLines k text us rest'
first_lines_of k text jobs rest [] other_names other_inputs are names inputs = (text, refl)
first_lines_of k text [] rest (u ∷ us) other_names other_inputs are names inputs = absurd (cc)
first_lines_of k text (j ∷ js) rest (u ∷ us) other_names other_inputs are names inputs =
    let name = head_is (job_name j) u.name (map job_name js) (map name_in us ++ other_names) names in
    let input = head_is (job_input j) u.input (map job_input js) (map input_in us ++ other_inputs) inputs in
    let more = first_lines_of (k + 1) (drop_through 10 text) js rest us other_names other_inputs are.1 (tail_is (job_name j) u.name (map job_name js) (map name_in us ++ other_names) names)
    (tail_is (job_input j) u.input (map job_input js) (map input_in us ++ other_inputs) inputs) in
    (more.0, (record { some = are.0.some; input = are.0.input ∙ ap (λ (l : List ℕ). let o : Option (List ℕ) = Some l in o) input; name = sym name ∙ are.0.name }, more.1))

first_join : (k : ℕ) (text : List ℕ) (ts us : List Trial) (rest rest' : List ℕ) → AreFirstLines k text ts rest → AreFirstLines (k + length ts) rest us rest' → AreFirstLines k text (ts ++ us) rest'
first_join k text [] us rest rest' are more =
    subst (λ (l : List ℕ). AreFirstLines k l us rest') are (subst (λ n. AreFirstLines n rest us rest') (let same : k + 0 ≡ k = omega arith in same) more)
first_join k text (t ∷ ts) us rest rest' are more =
    (are.0, first_join (k + 1) (drop_through 10 text) ts us rest rest' are.1 (subst (λ n. AreFirstLines n rest us rest') (let same : k + length (t ∷ ts) ≡ k + 1 + length ts = omega arith in same) more))

-- the lines before are these runs, those that were then read are those, and that is behind them
pub record Joined (text : List ℕ) (number : ℕ) (ts us : List Trial) (jobs : List Job) (left' : Option (List ℕ)) (then : Then) : Type 0 where
  pub rest : List ℕ
  pub lines : AreFirstLines 1 text (ts ++ us) rest
  pub behind : IsBehind (number + length jobs) rest left' then

joined : (number : ℕ) (text : List ℕ) (left left' : Option (List ℕ)) (ts us : List Trial) (jobs : List Job) (then : Then) → number ≡ length ts + 1 → AreSoFar (Some text) left ts
    → Takes number left jobs left' then → AreJobs jobs us → Joined text number ts us jobs left' then
joined number text left left' ts us jobs then count are takes of =
    let t : TakesLines number are.0 jobs left' then = subst (λ (l : Option (List ℕ)). Takes number l jobs left' then) are.1 takes in
    let lines = lines_of number are.0 jobs t.rest us t.lines of.names of.inputs in
    record {
      rest = t.rest;
      lines = first_join 1 text ts us are.0 t.rest are.2 (subst (λ n. AreFirstLines n are.0 us t.rest) (let same : number ≡ 1 + length ts = omega (arith, count) in same) lines);
      behind = t.behind;
    }

same_count : (jobs : List Job) (us : List Trial) → AreJobs jobs us → length jobs ≡ length us
same_count jobs us of = sym (length-map jobs job_name) ∙ ap length of.names ∙ length-map us name_in

-- ---- a batch of lines is run

so_far_then : (number : ℕ) (had left left' : Option (List ℕ)) (ts us : List Trial) (jobs : List Job) (next : ℕ) → number ≡ length ts + 1 → AreSoFar had left ts
    → Takes number left jobs left' (More next) → AreJobs jobs us → AreSoFar had left' (ts ++ us)
so_far_then number None left left' ts us jobs next count are takes of = tt
so_far_then number (Some text) left left' ts us jobs next count are takes of =
    let j = joined number text left left' ts us jobs (More next) count are takes of in
    (j.rest, j.behind, j.lines)

pub next_lines : (s : Setting) (number next : ℕ) (had left left' known mid known' : Option (List ℕ)) (stopped stops : Bool) (jobs : List Job) → SoFar s number had left known mid stopped
    → Takes number left jobs left' (More next) → next ≡ number + length jobs → Writes s (AreJobs jobs) mid known' stops → SoFar s next had left' known known' (stopped || stops)
next_lines s number next had left left' known mid known' stopped stops jobs so takes count writes = record {
  trials = so.trials ++ writes.trials;
  count = omega (arith, count, so.count, same_count jobs writes.trials writes.inputs, length-append so.trials writes.trials);
  inputs = so_far_then number had left left' so.trials writes.trials jobs next so.count so.inputs takes writes.inputs;
  lines = lines_join s so.trials writes.trials known mid known' so.lines writes.lines;
  stops = stops_join so.trials writes.trials stopped stops so.stops writes.stops;
}

all_then : (number : ℕ) (had left left' : Option (List ℕ)) (ts us : List Trial) (jobs : List Job) → number ≡ length ts + 1 → AreSoFar had left ts → Takes number left jobs left' End
    → AreJobs jobs us → AreInputs [] had (ts ++ us)
all_then number None left left' ts us jobs count are takes of = tt
all_then number (Some text) left left' ts us jobs count are takes of =
    let j = joined number text left left' ts us jobs End count are takes of in
    subst (λ (l : List ℕ). AreFirstLines 1 text (ts ++ us) l) j.behind j.lines

pub last_lines : (s : Setting) (number : ℕ) (had left left' known mid known' : Option (List ℕ)) (stopped stops : Bool) (jobs : List Job) → SoFar s number had left known mid stopped
    → Takes number left jobs left' End → Writes s (AreJobs jobs) mid known' stops → Writes s (AreInputs [] had) known known' (stopped || stops)
last_lines s number had left left' known mid known' stopped stops jobs so takes writes = record {
  trials = so.trials ++ writes.trials;
  inputs = all_then number had left left' so.trials writes.trials jobs so.count so.inputs takes writes.inputs;
  lines = lines_join s so.trials writes.trials known mid known' so.lines writes.lines;
  stops = stops_join so.trials writes.trials stopped stops so.stops writes.stops;
}

begin_then : (number : ℕ) (had left left' : Option (List ℕ)) (ts us : List Trial) (jobs : List Job) (then : Then) → number ≡ length ts + 1 → AreSoFar had left ts
    → Takes number left jobs left' then → BeginJobs jobs us → BeginInputs [] had (ts ++ us)
begin_then number None left left' ts us jobs then count are takes of = tt
begin_then number (Some text) left left' ts us jobs then count are takes of =
    let t : TakesLines number are.0 jobs left' then = subst (λ (l : Option (List ℕ)). Takes number l jobs left' then) are.1 takes in
    let first = first_lines_of number are.0 jobs t.rest us of.other_names of.other_inputs t.lines of.names of.inputs in
    record {
      rest = first.0;
      lines = first_join 1 text ts us are.0 first.0 are.2 (subst (λ n. AreFirstLines n are.0 us first.0) (let same : number ≡ 1 + length ts = omega (arith, count) in same) first.1);
    }

-- the lines of the first inputs stand
pub broken_in : (s : Setting) (number : ℕ) (had left left' known mid known' : Option (List ℕ)) (stopped : Bool) (jobs : List Job) (then : Then) → SoFar s number had left known mid stopped
    → Takes number left jobs left' then → Begins s (BeginJobs jobs) mid known' → Begins s (BeginInputs [] had) known known'
broken_in s number had left left' known mid known' stopped jobs then so takes begins = record {
  trials = so.trials ++ begins.trials;
  inputs = begin_then number had left left' so.trials begins.trials jobs then so.count so.inputs takes begins.inputs;
  lines = lines_join s so.trials begins.trials known mid known' so.lines begins.lines;
}

-- all inputs are the first of them
jobs_begin : (jobs : List Job) (us : List Trial) → AreJobs jobs us → BeginJobs jobs us
jobs_begin jobs us of = record {
  other_names = [];
  other_inputs = [];
  names = of.names ∙ sym (append-nil (map name_in us));
  inputs = of.inputs ∙ sym (append-nil (map input_in us));
}

pub written_begins : (s : Setting) (jobs : List Job) (known known' : Option (List ℕ)) (stopped : Bool) → Writes s (AreJobs jobs) known known' stopped → Begins s (BeginJobs jobs) known known'
written_begins s jobs known known' stopped writes = record { trials = writes.trials; inputs = jobs_begin jobs writes.trials writes.inputs; lines = writes.lines }

-- a line that is no input stands behind them
before_then : (number n : ℕ) (had left left' : Option (List ℕ)) (ts us : List Trial) (jobs : List Job) → number ≡ length ts + 1 → AreSoFar had left ts
    → Takes number left jobs left' (Fault (Line n)) → AreJobs jobs us → AreBefore n had (ts ++ us)
before_then number n None left left' ts us jobs count are takes of = tt
before_then number n (Some text) left left' ts us jobs count are takes of =
    let j = joined number text left left' ts us jobs (Fault (Line n)) count are takes of in
    record {
      rest = j.rest;
      lines = j.lines;
      refused = j.behind.0;
      number = j.behind.1 ∙ (let same : number + length jobs ≡ length (ts ++ us) + 1 = omega (arith, count, same_count jobs us of, length-append ts us) in same);
    }

pub refused_behind : (s : Setting) (number n : ℕ) (had left left' known mid known' : Option (List ℕ)) (stopped stops : Bool) (jobs : List Job) → SoFar s number had left known mid stopped
    → Takes number left jobs left' (Fault (Line n)) → Writes s (AreJobs jobs) mid known' stops → Begins s (AreBefore n had) known known'
refused_behind s number n had left left' known mid known' stopped stops jobs so takes writes = record {
  trials = so.trials ++ writes.trials;
  inputs = before_then number n had left left' so.trials writes.trials jobs so.count so.inputs takes writes.inputs;
  lines = lines_join s so.trials writes.trials known mid known' so.lines writes.lines;
}

-- ---- a batch of files is run

names_join : (files : List InputFile) (first next : ℕ) (jobs : List Job) (ts us : List Trial) → AreFiles (take first files) ts → map job_name jobs ≡ map name_in us
    → map name_of (take next files) ≡ map name_of (take first files) ++ map job_name jobs → AreFiles (take next files) (ts ++ us)
names_join files first next jobs ts us before now taken =
    map-append name_in ts us ∙ ap (λ (l : List (List ℕ)). l ++ map name_in us) before ∙ ap (λ (l : List (List ℕ)). map name_of (take first files) ++ l) (sym now) ∙ sym taken

pub next_files : (s : Setting) (files : List InputFile) (first : ℕ) (known mid known' : Option (List ℕ)) (stopped stops : Bool) (jobs : List Job) (then : Then)
    → FilesSoFar s files first known mid stopped → (t : TakesFiles files first jobs then) → Writes s (AreJobs jobs) mid known' stops
    → FilesSoFar s files t.next known known' (stopped || stops)
next_files s files first known mid known' stopped stops jobs then so t writes = record {
  trials = so.trials ++ writes.trials;
  names = names_join files first t.next jobs so.trials writes.trials so.names writes.inputs.names t.names;
  lines = lines_join s so.trials writes.trials known mid known' so.lines writes.lines;
  stops = stops_join so.trials writes.trials stopped stops so.stops writes.stops;
}

-- the lines of the first files stand
names_begin : (files : List InputFile) (first next : ℕ) (jobs : List Job) (ts us : List Trial) (others : List (List ℕ)) → AreFiles (take first files) ts
    → map job_name jobs ≡ map name_in us ++ others → map name_of (take next files) ≡ map name_of (take first files) ++ map job_name jobs
    → map name_of files ≡ map name_in (ts ++ us) ++ (others ++ map name_of (drop next files))
names_begin files first next jobs ts us others before now taken =
    let later = map name_of (drop next files) in
    let all : map name_of files ≡ map name_of (take next files) ++ later = ap (map name_of) (sym (take-append-drop next files)) ∙ map-append name_of (take next files) (drop next files) in
    let front : map name_of (take next files) ≡ map name_in ts ++ (map name_in us ++ others) =
    taken ∙ ap (λ (l : List (List ℕ)). l ++ map job_name jobs) (sym before) ∙ ap (λ (l : List (List ℕ)). map name_in ts ++ l) now in
    let grouped : map name_in ts ++ (map name_in us ++ others) ≡ map name_in (ts ++ us) ++ others =
    sym (append_assoc (map name_in ts) (map name_in us) others) ∙ ap (λ (l : List (List ℕ)). l ++ others) (sym (map-append name_in ts us)) in
    all ∙ ap (λ (l : List (List ℕ)). l ++ later) (front ∙ grouped) ∙ append_assoc (map name_in (ts ++ us)) others later

pub begun_files : (s : Setting) (files : List InputFile) (first : ℕ) (known mid known' : Option (List ℕ)) (stopped : Bool) (jobs : List Job) (then : Then)
    → FilesSoFar s files first known mid stopped → TakesFiles files first jobs then → Begins s (BeginJobs jobs) mid known' → Begins s (BeginFiles files) known known'
begun_files s files first known mid known' stopped jobs then so t begins = record {
  trials = so.trials ++ begins.trials;
  inputs = record {
    rest = begins.inputs.other_names ++ map name_of (drop t.next files);
    names = names_begin files first t.next jobs so.trials begins.trials begins.inputs.other_names so.names begins.inputs.names t.names;
  };
  lines = lines_join s so.trials begins.trials known mid known' so.lines begins.lines;
}

-- ---- files that are read

-- those before this index are these inputs
pub record FilesFrom (files : List InputFile) (first index : ℕ) (jobs : List Job) : Type 0 where
  pub names : map name_of (take index files) ≡ map name_of (take first files) ++ map job_name jobs

pub none_from : (files : List InputFile) (first : ℕ) → FilesFrom files first first []
none_from files first = record { names = sym (append-nil (map name_of (take first files))) }

pub one_from : (files : List InputFile) (first index : ℕ) (jobs : List Job) (job : Job) (d : InputFile) → index < length files → FilesFrom files first index jobs
    → job_name job ≡ name_of (get_or files index d) → FilesFrom files first (index + 1) (jobs ++ job ∷ [])
one_from files first index jobs job d inside from is = record {
  names = ap (map name_of) (take_more files index d inside) ∙ map-append name_of (take index files) (get_or files index d ∷ [])
      ∙ ap (λ (l : List (List ℕ)). l ++ name_of (get_or files index d) ∷ []) from.names
      ∙ append_assoc (map name_of (take first files)) (map job_name jobs) (name_of (get_or files index d) ∷ [])
      ∙ ap (λ (n : List ℕ). map name_of (take first files) ++ (map job_name jobs ++ n ∷ [])) (sym is)
      ∙ ap (λ (l : List (List ℕ)). map name_of (take first files) ++ l) (sym (map-append job_name jobs (job ∷ [])));
}

-- ---- an error of a run

pub trial_is_no_line : (fault : FuzzFault) (n : ℕ) → IsTrialFault fault → fault ≡ Line n → ⊥
trial_is_no_line (Command fault) n is same = cc
trial_is_no_line (Line m) n is same = is
trial_is_no_line Unready n is same = is
trial_is_no_line Unread n is same = is
trial_is_no_line Output n is same = cc

-- ---- what is behind a batch

pub more_lines : (s : Setting) (number next : ℕ) (had left left' known mid known' : Option (List ℕ)) (stopped stops : Bool) (jobs : List Job) (then : Then) → then ≡ More next
    → SoFar s number had left known mid stopped → Takes number left jobs left' then → IsNumbered (number + length jobs) then → Writes s (AreJobs jobs) mid known' stops
    → SoFar s next had left' known known' (stopped || stops)
more_lines s number next had left left' known mid known' stopped stops jobs then is so takes count writes =
    next_lines s number next had left left' known mid known' stopped stops jobs so (subst (λ (t : Then). Takes number left jobs left' t) is takes)
    (subst (λ (t : Then). IsNumbered (number + length jobs) t) is count) writes

pub end_lines : (s : Setting) (number : ℕ) (had left left' known mid known' : Option (List ℕ)) (stopped stops : Bool) (jobs : List Job) (then : Then) → then ≡ End
    → SoFar s number had left known mid stopped → Takes number left jobs left' then → Writes s (AreJobs jobs) mid known' stops → Writes s (AreInputs [] had) known known' (stopped || stops)
end_lines s number had left left' known mid known' stopped stops jobs then is so takes writes =
    last_lines s number had left left' known mid known' stopped stops jobs so (subst (λ (t : Then). Takes number left jobs left' t) is takes) writes

pub fault_lines : (s : Setting) (number n : ℕ) (had left left' known mid known' : Option (List ℕ)) (stopped stops : Bool) (jobs : List Job) (then : Then) (fault : FuzzFault) → then ≡ Fault fault
    → fault ≡ Line n → SoFar s number had left known mid stopped → Takes number left jobs left' then → Writes s (AreJobs jobs) mid known' stops → Begins s (AreBefore n had) known known'
fault_lines s number n had left left' known mid known' stopped stops jobs then fault is line so takes writes =
    refused_behind s number n had left left' known mid known' stopped stops jobs so
    (subst (λ (t : Then). Takes number left jobs left' t) (is ∙ ap (λ (f : FuzzFault). let t : Then = Fault f in t) line) takes) writes

pub last_files : (s : Setting) (files : List InputFile) (first : ℕ) (known mid known' : Option (List ℕ)) (stopped stops : Bool) (jobs : List Job) (then : Then) → then ≡ End
    → FilesSoFar s files first known mid stopped → TakesFiles files first jobs then → Writes s (AreJobs jobs) mid known' stops → Writes s (AreFiles files) known known' (stopped || stops)
last_files s files first known mid known' stopped stops jobs then is so t writes =
    all_files s files t.next known known' (stopped || stops) (next_files s files first known mid known' stopped stops jobs then so t writes)
    (subst (λ (u : Then). IsBehindFiles files first t.next u) is t.behind)

pub more_files : (s : Setting) (files : List InputFile) (first next : ℕ) (known mid known' : Option (List ℕ)) (stopped stops : Bool) (jobs : List Job) (then : Then) → then ≡ More next
    → FilesSoFar s files first known mid stopped → TakesFiles files first jobs then → Writes s (AreJobs jobs) mid known' stops → FilesSoFar s files next known known' (stopped || stops)
more_files s files first next known mid known' stopped stops jobs then is so t writes =
    let behind : (next ≡ t.next) × (first < t.next) = subst (λ (u : Then). IsBehindFiles files first t.next u) is t.behind in
    subst (λ (n : ℕ). FilesSoFar s files n known known' (stopped || stops)) (sym behind.0) (next_files s files first known mid known' stopped stops jobs then so t writes)

pub more_inside : (files : List InputFile) (first next : ℕ) (jobs : List Job) (then : Then) → then ≡ More next → TakesFiles files first jobs then → (first < next) × (next ≤ length files)
more_inside files first next jobs then is t =
    let behind : (next ≡ t.next) × (first < t.next) = subst (λ (u : Then). IsBehindFiles files first t.next u) is t.behind in
    (omega (arith, behind.0, behind.1), omega (arith, behind.0, t.inside))

pub fault_of_files : (files : List InputFile) (first : ℕ) (jobs : List Job) (then : Then) (fault : FuzzFault) → then ≡ Fault fault → TakesFiles files first jobs then → IsFilesFault files fault
fault_of_files files first jobs then fault is t = subst (λ (u : Then). IsBehindFiles files first t.next u) is t.behind

-- ---- inputs that are run one after another

-- those before this index are run, and the others wait
pub record ShareSoFar (s : Setting) (old now : List Job) (index : ℕ) : Type 0 where
  pub count : length now ≡ length old
  pub run : (i : ℕ) (d : Job) → i < index → IsRunOf s (get_or old i d) (get_or now i d)
  pub rest : (i : ℕ) (d : Job) → index ≤ i → get_or now i d ≡ get_or old i d

pub share_begun : (s : Setting) (jobs : List Job) → ShareSoFar s jobs jobs 0
share_begun s jobs = record { count = refl; run = λ i d less. absurd (omega (arith, less)); rest = λ i d more. refl }

share_at : (s : Setting) (old now : List Job) (index : ℕ) (job : Job) → ShareSoFar s old now index → index < length now → ((d : Job) → IsRunOf s (get_or now index d) job)
    → (i : ℕ) (d : Job) → (i < index) ⊎ (i ≡ index) → IsRunOf s (get_or old i d) (get_or (set now index job) i d)
share_at s old now index job so inside is i d (inl less) =
    subst (λ (j : Job). IsRunOf s (get_or old i d) j) (sym (get_or-set_other now index i job d (λ same. omega (arith, less, same)))) (so.run i d less)
share_at s old now index job so inside is i d (inr same) =
    subst (λ (k : ℕ). IsRunOf s (get_or old k d) (get_or (set now index job) k d)) (sym same)
    (subst (λ (j : Job). IsRunOf s (get_or old index d) j) (sym (get_or-set_same now index job d inside)) (subst (λ (j : Job). IsRunOf s j job) (so.rest index d (omega arith)) (is d)))

one_on : (i index : ℕ) → (i < index) ⊎ (i ≡ index) → (suc i < suc index) ⊎ (suc i ≡ suc index)
one_on i index (inl less) = inl (omega (arith, less))
one_on i index (inr same) = inr (ap suc same)

less_or_same : (i index : ℕ) → i < index + 1 → (i < index) ⊎ (i ≡ index)
less_or_same zero zero less = inr refl
less_or_same zero (suc n) less = inl (omega arith)
less_or_same (suc i) zero less = absurd (omega (arith, less))
less_or_same (suc i) (suc n) less = one_on i n (less_or_same i n (omega (arith, less)))

pub share_more : (s : Setting) (old now : List Job) (index : ℕ) (job : Job) → ShareSoFar s old now index → index < length now → ((d : Job) → IsRunOf s (get_or now index d) job)
    → ShareSoFar s old (set now index job) (index + 1)
share_more s old now index job so inside is = record {
  count = length-set now index job ∙ so.count;
  run = λ i d less. share_at s old now index job so inside is i d (less_or_same i index less);
  rest = λ i d more. get_or-set_other now index i job d (λ same. omega (arith, more, same)) ∙ so.rest i d (omega (arith, more));
}
