-- Runs, one after another.
use Rattle.std.proofs.Common.{◌≡◌, refl, sym, ap, subst, ◌∙◌, ℕ, ◌+◌, ◌<◌, arith, Bool, true, false, ◌||◌, List, [], ◌∷◌, ◌++◌, append_assoc, length, length-append, map, take, drop, take_all, get_or, ◌≤◌, length-take, Option, Some, None, IfSome, decimal, Result, Ok, Err, IfErr, IfOk}
use Rattle.std.specs.Io.BufRead.{drop_through}
use Rattle.std.specs.Io.KnownBytes.{Appends, IsAtEnd, prepend_known}
use Rattle.std.specs.List.{flat_map, list_any}
use Rattle.std.specs.Option.{option_map}
use Rattle.std.specs.Prelude.{IsErrOf}
use Rattle.std.specs.Result.{IsErrAnd}
use Rattle.std.proofs.lemmas.Grind.{flat_map-append}
use Rattle.std.proofs.lemmas.List.{append-nil, map-append, take_more, take-append-drop}
use Rattle.std.proofs.lemmas.List.Elements.{All-nil, All-cons, All-append}
use Rattle.std.proofs.lemmas.List.Folds.{list_any-append}
use Rattle.runs.specs.declared.running.Ran.{Ran}
use Rattle.fuzz_command.specs.declared.fault.FuzzFault.TheVariants.{Line, Output}
use Rattle.fuzz_command.specs.declared.order.InputFile.{InputFile}
use Rattle.fuzz_command.specs.Inputs.{AreBefore, AreFiles, AreFirstLines, AreInputs, BeginFiles, BeginInputs, IsFirstLine, IsNext, IsNoLine, input_of, name_of}
use Rattle.fuzz_command.specs.Lines.{IsTrial, Trial, has_stopped, line_text}
use Rattle.fuzz_command.specs.Settings.{Setting}
use Rattle.fuzz_command.specs.Writing.{Begins, RunsLine, Writes, WritesLine, WritesLines}

-- ---- known bytes

appends_none : (k : Option (List ℕ)) → Appends k k []
appends_none None = tt
appends_none (Some xs) = sym (append-nil xs)

pub appends_more : (k k' k'' : Option (List ℕ)) (s t : List ℕ) → Appends k k' s → Appends k' k'' t → Appends k k'' (s ++ t)
appends_more None k' k'' s t a b = tt
appends_more (Some xs) None k'' s t a b = absurd a
appends_more (Some xs) (Some ys) None s t a b = absurd b
appends_more (Some xs) (Some ys) (Some zs) s t a b = b ∙ ap (λ (l : List ℕ). l ++ t) a ∙ append_assoc xs s t

-- ---- trials

-- what is run of an input
abbrev pub trial_of : List ℕ → List ℕ → Ran → Trial
trial_of name input ran = record { name = name; input = input; ran = ran }

pub none_written : (s : Setting) (k : Option (List ℕ)) → WritesLines s [] k k
none_written s k = record { each = All-nil (IsTrial s); text = appends_none k }

pub one_more : (s : Setting) (ts : List Trial) (t : Trial) (k k' k'' : Option (List ℕ)) → WritesLines s ts k k' → IsTrial s t → Appends k' k'' (line_text s t)
    → WritesLines s (ts ++ t ∷ []) k k''
one_more s ts t k k' k'' written is text = record {
  each = All-append (IsTrial s) ts (t ∷ []) written.each (All-cons (IsTrial s) t [] is (All-nil (IsTrial s)));
  text = subst (λ (l : List ℕ). Appends k k'' l)
      (ap (λ (l : List ℕ). flat_map (line_text s) ts ++ l) (sym (append-nil (line_text s t))) ∙ sym (flat_map-append (line_text s) ts (t ∷ [])))
      (appends_more k k' k'' (flat_map (line_text s) ts) (line_text s t) written.text text);
}

-- whether one of them stopped, with one more
or_false : (b : Bool) → b || false ≡ b
or_false true = refl
or_false false = refl

pub stops_more : (ts : List Trial) (t : Trial) (stopped stops : Bool) → stopped ≡ list_any has_stopped ts → stops ≡ has_stopped t → stopped || stops ≡ list_any has_stopped (ts ++ t ∷ [])
stops_more ts t stopped stops before now =
    ap (λ b. b || stops) before ∙ ap (λ b. list_any has_stopped ts || b) (now ∙ sym (or_false (has_stopped t))) ∙ sym (list_any-append has_stopped ts (t ∷ []))

-- ---- lines

lines_more : (k : ℕ) (text : List ℕ) (ts : List Trial) (rest : List ℕ) (t : Trial) → AreFirstLines k text ts rest → IsFirstLine (k + length ts) rest t
    → AreFirstLines k text (ts ++ t ∷ []) (drop_through 10 rest)
lines_more k text [] rest t are first =
    (subst (λ (l : List ℕ). IsFirstLine k l t) are (subst (λ n. IsFirstLine n rest t) (let same : k + 0 ≡ k = omega arith in same) first), ap (drop_through 10) are)
lines_more k text (u ∷ us) rest t are first =
    (are.0, lines_more (k + 1) (drop_through 10 text) us rest t are.1 (subst (λ n. IsFirstLine n rest t) (let same : k + length (u ∷ us) ≡ k + 1 + length us = omega arith in same) first))

-- so many lines are run, and this is left of what the reader had
abbrev pub AreSoFar : Option (List ℕ) → Option (List ℕ) → List Trial → Type 0
AreSoFar had left trials = IfSome had (λ text. (rest : List ℕ) × (left ≡ Some rest) × AreFirstLines 1 text trials rest)

pub record SoFar (s : Setting) (number : ℕ) (had left known known' : Option (List ℕ)) (stopped : Bool) : Type 0 where
  pub trials : List Trial
  pub count : number ≡ length trials + 1
  pub inputs : AreSoFar had left trials
  pub lines : WritesLines s trials known known'
  pub stops : stopped ≡ list_any has_stopped trials

none_so_far : (had : Option (List ℕ)) → AreSoFar had had []
none_so_far None = tt
none_so_far (Some text) = (text, refl, refl)

pub begun : (s : Setting) (had known : Option (List ℕ)) → SoFar s 1 had had known known false
begun s had known = record { trials = []; count = refl; inputs = none_so_far had; lines = none_written s known; stops = refl }

-- the next line of what is left is this
abbrev pub IsLeft : Option (List ℕ) → List ℕ → Option (List ℕ) → Type 0
IsLeft left digits left' = IfSome left (λ text. IsNext text digits left')

next_first : (number : ℕ) (rest digits input : List ℕ) (left' : Option (List ℕ)) (ran : Ran) → IsNext rest digits left' → input_of digits ≡ Some input
    → IsFirstLine number rest (trial_of (decimal number) input ran)
next_first number rest digits input left' ran next is = record { some = next.some; input = ap input_of (sym next.digits) ∙ is; name = refl }

so_far_more : (number : ℕ) (had left left' : Option (List ℕ)) (ts : List Trial) (digits input : List ℕ) (ran : Ran) → number ≡ length ts + 1 → AreSoFar had left ts
    → IsLeft left digits left' → input_of digits ≡ Some input → AreSoFar had left' (ts ++ trial_of (decimal number) input ran ∷ [])
so_far_more number None left left' ts digits input ran count are next is = tt
so_far_more number (Some text) left left' ts digits input ran count are next is =
    let rest = are.0 in
    let at : IsNext rest digits left' = subst (λ (l : Option (List ℕ)). IsLeft l digits left') are.1 next in
    let first = next_first number rest digits input left' ran at is in
    (drop_through 10 rest, at.behind, lines_more 1 text ts rest _ are.2 (subst (λ n. IsFirstLine n rest (trial_of (decimal number) input ran)) (let same : number ≡ 1 + length ts = omega (arith, count) in same) first))

pub next_line : (s : Setting) (number : ℕ) (had left left' known mid known' : Option (List ℕ)) (stopped stops : Bool) (digits : List ℕ) → SoFar s number had left known mid stopped
    → IsLeft left digits left' → RunsLine s number digits mid known' stops → SoFar s (number + 1) had left' known known' (stopped || stops)
next_line s number had left left' known mid known' stopped stops digits so next run =
    let t = trial_of (decimal number) run.input run.line.ran in
    record {
      trials = so.trials ++ t ∷ [];
      count = omega (arith, so.count, length-append so.trials (t ∷ []));
      inputs = so_far_more number had left left' so.trials digits run.input run.line.ran so.count so.inputs next run.is;
      lines = one_more s so.trials t known mid known' so.lines run.line.trial run.line.text;
      stops = stops_more so.trials t stopped stops so.stops run.line.stops;
    }

-- ---- at the end of lines

all_lines : (had left : Option (List ℕ)) (ts : List Trial) → AreSoFar had left ts → IsAtEnd left → AreInputs [] had ts
all_lines None left ts are end = tt
all_lines (Some text) left ts are end =
    let none : are.0 ≡ [] = subst IsAtEnd are.1 end in
    subst (λ (l : List ℕ). AreFirstLines 1 text ts l) none are.2

pub at_end : (s : Setting) (number : ℕ) (had left known known' : Option (List ℕ)) (stopped : Bool) → SoFar s number had left known known' stopped → IsAtEnd left
    → Writes s (AreInputs [] had) known known' stopped
at_end s number had left known known' stopped so end = record { trials = so.trials; inputs = all_lines had left so.trials so.inputs end; lines = so.lines; stops = so.stops }

first_lines : (had left : Option (List ℕ)) (ts : List Trial) → AreSoFar had left ts → BeginInputs [] had ts
first_lines None left ts are = tt
first_lines (Some text) left ts are = record { rest = are.0; lines = are.2 }

-- the lines of the first inputs stand
pub broken_off : (s : Setting) (number : ℕ) (had left known known' : Option (List ℕ)) (stopped : Bool) → SoFar s number had left known known' stopped
    → Begins s (BeginInputs [] had) known known'
broken_off s number had left known known' stopped so = record { trials = so.trials; inputs = first_lines had left so.trials so.inputs; lines = so.lines }

lines_before : (n number : ℕ) (had left left' : Option (List ℕ)) (ts : List Trial) (digits : List ℕ) → number ≡ length ts + 1 → AreSoFar had left ts → IsLeft left digits left'
    → n ≡ number → input_of digits ≡ None → AreBefore n had ts
lines_before n number None left left' ts digits count are next same wrong = tt
lines_before n number (Some text) left left' ts digits count are next same wrong =
    let at : IsNext are.0 digits left' = subst (λ (l : Option (List ℕ)). IsLeft l digits left') are.1 next in
    let refused : IsNoLine are.0 = record { some = at.some; input = ap input_of (sym at.digits) ∙ wrong } in
    record { rest = are.0; lines = are.2; refused = refused; number = same ∙ count }

-- a line that is no input stands behind them
pub refused_there : (s : Setting) (n number : ℕ) (had left left' known known' : Option (List ℕ)) (stopped : Bool) (digits : List ℕ) → SoFar s number had left known known' stopped
    → IsLeft left digits left' → n ≡ number → input_of digits ≡ None → Begins s (AreBefore n had) known known'
refused_there s n number had left left' known known' stopped digits so next same wrong =
    record { trials = so.trials; inputs = lines_before n number had left left' so.trials digits so.count so.inputs next same wrong; lines = so.lines }

-- ---- whether a guest has stopped by now

pub when_stops : (before stops now : Bool) → now ≡ true → stops ≡ true → now ≡ before || stops
when_stops before stops now is it = is ∙ sym (ap (λ b. before || b) it ∙ or_true before)
  where
    or_true : (b : Bool) → b || true ≡ true
    or_true true = refl
    or_true false = refl

pub when_not : (before stops now : Bool) → now ≡ before → stops ≡ false → now ≡ before || stops
when_not before stops now is it = is ∙ sym (ap (λ b. before || b) it ∙ or_false before)

-- ---- files

-- the files before this index are run
pub record FilesSoFar (s : Setting) (files : List InputFile) (index : ℕ) (known known' : Option (List ℕ)) (stopped : Bool) : Type 0 where
  pub trials : List Trial
  pub names : AreFiles (take index files) trials
  pub lines : WritesLines s trials known known'
  pub stops : stopped ≡ list_any has_stopped trials

pub no_files : (s : Setting) (files : List InputFile) (known : Option (List ℕ)) → FilesSoFar s files 0 known known false
no_files s files known = record { trials = []; names = refl; lines = none_written s known; stops = refl }

abbrev pub name_in : Trial → List ℕ
name_in t = t.name

pub next_file : (s : Setting) (files : List InputFile) (index : ℕ) (d : InputFile) (input : List ℕ) (known mid known' : Option (List ℕ)) (stopped stops : Bool)
    → FilesSoFar s files index known mid stopped → index < length files → WritesLine s (name_of (get_or files index d)) input mid known' stops
    → FilesSoFar s files (index + 1) known known' (stopped || stops)
next_file s files index d input known mid known' stopped stops so inside run =
    let t = trial_of (name_of (get_or files index d)) input run.ran in
    record {
      trials = so.trials ++ t ∷ [];
      names = map-append name_in so.trials (t ∷ []) ∙ ap (λ (l : List (List ℕ)). l ++ name_of (get_or files index d) ∷ []) so.names
          ∙ sym (ap (map name_of) (take_more files index d inside) ∙ map-append name_of (take index files) (get_or files index d ∷ []));
      lines = one_more s so.trials t known mid known' so.lines run.trial run.text;
      stops = stops_more so.trials t stopped stops so.stops run.stops;
    }

pub all_files : (s : Setting) (files : List InputFile) (index : ℕ) (known known' : Option (List ℕ)) (stopped : Bool) → FilesSoFar s files index known known' stopped
    → length files ≤ index → Writes s (AreFiles files) known known' stopped
all_files s files index known known' stopped so past =
    record { trials = so.trials; inputs = subst (λ (l : List InputFile). AreFiles l so.trials) (take_all index files past) so.names; lines = so.lines; stops = so.stops }

pub first_files : (s : Setting) (files : List InputFile) (index : ℕ) (known known' : Option (List ℕ)) (stopped : Bool) → FilesSoFar s files index known known' stopped
    → Begins s (BeginFiles files) known known'
first_files s files index known known' stopped so = record {
  trials = so.trials;
  inputs = record {
    rest = map name_of (drop index files);
    names = ap (map name_of) (sym (take-append-drop index files)) ∙ map-append name_of (take index files) (drop index files)
        ∙ ap (λ (l : List (List ℕ)). l ++ map name_of (drop index files)) (sym so.names);
  };
  lines = so.lines;
}

-- ---- an order

-- a reader that has read nothing ahead has what the one behind it has
pub nothing_ahead : (k : Option (List ℕ)) → prepend_known [] k ≡ k
nothing_ahead None = refl
nothing_ahead (Some xs) = refl

-- inputs that are some files, or the first of them
pub of_all_files : (s : Setting) (files : List InputFile) (had known known' : Option (List ℕ)) (stopped : Bool) → (files ≡ [] → ⊥) → Writes s (AreFiles files) known known' stopped
    → Writes s (AreInputs files had) known known' stopped
of_all_files s [] had known known' stopped some writes = absurd (some refl)
of_all_files s (f ∷ fs) had known known' stopped some writes = writes

pub of_first_files : (s : Setting) (files : List InputFile) (had known known' : Option (List ℕ)) → (files ≡ [] → ⊥) → Begins s (BeginFiles files) known known'
    → Begins s (BeginInputs files had) known known'
of_first_files s [] had known known' some begins = absurd (some refl)
of_first_files s (f ∷ fs) had known known' some begins = begins

-- ---- errors that are passed on

-- what is so of each error of a result
pub each_err : {X E : Type 0} (r : Result X E) (Q : E → Type 0) (P : Type 0) → P → IfErr r (λ e. Q e → P)
each_err (Ok x) Q P p = tt
each_err (Err e) Q P p = λ q. p

-- what is so of a value or an error follows from what is so of it
pub each_ok : {X E : Type 0} (r : Result X E) (P Q : X → Type 0) → IfOk r P → ((x : X) → P x → Q x) → IfOk r Q
each_ok (Ok x) P Q is more = more x is
each_ok (Err e) P Q is more = tt

pub each_error : {X E : Type 0} (r : Result X E) (A : E → Type 0) (P Q : Type 0) → IfErr r (λ e. A e → P) → (P → Q) → IfErr r (λ e. A e → Q)
each_error (Ok x) A P Q is more = tt
each_error (Err e) A P Q is more = λ a. more (is a)

-- what is so of an error is so of the one that it is passed on as
pub passed_err : {X E : Type 0} (r : Result X E) (e : E) (Q : E → Type 0) (P : Type 0) → IsErrAnd r (λ x. x ≡ e) → (Q e → P) → IfErr r (λ x. Q x → P)
passed_err (Ok x) e Q P is so = absurd is
passed_err (Err x) e Q P is so = λ q. so (subst Q is q)

abbrev pub err_or : {X E : Type 0} → E → Result X E → E
err_or d (Ok x) = d
err_or d (Err e) = e

-- where an error that was passed on is this one, it was before
pub passed_of : {X E : Type 0} (r : Result X E) (e v : E) → IsErrAnd r (λ x. x ≡ e) → IsErrOf r v → e ≡ v
passed_of (Ok x) e v is of = absurd is
passed_of (Err x) e v is of = sym is ∙ ap (err_or e) of

pub line_is_not_output : (n : ℕ) → Line n ≡ Output → ⊥
line_is_not_output n same = cc

-- ---- a file of an input

-- where no more than this was read, it is all that there is
held_whole : (limit : ℕ) (all before got : List ℕ) → limit ≡ 257 → before ≡ [] → got ≡ before ++ take limit all → length got ≤ 256 → got ≡ all
held_whole limit all before got a b e l = grind (arith, length-take, take_all)

held : (limit : ℕ) (file : Option (List ℕ)) (before got : List ℕ) → limit ≡ 257 → before ≡ [] → IfSome (option_map (take limit) file) (λ xs. got ≡ before ++ xs) → IfSome file (λ all. length got ≤ 256 → got ≡ all)
held limit None before got a b e = tt
held limit (Some all) before got a b e = held_whole limit all before got a b e

pub held_input : (limit : ℕ) (file inner : Option (List ℕ)) (before got : List ℕ) → inner ≡ file → limit ≡ 257 → before ≡ [] → IfSome (option_map (take limit) inner) (λ xs. got ≡ before ++ xs)
    → IfSome file (λ all. length got ≤ 256 → got ≡ all)
held_input limit file inner before got i a b e =
    let P : Option (List ℕ) → Type 0 = λ o. IfSome o (λ all. length got ≤ 256 → got ≡ all) in
    subst P i (held limit inner before got a b e)
