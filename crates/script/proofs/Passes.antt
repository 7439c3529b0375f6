-- A pass over lines, one line at a time.
use Rattle.std.proofs.Common.{◌≡◌, ℕ, ◌+◌, ◌<◌, List, [], get_or, drop, length, drop-cons, refl, ◌∙◌, sym, ap, add-one, Result, Ok, Err, Option, Some, None}
use Rattle.std.specs.Prelude.{IfOk, IfErr, IfSome}
use Rattle.std.specs.Str.Lines.{lines}
use Rattle.script.specs.Answers.{Answers, Gives, line_in}
use Rattle.script.specs.Scripts.{Reading, first_reading, after_line, script_from, script_of, at_line}
use Rattle.script.specs.Views.{script_view}
use Rattle.script.specs.declared.error.LineError.{LineError}
use Rattle.script.specs.declared.error.LineError.TheVariants as error
use Rattle.script.specs.declared.error.ScriptError.{ScriptError}
use Rattle.script.specs.declared.error.ScriptError.TheVariants as whole
use Rattle.script.specs.declared.header.Script.{Script as ScriptCode}

-- a pass from a line on, by that line and the next
pub by_line : (n : ℕ) (r : Reading) (lines : List (List ℕ)) (i : ℕ) → i < length lines → script_from n r (drop i lines) ≡ at_line n (after_line n r (get_or lines i [])) (λ next. script_from (n + 1) next (drop (i + 1) lines))
by_line n r lines i h = rw (drop-cons lines i [] h, add-one i)

pub line_taken : (n : ℕ) (r next : Reading) (lines : List (List ℕ)) (i : ℕ) → i < length lines → after_line n r (get_or lines i []) ≡ Some next → script_from n r (drop i lines) ≡ script_from (n + 1) next (drop (i + 1) lines)
line_taken n r next lines i h taken = by_line n r lines i h ∙ ap (λ (o : Option Reading). at_line n o (λ u. script_from (n + 1) u (drop (i + 1) lines))) taken

pub line_refused : (n : ℕ) (r : Reading) (lines : List (List ℕ)) (i : ℕ) → i < length lines → after_line n r (get_or lines i []) ≡ None → script_from n r (drop i lines) ≡ Err n
line_refused n r lines i h refused = by_line n r lines i h ∙ ap (λ (o : Option Reading). at_line n o (λ u. script_from (n + 1) u (drop (i + 1) lines))) refused

-- an answer that refuses a line
pub refused_line : (after : Reading) (e : LineError) (found : Option Reading) → e ≡ error.Refused → Answers {B = Unit {0}} (λ done. after) (Err e) found → found ≡ None
refused_line after error.Refused found is h = h
refused_line after error.Memory found is h = absurd (cc)

-- the answer of a whole text, by what it is
pub script_told : (text : List ℕ) (source : List (List ℕ)) (r : Result ScriptCode ScriptError) → source ≡ lines text → Gives script_view r (script_from 1 first_reading source) → IfOk r (λ script. script_of text ≡ Ok (script_view script))
unfolding script_of
script_told text source (Ok script) same h = ap (script_from 1 first_reading) (sym same) ∙ h
script_told text source (Err e) same h = tt

pub line_told : (text : List ℕ) (source : List (List ℕ)) (r : Result ScriptCode ScriptError) → source ≡ lines text → Gives script_view r (script_from 1 first_reading source) → IfErr r (λ e. IfSome (line_in e) (λ line. script_of text ≡ Err line))
unfolding script_of
line_told text source (Ok script) same h = tt
line_told text source (Err (whole.Line line)) same h = ap (script_from 1 first_reading) (sym same) ∙ h
line_told text source (Err whole.Memory) same h = tt
