-- The events that are read are allowed by the header, line after line.
use Rattle.std.proofs.Common.{◌≡◌, ℕ, zero, suc, ◌+◌, List, [], ◌∷◌, ◌++◌, refl, arith, sym, ◌∙◌, ap, subst, Bool, true, false, Result, Ok, Err, Option, Some, None}
use Rattle.std.specs.Prelude.{IfOk, option_map, if◌then◌else◌, length, ◌==◌, ◌&&◌}
use Rattle.std.specs.List.{list_all}
use Rattle.std.specs.Str.Lines.{lines}
use Rattle.std.proofs.lemmas.Bool.Decides.{nat_tests}
use Rattle.std.proofs.lemmas.List.Folds.{list_all-append}
use Rattle.script.specs.Steps.{◌>>=◌}
use Rattle.script.specs.Words.{is_skipped}
use Rattle.script.specs.Headers.{Draft, Header, Part, header_of, with_part}
use Rattle.script.specs.Actions.{Action, ActionLine, Block}
use Rattle.script.specs.Allowed.{allows, allows_block, allows_lines}
use Rattle.script.specs.Statements.{Statement, OfHeader, OfAction, OfRepeat, OfEnd, statement_of}
use Rattle.script.specs.Views.{script_view}
use Rattle.script.specs.declared.error.ScriptError.{ScriptError}
use Rattle.script.specs.declared.header.Script.{Script as ScriptCode}
use Rattle.script.specs.Scripts.{Reading, first_reading, Script, with_header_line, with_action, with_block, with_repeat, with_end, with_statement, after_line, script_in, script_from, script_of, at_line}
use Rattle.script.proofs.Drafts.{line_more}

-- the header, once it is whole, allows what the lines so far say is done
record IsAllowed (header : Header) (r : Reading) : Type 0 where
  pub blocks : list_all (allows_block header) r.blocks ≡ true
  pub lines : allows_lines header r.block.lines ≡ true

abbrev AreAllowed : Reading → Type 0
AreAllowed r = (header : Header) → header_of r.header ≡ Some header → IsAllowed header r

same_of_some : {A : Type 0} (a b : A) → Some a ≡ Some b → a ≡ b
same_of_some a b e = cc

one_more : {A : Type 0} (p : A → Bool) (xs : List A) (x : A) → list_all p xs ≡ true → p x ≡ true → list_all p (xs ++ x ∷ []) ≡ true
one_more p xs x all one = rw (list_all-append p xs (x ∷ []), all, one) refl

-- a line of the header, where nothing is done yet
both_hold : {A : Type 0} (a b : Bool) (found : Option A) (next : A) → (if a && b then found else None) ≡ Some next → (a ≡ true) × (b ≡ true)
both_hold true true found next e = (refl, refl)
both_hold true false found next e = absurd (cc)
both_hold false true found next e = absurd (cc)
both_hold false false found next e = absurd (cc)

some_there : (n : ℕ) → (suc n == 0) ≡ true → ⊥
some_there n e = let none : (suc n == 0) ≡ false = grind (arith, nat_tests) in absurd (cc)

-- what the lines have said, where the header has one more
abbrev header_more : List Block → ℕ → List ActionLine → Bool → Draft → Reading
header_more blocks times ls repeats header = record { header = header; blocks = blocks; block = record { times = times; lines = ls }; repeats = repeats }

by_header : (blocks : List Block) (times : ℕ) (ls : List ActionLine) (repeats : Bool) (found : Option Draft) (next : Reading)
    → (if length blocks == 0 && length ls == 0 then option_map (header_more blocks times ls repeats) found else None) ≡ Some next → AreAllowed next
by_header [] times [] repeats None next e = absurd (cc)
by_header [] times [] repeats (Some d) next e = subst AreAllowed (same_of_some _ next e) (λ header whole. record { blocks = refl; lines = refl })
by_header [] times (x ∷ xs) repeats found next e =
    absurd (some_there (length xs) (both_hold true (length (x ∷ xs) == 0) (option_map (header_more [] times (x ∷ xs) repeats) found) next e).1)
by_header (b ∷ bs) times ls repeats found next e =
    absurd (some_there (length bs) (both_hold (length (b ∷ bs) == 0) (length ls == 0) (option_map (header_more (b ∷ bs) times ls repeats) found) next e).0)

by_action : (number : ℕ) (r : Reading) (action : Action) (next : Reading) (header : Header) (b : Bool) → allows header action ≡ b → header_of r.header ≡ Some header → AreAllowed r
    → (if b then Some (line_more number r action) else None) ≡ Some next → AreAllowed next
by_action number r action next header true holds is so_far e =
    subst AreAllowed (same_of_some _ next e)
    (λ whole found. subst (λ (h : Header). IsAllowed h (line_more number r action)) (same_of_some header whole (sym is ∙ found)) (record {
      blocks = (so_far header is).blocks;
      lines = one_more (λ (line : ActionLine). allows header line.action) r.block.lines (record { number = number; action = action }) (so_far header is).lines holds;
    }))
by_action number r action next header false holds is so_far e = absurd (cc)

by_whole : (number : ℕ) (r : Reading) (action : Action) (next : Reading) (whole : Option Header) → header_of r.header ≡ whole → AreAllowed r
    → (whole >>= λ header. (if allows header action then Some (line_more number r action) else None)) ≡ Some next → AreAllowed next
by_whole number r action next None is so_far e = absurd (cc)
by_whole number r action next (Some header) is so_far e = by_action number r action next header (allows header action) refl is so_far e

-- the block so far is put behind the others
block_allowed : (r : Reading) (times : ℕ) (repeats : Bool) → AreAllowed r → AreAllowed (with_block r times repeats)
block_allowed r times repeats so_far = λ header whole. record {
  blocks = one_more (allows_block header) r.blocks r.block (so_far header whole).blocks (so_far header whole).lines;
  lines = refl;
}

by_repeat : (r next : Reading) (times : ℕ) (b : Bool) (whole : Option Header) → AreAllowed r
    → (if b then None else (whole >>= λ header. Some (with_block r times true))) ≡ Some next → AreAllowed next
by_repeat r next times true whole so_far e = absurd (cc)
by_repeat r next times false None so_far e = absurd (cc)
by_repeat r next times false (Some header) so_far e = subst AreAllowed (same_of_some _ next e) (block_allowed r times true so_far)

by_end : (r next : Reading) (b : Bool) → AreAllowed r → (if b then Some (with_block r 1 false) else None) ≡ Some next → AreAllowed next
by_end r next true so_far e = subst AreAllowed (same_of_some _ next e) (block_allowed r 1 false so_far)
by_end r next false so_far e = absurd (cc)

by_statement : (number : ℕ) (r next : Reading) (found : Option Statement) → AreAllowed r → (found >>= with_statement number r) ≡ Some next → AreAllowed next
unfolding with_statement with_header_line with_action with_repeat with_end
by_statement number r next None so_far e = absurd (cc)
by_statement number r next (Some (OfHeader part)) so_far e = by_header r.blocks r.block.times r.block.lines r.repeats (with_part r.header part) next e
by_statement number r next (Some (OfAction action)) so_far e = by_whole number r action next (header_of r.header) refl so_far e
by_statement number r next (Some (OfRepeat times)) so_far e = by_repeat r next times r.repeats (header_of r.header) so_far e
by_statement number r next (Some OfEnd) so_far e = by_end r next r.repeats so_far e

by_line : (number : ℕ) (r next : Reading) (b : Bool) (found : Option Statement) → AreAllowed r → (if b then Some r else (found >>= with_statement number r)) ≡ Some next → AreAllowed next
by_line number r next true found so_far e = subst AreAllowed (same_of_some r next e) so_far
by_line number r next false found so_far e = by_statement number r next found so_far e

after : (number : ℕ) (r next : Reading) (line : List ℕ) → AreAllowed r → after_line number r line ≡ Some next → AreAllowed next
unfolding after_line
after number r next line so_far e = by_line number r next (is_skipped line) (statement_of line) so_far e

-- what a script's header allows
abbrev pub IsAllowedScript : Script → Type 0
IsAllowedScript script = list_all (allows_block script.header) script.blocks ≡ true

at_end : (n : ℕ) (r : Reading) (script : Script) (b : Bool) (whole : Option Header) → header_of r.header ≡ whole → AreAllowed r
    → at_line n (if b then None else option_map (λ (header : Header). let s : Script = record { header = header; blocks = r.blocks ++ r.block ∷ [] } in s) whole) Ok ≡ Ok script → IsAllowedScript script
at_end n r script true whole is so_far e = absurd (cc)
at_end n r script false None is so_far e = absurd (cc)
at_end n r script false (Some header) is so_far e =
    subst IsAllowedScript (same_of_ok _ script e) (one_more (allows_block header) r.blocks r.block (so_far header is).blocks (so_far header is).lines)
  where
    same_of_ok : (a b : Script) → (let r : Result Script ℕ = Ok a in r) ≡ Ok b → a ≡ b
    same_of_ok a b e = cc

by_next : (n : ℕ) (script : Script) (later : Reading → Result Script ℕ) (found : Option Reading) → ((next : Reading) → found ≡ Some next → later next ≡ Ok script → IsAllowedScript script)
    → at_line n found later ≡ Ok script → IsAllowedScript script
by_next n script later None told e = absurd (cc)
by_next n script later (Some next) told e = told next refl e

from : (n : ℕ) (r : Reading) (rest : List (List ℕ)) (script : Script) → AreAllowed r → script_from n r rest ≡ Ok script → IsAllowedScript script
unfolding script_in
from n r [] script so_far e = at_end n r script r.repeats (header_of r.header) refl so_far e
from n r (line ∷ more) script so_far e =
    by_next n script (λ next. script_from (n + 1) next more) (after_line n r line) (λ next is h. from (n + 1) next more script (after n r next line so_far is) h) e

pub each_is_allowed : (text : List ℕ) (script : Script) → script_of text ≡ Ok script → list_all (allows_block script.header) script.blocks ≡ true
unfolding script_of
each_is_allowed text script e = from 1 first_reading (lines text) script (λ header whole. record { blocks = refl; lines = refl }) e

-- the same of the code's answer
pub allowed_told : (text : List ℕ) (r : Result ScriptCode ScriptError) → IfOk r (λ script. script_of text ≡ Ok (script_view script))
    → IfOk r (λ script. list_all (allows_block (script_view script).header) (script_view script).blocks ≡ true)
allowed_told text (Ok script) h = each_is_allowed text (script_view script) h
allowed_told text (Err e) h = tt
