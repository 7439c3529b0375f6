-- What a script means, or its first line that is refused.
use Rattle.std.specs.Prelude.{ℕ, Bool, true, false, ◌+◌, ◌==◌, ◌&&◌, ◌++◌, if◌then◌else◌, List, [], ◌∷◌, length, Option, Some, None, option_map, Result, Ok, Err}
use Rattle.std.specs.Str.Lines.{lines}
use Rattle.script.specs.Steps.{◌>>=◌}
use Rattle.script.specs.Words.{is_skipped}
use Rattle.script.specs.Actions.{Action, ActionLine, Block}
use Rattle.script.specs.Headers.{Draft, first_draft, Part, with_part, Header, header_of}
use Rattle.script.specs.Allowed.{allows}
use Rattle.script.specs.Statements.{Statement, OfHeader, OfAction, OfRepeat, OfEnd, statement_of}

pub record Script : Type 0 where
  pub header : Header
  pub blocks : List Block

-- What the lines so far have said: the blocks that are whole, the one that lines are put into, and whether that is one of a `repeat`.
pub record Reading : Type 0 where
  pub header : Draft
  pub blocks : List Block
  pub block : Block
  pub repeats : Bool

-- the block of lines that are done so many times, as it begins
abbrev pub first_block : ℕ → Block
first_block times = record { times = times; lines = [] }

abbrev pub first_reading : Reading
first_reading = record { header = first_draft; blocks = []; block = first_block 1; repeats = false }

-- a line of the header stands before the first event and the first `repeat`
unfoldable pub with_header_line : Reading → Part → Option Reading
with_header_line r part =
    if length r.blocks == 0 && length r.block.lines == 0
    then option_map (λ header. record r { header = header }) (with_part r.header part) else None

-- what is done stands behind a whole header, which allows it
unfoldable pub with_action : ℕ → Reading → Action → Option Reading
with_action number r action =
    header_of r.header
    >>= λ header. (
    if allows header action
    then Some (record r { block = record r.block { lines = r.block.lines ++ record { number = number; action = action } ∷ [] } })
    else None
    )

-- the block that lines are put into is whole, and the next begins
abbrev pub with_block : Reading → ℕ → Bool → Reading
with_block r times repeats = record r { blocks = r.blocks ++ r.block ∷ []; block = first_block times; repeats = repeats }

-- a `repeat` stands behind a whole header, and within no other
unfoldable pub with_repeat : Reading → ℕ → Option Reading
with_repeat r times = if r.repeats then None else (header_of r.header >>= λ header. Some (with_block r times true))

-- an `end` ends a `repeat`
unfoldable pub with_end : Reading → Option Reading
with_end r = if r.repeats then Some (with_block r 1 false) else None

unfoldable pub with_statement : ℕ → Reading → Statement → Option Reading
with_statement number r (OfHeader part) = with_header_line r part
with_statement number r (OfAction action) = with_action number r action
with_statement number r (OfRepeat times) = with_repeat r times
with_statement number r OfEnd = with_end r

-- what the lines have said, with the line of this number
unfoldable pub after_line : ℕ → Reading → List ℕ → Option Reading
after_line number r line = if is_skipped line then Some r else (statement_of line >>= with_statement number r)

-- what the lines have said, if the header is whole and each `repeat` has its `end`
unfoldable pub script_in : Reading → Option Script
script_in r =
    if r.repeats then None
    else option_map (λ header. record { header = header; blocks = r.blocks ++ r.block ∷ [] }) (header_of r.header)

-- what is made of a step's answer at a line: the next step, or the line's number
abbrev pub at_line : {A B : Type 0} → ℕ → Option A → (A → Result B ℕ) → Result B ℕ
at_line number None next = Err number
at_line number (Some a) next = next a

-- the script of the lines from one on, which has this number; else the number of the first that is refused. A header that
-- isn't whole at the end, or a `repeat` without its `end`, is refused at the line after the last.
abbrev pub script_from : ℕ → Reading → List (List ℕ) → Result Script ℕ
script_from number r [] = at_line number (script_in r) Ok
script_from number r (line ∷ more) = at_line number (after_line number r line) (λ next. script_from (number + 1) next more)

-- lines count from 1
unfoldable pub script_of : List ℕ → Result Script ℕ
script_of text = script_from 1 first_reading (lines text)
