-- Texts in quotes.
use Rattle.std.specs.Prelude.{ℕ, Bool, true, false, nat_lt, ◌==◌, if◌then◌else◌, List, [], ◌∷◌, ◌++◌, length, Option, Some, None, option_map, Result, Ok, Err}
use Rattle.masm_lines.specs.Characters.{is_quote, is_backslash}
use Rattle.masm_lines.specs.Limits.{longest}
use Rattle.masm_lines.specs.Operands.{both, match_option}
use Rattle.masm_lines.specs.Statements.{Statement, Data}
use Rattle.masm_lines.specs.declared.fault.AsmFault.{AsmFault}
use Rattle.masm_lines.specs.declared.fault.AsmFault.TheVariants as fault

-- the byte for which a character behind a backslash stands: of `n`, `t`, `r`, `0`, a backslash and a quote
abbrev pub escaped : ℕ → Option ℕ
escaped c =
    if c == 110 then Some 10 else if c == 116 then Some 9 else if c == 114 then Some 13 else if c == 48 then Some 0
    else if c == 92 then Some 92 else if c == 34 then Some 34 else None

abbrev pub prepend : ℕ → List ℕ → List ℕ
prepend byte bytes = byte ∷ bytes

-- the bytes up to the quote that ends a text, behind which nothing stands
abbrev pub quoted : List ℕ → Option (List ℕ)
quoted [] = None
quoted (c ∷ []) = if is_quote c then Some [] else None
quoted (c ∷ d ∷ cs) =
    if is_quote c then None
    else if is_backslash c then both prepend (escaped d) (quoted cs)
    else option_map (prepend c) (quoted (d ∷ cs))

abbrev pub with_rest : List ℕ → ℕ → ℕ × List ℕ
with_rest rest byte = (byte, rest)

-- the first byte, and what is written behind it; none at a quote, at the end, and where no byte is written so
abbrev pub next_byte : List ℕ → Option (ℕ × List ℕ)
next_byte [] = None
next_byte (c ∷ []) = if is_quote c then None else if is_backslash c then None else Some (c, [])
next_byte (c ∷ d ∷ cs) =
    if is_quote c then None
    else if is_backslash c then option_map (with_rest cs) (escaped d)
    else Some (c, d ∷ cs)

-- the bytes, where a quote ends them
abbrev pub bytes_in : List ℕ → List ℕ
bytes_in text = match_option (quoted text) [] (λ bytes. bytes)

-- the bytes of a text in quotes
abbrev pub text_of : List ℕ → Option (List ℕ)
text_of [] = None
text_of (c ∷ cs) = if is_quote c then quoted cs else None

-- with a zero behind it, or not
abbrev pub ended : Bool → List ℕ → List ℕ
ended true bytes = bytes ++ 0 ∷ []
ended false bytes = bytes

unfoldable pub text_statement : Bool → List ℕ → Result Statement AsmFault
text_statement zero text =
    if nat_lt longest (length text) then Err fault.Operand
    else match_option (text_of text) (Err fault.Operand) (λ bytes. Ok (Data 1 (ended zero bytes)))
