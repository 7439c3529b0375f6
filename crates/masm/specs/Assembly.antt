-- The listing that a text means, or its first fault.
use Rattle.std.specs.Prelude.{◌≡◌, ℕ, ◌+◌, false, if◌then◌else◌, List, [], ◌∷◌, map, Option, Result, Ok, Err}
use Rattle.std.specs.Str.Lines.{lines}
use Rattle.std.specs.Result.{result_err}
use Rattle.masm_lines.specs.Grammar.{Line, line_of}
use Rattle.masm.specs.Places.{Layout, first_layout, next_address, after_statement, has_misplaced}
use Rattle.masm.specs.Names.{Names, with_label, is_double}
use Rattle.masm.specs.Listings.{Output, first_output, with_statement, Listing, listing_of}
use Rattle.masm_lines.specs.Steps.{◌>>=◌}
use Rattle.masm_lines.specs.declared.fault.AsmFault.{AsmFault}
use Rattle.masm_lines.specs.declared.fault.AsmFault.TheVariants as fault

-- a fault with its line, counted from 1; 0 is no line
abbrev pub Located : Type 0 → Type 0
Located A = Result A (AsmFault × ℕ)

abbrev pub at_line : {A : Type 0} → ℕ → Result A AsmFault → Located A
at_line number (Ok a) = Ok a
at_line number (Err f) = Err (f, number)

-- a pass over lines, the first of which has a number: what it makes of them one after the other, or the first line with a
-- fault
abbrev pub over_lines : {S : Type 0} → (S → List ℕ → Result S AsmFault) → ℕ → S → List (List ℕ) → Located S
over_lines step number s [] = Ok s
over_lines step number s (line ∷ more) = at_line number (step s line) >>= λ t. over_lines step (number + 1) t more

-- the names so far, and where the next line stands
pub record Reading : Type 0 where
  pub names : Names
  pub layout : Layout

abbrev pub first_reading : Reading
first_reading = record { names = []; layout = first_layout }

-- a line in its place: a label stands where its line does, so on an `.org` line before the new segment
abbrev pub after_line : Reading → Line → Reading
after_line r line = record { names = with_label r.names line.label (next_address r.layout); layout = after_statement r.layout line.statement }

abbrev pub placed : Reading → Line → Result Reading AsmFault
placed r line =
    if is_double r.names line.label then Err fault.DoubleName
    else if has_misplaced r.layout line.statement then Err fault.Place
    else Ok (after_line r line)

-- the first pass: the grammar, the names and the places
unfoldable pub first_step : Reading → List ℕ → Result Reading AsmFault
first_step r line = line_of line >>= placed r

unfoldable pub first_pass : List (List ℕ) → Located Reading
first_pass source = over_lines first_step 1 first_reading source

-- the second pass: what each statement means, now that all names are known
unfoldable pub second_step : Names → Output → List ℕ → Result Output AsmFault
second_step names o line = line_of line >>= λ read. with_statement names o read.statement

unfoldable pub second_pass : List (List ℕ) → Names → Located Output
second_pass source names = over_lines (second_step names) 1 first_output source

-- the faults of the first pass come before those of the second, and those before the faults of the whole
unfoldable pub assembly_of : List (List ℕ) → Located Listing
assembly_of source = first_pass source >>= λ r. second_pass source r.names >>= λ o. at_line 0 (listing_of o)

-- the listing of a text, or its first fault with its line
abbrev pub assembly : List ℕ → Located Listing
assembly text = assembly_of (lines text)

-- the fault of a text that means nothing
abbrev pub first_fault : List ℕ → Option (AsmFault × ℕ)
first_fault text = result_err (assembly text)

-- the labels of lines, each with the address at which its line stands
abbrev pub labels_from : Layout → Names → List Line → Names
labels_from layout names [] = names
labels_from layout names (line ∷ more) = labels_from (after_statement layout line.statement) (with_label names line.label (next_address layout)) more

-- no label is an earlier line's
abbrev pub AreApart : Layout → Names → List Line → Type 0
AreApart layout names [] = Unit {0}
AreApart layout names (line ∷ more) =
    (is_double names line.label ≡ false)
    × AreApart (after_statement layout line.statement) (with_label names line.label (next_address layout)) more

-- each statement may stand at its place
abbrev pub ArePlaced : Layout → List Line → Type 0
ArePlaced layout [] = Unit {0}
ArePlaced layout (line ∷ more) = (has_misplaced layout line.statement ≡ false) × ArePlaced (after_statement layout line.statement) more

-- the lines put this output, one statement after the other
abbrev pub Puts : Names → Output → List Line → Output → Type 0
Puts names before [] after = before ≡ after
Puts names before (line ∷ more) after = (between : Output) × (with_statement names before line.statement ≡ Ok between) × Puts names between more after

-- A text means a listing: a map from names to addresses exists under which each line, read by the grammar, puts its
-- instruction or data at its place.
pub record Means (text : List ℕ) (listing : Listing) : Type 0 where
  pub program : List Line
  pub names : Names
  pub output : Output
  pub grammar : map line_of (lines text) ≡ map (λ line. Ok line) program
  pub labels : names ≡ labels_from first_layout [] program
  pub apart : AreApart first_layout [] program
  pub places : ArePlaced first_layout program
  pub items : Puts names first_output program output
  pub whole : listing_of output ≡ Ok listing
