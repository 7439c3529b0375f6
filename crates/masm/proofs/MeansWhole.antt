-- A text that means a listing is assembled to it.
use Rattle.std.proofs.Common.{◌≡◌, ℕ, ◌+◌, ◌↔◌, Bool, false, if◌then◌else◌, List, [], ◌∷◌, map, refl, ◌∙◌, sym, ap, None, Result, Ok, Err}
use Rattle.std.specs.Result.{result_err}
use Rattle.std.specs.Str.Lines.{lines}
use Rattle.masm.specs.Assembly.{Reading, Located, over_lines, at_line, first_step, first_reading, first_pass, second_step, second_pass, placed, after_line, assembly, assembly_of, first_fault, labels_from, AreApart, ArePlaced, Puts, Means}
use Rattle.masm.specs.Listings.{Output, Listing, first_output}
use Rattle.masm.specs.Names.{Names, is_double}
use Rattle.masm.specs.Places.{has_misplaced}
use Rattle.masm_lines.specs.Grammar.{Line, line_of}
use Rattle.masm_lines.specs.Steps.{◌>>=◌}
use Rattle.masm_lines.specs.declared.fault.AsmFault.{AsmFault}
use Rattle.masm_lines.specs.declared.fault.AsmFault.TheVariants as fault
use Rattle.masm.proofs.OutputMeans.{means}
use Rattle.masm.proofs.OutputRoom.{second_of}
use Rattle.masm.proofs.OutputWhole.{from_lines, from_lines_is, behind_is}

abbrev read_as : Line → Result Line AsmFault
read_as line = Ok line

abbrev both_tests : Bool → Bool → Reading → Result Reading AsmFault
both_tests double misplaced next = if double then Err fault.DoubleName else if misplaced then Err fault.Place else Ok next

tested : (double misplaced : Bool) (next : Reading) → double ≡ false → misplaced ≡ false → both_tests double misplaced next ≡ Ok next
tested double misplaced next d m = rw (d, m) refl

-- a line whose label is new and whose statement may stand at its place is taken
first_taken : (before : Reading) (text : List ℕ) (line : Line) → line_of text ≡ Ok line → is_double before.names line.label ≡ false → has_misplaced before.layout line.statement ≡ false → first_step before text ≡ Ok (after_line before line)
unfolding first_step
first_taken before text line reads apart place =
    ap (λ (r : Result Line AsmFault). r >>= placed before) reads ∙ tested (is_double before.names line.label) (has_misplaced before.layout line.statement) (after_line before line) apart place

-- a line that is taken leads on
goes_on : {S : Type 0} (step : S → List ℕ → Result S AsmFault) (n : ℕ) (s t : S) (text : List ℕ) (more : List (List ℕ)) → step s text ≡ Ok t → over_lines step n s (text ∷ more) ≡ over_lines step (n + 1) t more
goes_on step n s t text more taken = ap (λ r. at_line n r >>= λ u. over_lines step (n + 1) u more) taken

-- the first pass takes lines that are apart and placed, and knows their labels
first_goes : (source : List (List ℕ)) (program : List Line) (n : ℕ) (before : Reading) → map line_of source ≡ map (λ (line : Line). read_as line) program → AreApart before.layout before.names program → ArePlaced before.layout program
    → (after : Reading) × (over_lines first_step n before source ≡ Ok after) × (after.names ≡ labels_from before.layout before.names program)
first_goes [] [] n before g apart places = (before, refl, refl)
first_goes [] (l ∷ ls) n before g apart places = absurd (cc)
first_goes (text ∷ more) [] n before g apart places = absurd (cc)
first_goes (text ∷ more) (l ∷ ls) n before g apart places =
    let reads : line_of text ≡ Ok l = cc in
    let rest : map line_of more ≡ map (λ (line : Line). read_as line) ls = cc in
    let next = first_goes more ls (n + 1) (after_line before l) rest apart.1 places.1 in
    (next.0, goes_on first_step n before (after_line before l) text more (first_taken before text l reads apart.0 places.0) ∙ next.1, next.2)

-- the second pass puts what they put
second_goes : (known : Names) (source : List (List ℕ)) (program : List Line) (n : ℕ) (before after : Output) → map line_of source ≡ map (λ (line : Line). read_as line) program → Puts known before program after → over_lines (second_step known) n before source ≡ Ok after
second_goes known [] [] n before after g h = ap (λ (o : Output). Ok o) h
second_goes known [] (l ∷ ls) n before after g h = absurd (cc)
second_goes known (text ∷ more) [] n before after g h = absurd (cc)
second_goes known (text ∷ more) (l ∷ ls) n before after g h =
    let reads : line_of text ≡ Ok l = cc in
    let rest : map line_of more ≡ map (λ (line : Line). read_as line) ls = cc in
    goes_on (second_step known) n before h.0 text more (second_of known before text l reads ∙ h.1) ∙ second_goes known more ls (n + 1) h.0 after rest h.2

opened : (text : List ℕ) → assembly text ≡ from_lines (lines text)
unfolding assembly_of first_pass second_pass
opened text = refl

assembled : (text : List ℕ) (listing : Listing) → Means text listing → assembly text ≡ Ok listing
assembled text listing m =
    let first = first_goes (lines text) m.program 1 first_reading m.grammar m.apart m.places in
    let same : first.0.names ≡ m.names = first.2 ∙ sym m.labels in
    let second : over_lines (second_step first.0.names) 1 first_output (lines text) ≡ Ok m.output =
    ap (λ (known : Names). over_lines (second_step known) 1 first_output (lines text)) same ∙ second_goes m.names (lines text) m.program 1 first_output m.output m.grammar m.items in
    opened text ∙ from_lines_is (lines text) first.0 first.1 ∙ behind_is (lines text) first.0 m.output second ∙ ap (λ (r : Result Listing AsmFault). at_line 0 r) m.whole

-- what a text means is what it is assembled to
pub means_assembly : (text : List ℕ) (listing : Listing) → Means text listing ↔ (assembly text ≡ Ok listing)
means_assembly text listing = (assembled text listing, λ h. means text listing (sym (opened text) ∙ h))

ok_same : (a b : Listing) → ◌≡◌ {A = Located Listing} (Ok a) (Ok b) → a ≡ b
ok_same a b h = cc

-- it means one listing
pub means_one : (text : List ℕ) (a b : Listing) → Means text a → Means text b → a ≡ b
means_one text a b m k = ok_same a b (sym (assembled text a m) ∙ assembled text b k)

-- and has no fault
pub means_faultless : (text : List ℕ) (listing : Listing) → Means text listing → first_fault text ≡ None
means_faultless text listing m = ap result_err (assembled text listing m)

found : (text : List ℕ) (r : Located Listing) → assembly text ≡ r → result_err r ≡ None → (listing : Listing) × Means text listing
found text (Ok listing) e h = (listing, means text listing (sym (opened text) ∙ e))
found text (Err f) e h = absurd (cc)

-- a text without a fault means a listing
pub faultless_means : (text : List ℕ) → first_fault text ≡ None → (listing : Listing) × Means text listing
faultless_means text h = found text (assembly text) refl h
