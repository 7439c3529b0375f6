-- What both passes give is what the text means.
use Rattle.std.proofs.Common.{◌≡◌, ℕ, ◌+◌, List, [], ◌∷◌, map, refl, ◌∙◌, sym, ap, subst, Result, Ok, Err, Some}
use Rattle.std.specs.Prelude.{IfSome, IfOk, IfErr}
use Rattle.std.specs.Result.{result_err, IsErrAnd}
use Rattle.std.specs.Str.Lines.{lines}
use Rattle.masm.specs.Answers.{Gives, fault_in}
use Rattle.masm.specs.Assembly.{Reading, Located, over_lines, at_line, first_step, first_reading, second_step, after_line, labels_from, AreApart, ArePlaced, Puts, Means}
use Rattle.masm_lines.specs.Grammar.{Line, line_of}
use Rattle.elf32.specs.declared.image.Image.{Image}
use Rattle.masm.specs.Images.{IsImageOf}
use Rattle.masm.specs.Listings.{Output, Listing, first_output, listing_of}
use Rattle.masm.specs.Names.{Names}
use Rattle.masm_lines.specs.declared.fault.AsmFault.{AsmFault}
use Rattle.masm.specs.declared.error.AsmError.{AsmError}
use Rattle.masm.specs.declared.error.AsmError.TheVariants as error
use Rattle.masm.proofs.Passes.{both_taken, given}
use Rattle.masm.proofs.OutputRoom.{taken_line, second_of, bound}
use Rattle.masm.proofs.OutputWhole.{behind, from_lines}

abbrev read_as : Line → Result Line AsmFault
read_as line = Ok line

-- what the first pass says of the lines of a text
pub record IsRead (source : List (List ℕ)) (before after : Reading) : Type 0 where
  pub program : List Line
  pub grammar : map line_of source ≡ map (λ (line : Line). read_as line) program
  pub labels : after.names ≡ labels_from before.layout before.names program
  pub apart : AreApart before.layout before.names program
  pub places : ArePlaced before.layout program

read_more : (line : List ℕ) (more : List (List ℕ)) (before next after : Reading) → first_step before line ≡ Ok next → IsRead more next after → IsRead (line ∷ more) before after
read_more line more before next after taken rest =
    let is = taken_line before next line taken in
    let rest_is : IsRead more (after_line before is.0) after = subst (λ (r : Reading). IsRead more r after) (sym is.3) rest in
    record {
      program = is.0 ∷ rest_is.program;
      grammar = rw (is.1, rest_is.grammar);
      labels = rest_is.labels;
      apart = (is.4, rest_is.apart);
      places = (is.2, rest_is.places);
    }

pub read : (source : List (List ℕ)) (n : ℕ) (before after : Reading) → over_lines first_step n before source ≡ Ok after → IsRead source before after
read [] n before after h = let same : before ≡ after = cc in record { program = []; grammar = refl; labels = sym (ap (λ (r : Reading). r.names) same); apart = tt; places = tt }
read (line ∷ more) n before after h =
    let taken = both_taken (first_step before line) (λ (r : Reading). over_lines first_step (n + 1) r more) n after h in
    read_more line more before taken.0 after taken.1 (read more (n + 1) taken.0 after taken.2)

-- what the second pass puts
pub puts : (known : Names) (source : List (List ℕ)) (program : List Line) (n : ℕ) (before after : Output) → map line_of source ≡ map (λ (line : Line). read_as line) program → over_lines (second_step known) n before source ≡ Ok after → Puts known before program after
puts known [] [] n before after g h = cc
puts known [] (l ∷ ls) n before after g h = absurd (cc)
puts known (line ∷ more) [] n before after g h = absurd (cc)
puts known (line ∷ more) (l ∷ ls) n before after g h =
    let reads : line_of line ≡ Ok l = cc in
    let rest : map line_of more ≡ map (λ (line : Line). read_as line) ls = cc in
    let taken = both_taken (second_step known before line) (λ (o : Output). over_lines (second_step known) (n + 1) o more) n after h in
    (taken.0, sym (second_of known before line l reads) ∙ taken.1, puts known more ls (n + 1) taken.0 after rest taken.2)

listing_at : (found : Result Listing AsmFault) (listing : Listing) → at_line 0 found ≡ Ok listing → found ≡ Ok listing
listing_at (Ok l) listing h = let same : l ≡ listing = cc in ap (λ (x : Listing). Ok x) same
listing_at (Err f) listing h = absurd (cc)

pub means : (text : List ℕ) (listing : Listing) → from_lines (lines text) ≡ Ok listing → Means text listing
means text listing h =
    let first = bound (over_lines first_step 1 first_reading (lines text)) (behind (lines text)) listing h in
    let second = bound (over_lines (second_step first.0.names) 1 first_output (lines text)) (λ (o : Output). at_line 0 (listing_of o)) listing first.2 in
    let is = read (lines text) 1 first_reading first.0 first.1 in
    record {
      program = is.program;
      names = first.0.names;
      output = second.0;
      grammar = is.grammar;
      labels = is.labels;
      apart = is.apart;
      places = is.places;
      items = puts first.0.names (lines text) is.program 1 first_output second.0 is.grammar second.1;
      whole = listing_at (listing_of second.0) listing second.2;
    }

-- an error that isn't want of memory is the first fault
pub fault_told : {A B : Type 0} (Is : B → A → Type 0) (e : AsmError) (found : Located A) → Gives Is (Err e) found → IfSome (fault_in e) (λ fault. result_err found ≡ Some fault)
fault_told Is (error.Fault f line) found h = ap result_err h
fault_told Is (error.Memory a) found h = tt

-- an image that was answered stands for what the text means
pub image_told : (text : List ℕ) (r : Result Image AsmError) → Gives (λ (i : Image) (l : Listing). IsImageOf l i) r (from_lines (lines text)) → IfOk r (λ image. (listing : Listing) × Means text listing × IsImageOf listing image)
image_told text (Ok image) h =
    let listing = given (λ (i : Image) (l : Listing). IsImageOf l i) image (from_lines (lines text)) h in
    (listing.0, means text listing.0 listing.1, listing.2)
image_told text (Err e) h = tt

pub error_told : {A : Type 0} (P : AsmError → Type 0) (r : Result A AsmError) (e : AsmError) → IsErrAnd r (λ x. x ≡ e) → P e → IfErr r P
error_told P (Ok a) e h p = absurd h
error_told P (Err x) e h p = subst P (sym h) p
