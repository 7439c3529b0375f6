-- Both passes and the listing, one after the other.
use Rattle.std.proofs.Common.{◌≡◌, ℕ, List, sym, ap, subst, Result, Ok, Err}
use Rattle.std.specs.Result.{IsErrAnd}
use Rattle.masm.specs.Answers.{Gives}
use Rattle.masm.specs.Assembly.{Reading, Located, over_lines, at_line, first_step, first_reading, second_step}
use Rattle.masm.specs.Listings.{Output, Listing, first_output, listing_of}
use Rattle.masm_lines.specs.Steps.{◌>>=◌}
use Rattle.masm.specs.declared.error.AsmError.{AsmError}
use Rattle.masm.specs.declared.error.AsmError.TheVariants as error

-- the second pass over lines, and the listing of what it puts
abbrev pub behind : List (List ℕ) → Reading → Located Listing
behind source r = over_lines (second_step r.names) 1 first_output source >>= λ o. at_line 0 (listing_of o)

-- all of it
abbrev pub from_lines : List (List ℕ) → Located Listing
from_lines source = over_lines first_step 1 first_reading source >>= behind source

pub from_lines_is : (source : List (List ℕ)) (r : Reading) → over_lines first_step 1 first_reading source ≡ Ok r → from_lines source ≡ behind source r
from_lines_is source r e = ap (λ (first : Located Reading). first >>= behind source) e

pub behind_is : (source : List (List ℕ)) (r : Reading) (o : Output) → over_lines (second_step r.names) 1 first_output source ≡ Ok o → behind source r ≡ at_line 0 (listing_of o)
behind_is source r o e = ap (λ (second : Located Output). second >>= λ o. at_line 0 (listing_of o)) e

-- an error is that of the whole
pub error_behind : {A B C D : Type 0} (Is : B → A → Type 0) (After : D → C → Type 0) (e : AsmError) (found : Located A) (k : A → Located C) → Gives Is (Err e) found → Gives After (Err e) (found >>= k)
error_behind Is After (error.Fault f line) found k h = ap (λ r. r >>= k) h
error_behind Is After (error.Memory a) found k h = tt

pub same_error : {A B : Type 0} (Is : B → A → Type 0) (r : Result B AsmError) (e : AsmError) (found : Located A) → IsErrAnd r (λ x. x ≡ e) → Gives Is (Err e) found → Gives Is r found
same_error Is (Ok b) e found h g = absurd h
same_error Is (Err x) e found h g = subst (λ (y : AsmError). Gives Is (Err y) found) (sym h) g
