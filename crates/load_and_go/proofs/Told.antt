-- What the calls have answered, put together.
use Rattle.std.proofs.Common.{◌≡◌, ◌∙◌, ℕ, List, sym, subst, Result, Ok, Err}
use Rattle.std.specs.Prelude.{IfErr}
use Rattle.std.specs.Result.{IsErrAnd}
use Rattle.elf32.specs.declared.fault.ElfError.{ElfError}
use Rattle.elf32.specs.declared.fault.ElfError.TheVariants as elf
use Rattle.elf32.specs.Files.{IsRefusal}
use Rattle.masm.specs.Assembly.{Means}
use Rattle.masm.specs.Listings.{Listing}
use Rattle.machine.specs.Step.{Machine}
use Rattle.masm.specs.Executables.{IsExecutableOf}
use Rattle.load_and_go.specs.Errors.{IsErrorOf, of_reading}
use Rattle.load_and_go.specs.Holds.{Holds}
use Rattle.load_and_go.specs.declared.error.TextError.{TextError}
use Rattle.load_and_go.proofs.Refused.{executable_fault}

-- an error that `?` has made of another one is as that one says
pub error_told : {A : Type 0} (P : TextError → Type 0) (r : Result A TextError) (e : TextError) → IsErrAnd r (λ x. x ≡ e) → P e → IfErr r P
error_told P (Ok a) e h p = absurd h
error_told P (Err x) e h p = subst P (sym h) p

-- a refusal of the text's executable is an error of the text
pub refusal_told : (text file : List ℕ) (pages : ℕ) (e : ElfError) → IsExecutableOf text file → IsRefusal file pages e → IsErrorOf text pages (of_reading e)
refusal_told text file pages (elf.Fault fault) is h = record { file = file; executable = is; first = h; past = sym (executable_fault is.listing is.image file pages is.assembled is.written) ∙ h }
refusal_told text file pages elf.Memory is h = tt

-- what one machine holds, the same machine holds
pub held_by : (text : List ℕ) (m n : Machine) → m ≡ n → (listing : Listing) × Means text listing × Holds n listing → (listing : Listing) × Means text listing × Holds m listing
held_by text m n same h = (h.0, h.1, subst (λ (k : Machine). Holds k h.0) (sym same) h.2)
