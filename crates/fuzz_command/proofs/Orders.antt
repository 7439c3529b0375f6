-- What is written for an order.
use Rattle.std.proofs.Common.{inl, inr, refl, ℕ, Bool, List, [], ◌∷◌, map, Option, Some, None}
use Rattle.fuzz_command.specs.declared.order.FuzzOrder.{FuzzOrder}
use Rattle.fuzz_command.specs.declared.order.InputFile.{InputFile}
use Rattle.fuzz_command.specs.Inputs.{AreBefore, AreInputs, BeginInputs, name_of}
use Rattle.fuzz_command.specs.Settings.{IsSettingOf, Setting}
use Rattle.fuzz_command.specs.Writing.{Begins, HasBegun, IsBroken, IsFuzzed, IsImage, IsLeft, Writes}
use Rattle.fuzz_command.proofs.Trials.{none_written}
use Rattle.elf32.specs.declared.image.Image.{Image}

-- no input is run yet
no_inputs : (files : List InputFile) (had : Option (List ℕ)) → BeginInputs files had []
no_inputs [] None = tt
no_inputs [] (Some text) = record { rest = text; lines = refl }
no_inputs (f ∷ fs) had = record { rest = map name_of (f ∷ fs); names = refl }

pub none_begun : (s : Setting) (files : List InputFile) (had known : Option (List ℕ)) → Begins s (BeginInputs files had) known known
none_begun s files had known = record { trials = []; inputs = no_inputs files had; lines = none_written s known }

-- what is said of an image of known bytes is said of one of unknown bytes
of_image : (order : FuzzOrder) (file : Option (List ℕ)) (image : Image) → IsImage order file image → IsImage order None image
of_image order file image is = record { stands = tt; legal = is.legal; fits = is.fits }

pub of_fuzzed : (order : FuzzOrder) (file had known known' : Option (List ℕ)) (stopped : Bool) → IsFuzzed order file had known known' stopped → IsFuzzed order None had known known' stopped
of_fuzzed order file had known known' stopped is = record { image = is.image; is = of_image order file is.image is.is; setting = is.setting; asked = is.asked; writes = is.writes }

pub of_broken : (order : FuzzOrder) (file had known known' : Option (List ℕ)) (n : ℕ) → IsBroken order file had known known' n → IsBroken order None had known known' n
of_broken order file had known known' n is = record { image = is.image; is = of_image order file is.image is.is; setting = is.setting; asked = is.asked; begins = is.begins }

of_begun : (order : FuzzOrder) (file had known known' : Option (List ℕ)) → HasBegun order file had known known' → HasBegun order None had known known'
of_begun order file had known known' is = record { image = is.image; is = of_image order file is.image is.is; setting = is.setting; asked = is.asked; begins = is.begins }

pub of_left : (order : FuzzOrder) (file had known known' : Option (List ℕ)) → IsLeft order file had known known' → IsLeft order None had known known'
of_left order file had known known' is = elim is [ inl same ↦ inl same | inr begun ↦ inr (of_begun order file had known known' begun) ]

-- what is written of an image that was loaded, by a setting that the order asks for
pub image_fuzzed : (order : FuzzOrder) (file had known known' : Option (List ℕ)) (stopped : Bool) (image : Image) (s : Setting) → IsImage order file image → IsSettingOf order image s
    → Writes s (AreInputs order.inputs.items had) known known' stopped → IsFuzzed order file had known known' stopped
image_fuzzed order file had known known' stopped image s is asked writes = record { image = image; is = is; setting = s; asked = asked; writes = writes }

pub image_broken : (order : FuzzOrder) (file had known known' : Option (List ℕ)) (n : ℕ) (image : Image) (s : Setting) → IsImage order file image → IsSettingOf order image s
    → Begins s (AreBefore n had) known known' → IsBroken order file had known known' n
image_broken order file had known known' n image s is asked begins = record { image = image; is = is; setting = s; asked = asked; begins = begins }

pub image_begun : (order : FuzzOrder) (file had known known' : Option (List ℕ)) (image : Image) (s : Setting) → IsImage order file image → IsSettingOf order image s
    → Begins s (BeginInputs order.inputs.items had) known known' → IsLeft order file had known known'
image_begun order file had known known' image s is asked begins = inr (record { image = image; is = is; setting = s; asked = asked; begins = begins })
