-- The word of a command line that asks for a guest.
use Rattle.std.specs.Prelude.{ℕ, ◌==◌, Bool, if◌then◌else◌, List, [], ◌∷◌, length, Option, None, Some, Result, Ok, Err, option_map}
use Rattle.std.specs.List.{slice_split}
use Rattle.line_words.specs.Numbers.{decimal_of}
use Rattle.run_command.specs.declared.order.GuestOrder.{GuestOrder}
use Rattle.run_command.specs.declared.word.WordFault.{WordFault}
use Rattle.run_command.specs.declared.word.WordFault.TheVariants.{Parts, Image, Pages, Shares, Minimum}

-- what is asked for: the name of an image, how many pages, how many shares, and the minimum where one is given
pub record Asked : Type 0 where
  pub image : List ℕ
  pub pages : ℕ
  pub shares : ℕ
  pub minimum : Option ℕ

abbrev pub asked_view : GuestOrder → Asked
asked_view order = record { image = order.image.now; pages = order.pages; shares = order.shares; minimum = order.minimum }

-- the byte that parts a word
abbrev pub is_colon : ℕ → Bool
is_colon c = c == 58

-- the parts of a word, with exactly one colon between them
abbrev pub parts_of : List ℕ → List (List ℕ)
parts_of word = slice_split is_colon word

-- a minimum, where there is a part for it: a decimal number
abbrev pub minimum_in : Option (List ℕ) → Option (Option ℕ)
minimum_in None = Some None
minimum_in (Some digits) = option_map Some (decimal_of digits)

-- with these numbers, of which each has to be there; the first that isn't is the fault
abbrev pub with_numbers : List ℕ → Option ℕ → Option ℕ → Option (Option ℕ) → Result Asked WordFault
with_numbers image None shares minimum = Err Pages
with_numbers image (Some pages) None minimum = Err Shares
with_numbers image (Some pages) (Some shares) None = Err Minimum
with_numbers image (Some pages) (Some shares) (Some minimum) = Ok (record { image = image; pages = pages; shares = shares; minimum = minimum })

-- by these parts, of which the image's has to have a byte
abbrev pub of_parts : List ℕ → List ℕ → List ℕ → Option (List ℕ) → Result Asked WordFault
of_parts image pages shares minimum = if length image == 0 then Err Image else with_numbers image (decimal_of pages) (decimal_of shares) (minimum_in minimum)

-- three or four parts
abbrev pub of_all_parts : List (List ℕ) → Result Asked WordFault
of_all_parts (image ∷ pages ∷ shares ∷ []) = of_parts image pages shares None
of_all_parts (image ∷ pages ∷ shares ∷ minimum ∷ []) = of_parts image pages shares (Some minimum)
of_all_parts _ = Err Parts

-- what a word asks for, or the first fault that it has
abbrev pub guest_of : List ℕ → Result Asked WordFault
guest_of word = of_all_parts (parts_of word)
