-- The lines of the monitor.
use Rattle.std.specs.Prelude.{ℕ, nat_lt, nat_le, if◌then◌else◌, List, [], ◌∷◌, length, codes, Option, Some, None, Result, Ok, Err}
use Rattle.std.specs.Str.{bytes_eq}
use Rattle.line_words.specs.Bytes.{bytes_of}
use Rattle.line_words.specs.Numbers.{decimal_of}
use Rattle.line_words.specs.Words.{Words, One, Two, Three, More, words_of, first_words}

-- a guest is named by its number
pub data Order : Type 0 where
  -- `list`: a line for each guest
  Guests : Order
  Books : Order
  Level : Order
  -- a percentage
  Tax : ℕ → Order
  -- a guest, and how many pages its balloon is to have
  Target : ℕ → ℕ → Order
  Hold : ℕ → Order
  Go : ℕ → Order
  Log : ℕ → Order
  -- a guest, and bytes for its console
  In : ℕ → List ℕ → Order
  Drain : ℕ → Order
  Room : Order
  Help : Order
  Quit : Order

-- what is wrong with a line, where it isn't want of memory
pub data LineFault : Type 0 where
  Command : LineFault
  Number : LineFault
  Guest : LineFault
  Range : LineFault

-- one step after another, of which the first that has a fault is the last
infixl 10 ◌>>=◌
abbrev pub ◌>>=◌ : {A B : Type 0} → Result A LineFault → (A → Result B LineFault) → Result B LineFault
Ok a >>= f = f a
Err fault >>= f = Err fault

-- what is written, or that it is no number
abbrev pub as_number : {A : Type 0} → Option A → Result A LineFault
as_number (Some a) = Ok a
as_number None = Err Number

-- a guest, of so many
abbrev pub known : ℕ → ℕ → Result ℕ LineFault
known guests guest = if nat_lt guest guests then Ok guest else Err Guest

unfoldable pub tax_of : List ℕ → Result Order LineFault
tax_of percent = as_number (decimal_of percent) >>= λ n. if nat_le n 99 then Ok (Tax n) else Err Range

unfoldable pub for_guest : (ℕ → Order) → ℕ → List ℕ → Result Order LineFault
for_guest order guests guest = as_number (decimal_of guest) >>= known guests >>= λ g. Ok (order g)

-- numbers come before guests
unfoldable pub target_of : ℕ → List ℕ → List ℕ → Result Order LineFault
target_of guests guest pages = as_number (decimal_of guest) >>= λ g. as_number (decimal_of pages) >>= λ n. known guests g >>= λ k. Ok (Target k n)

unfoldable pub input_of : ℕ → List ℕ → List ℕ → Result Order LineFault
input_of guests guest digits = as_number (decimal_of guest) >>= λ g. as_number (bytes_of digits) >>= λ bytes. known guests g >>= λ k. Ok (In k bytes)

-- what a table has in the row of a name
abbrev pub row_of : List (List ℕ × Result Order LineFault) → List ℕ → Result Order LineFault
row_of [] name = Err Command
row_of (row ∷ rows) name = if bytes_eq row.0 name then row.1 else row_of rows name

unfoldable pub order_of_one : List ℕ → Result Order LineFault
order_of_one name =
    row_of ((codes "list", Ok Guests) ∷ (codes "books", Ok Books) ∷ (codes "level", Ok Level) ∷ (codes "room", Ok Room) ∷ (codes "help", Ok Help) ∷ (codes "quit", Ok Quit) ∷ []) name

unfoldable pub order_of_two : ℕ → List ℕ → List ℕ → Result Order LineFault
order_of_two guests name a =
    row_of ((codes "tax", tax_of a) ∷ (codes "hold", for_guest Hold guests a) ∷ (codes "go", for_guest Go guests a) ∷ (codes "log", for_guest Log guests a) ∷ (codes "drain", for_guest Drain guests a) ∷ []) name

unfoldable pub order_of_three : ℕ → List ℕ → List ℕ → List ℕ → Result Order LineFault
order_of_three guests name a b = row_of ((codes "target", target_of guests a b) ∷ (codes "in", input_of guests a b) ∷ []) name

abbrev pub order_in : ℕ → Words → Result Order LineFault
order_in guests (One name) = order_of_one name
order_in guests (Two name a) = order_of_two guests name a
order_in guests (Three name a b) = order_of_three guests name a b
order_in guests More = Err Command

-- the order that a line is, in a host of so many guests, or its first fault
abbrev pub order_of : ℕ → List ℕ → Result Order LineFault
order_of guests line = if nat_le (length line) 4096 then order_in guests (first_words (words_of line)) else Err Command
