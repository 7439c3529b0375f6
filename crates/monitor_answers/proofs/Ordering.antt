-- Orders of lines name guests that there are.
use Rattle.std.proofs.Common.{◌≡◌, ◌≢◌, ℕ, ◌<◌, Bool, true, false, List, [], ◌∷◌, Option, Some, None, Result, Ok, Err, length, codes, refl, sym, subst, arith}
use Rattle.std.specs.Prelude.{if◌then◌else◌, nat_lt, nat_le}
use Rattle.std.specs.Str.{bytes_eq}
use Rattle.std.proofs.lemmas.Bool.Decides.{nat_tests}
use Rattle.line_words.specs.Bytes.{bytes_of}
use Rattle.line_words.specs.Numbers.{decimal_of}
use Rattle.line_words.specs.Words.{Words, One, Two, Three, More, words_of, first_words}
use Rattle.monitor.specs.Orders.{Order, Guests, Books, Level, Tax, Target, Hold, Go, Log, In, Drain, Room, Help, Quit, LineFault, Command, Guest, Range, ◌>>=◌, as_number, known, row_of, tax_of, for_guest, target_of, input_of, order_of_one, order_of_two, order_of_three, order_in, order_of}
use Rattle.monitor_answers.specs.Orders.{IsOrderOf}

ok_is : (found : Result Order LineFault) (a b : Order) → found ≡ Ok a → found ≡ Ok b → a ≡ b
ok_is found a b e f = cc

-- what is found, if it is found, is so
abbrev IsSo : (Order → Type 0) → Result Order LineFault → Type 0
IsSo P found = (order : Order) → found ≡ Ok order → P order

so_ok : (P : Order → Type 0) (order : Order) → P order → IsSo P (Ok order)
so_ok P order so other e = subst P (ok_is (Ok order) order other refl e) so

so_err : (P : Order → Type 0) (fault : LineFault) → IsSo P (Err fault)
so_err P fault order e = absurd (cc)

so_if : (P : Order → Type 0) (b : Bool) (x y : Result Order LineFault) → (b ≡ true → IsSo P x) → IsSo P y → IsSo P (if b then x else y)
so_if P true x y this other = this refl
so_if P false x y this other = other

abbrev AreSo : (Order → Type 0) → List (List ℕ × Result Order LineFault) → Type 0
AreSo P [] = Unit {0}
AreSo P (row ∷ rows) = IsSo P row.1 × AreSo P rows

so_row : (P : Order → Type 0) (rows : List (List ℕ × Result Order LineFault)) (name : List ℕ) → AreSo P rows → IsSo P (row_of rows name)
so_row P [] name are = so_err P _
so_row P (row ∷ rows) name are = so_if P (bytes_eq row.0 name) row.1 (row_of rows name) (λ _. are.0) (so_row P rows name are.1)

so_number : (P : Order → Type 0) (found : Option ℕ) (f : ℕ → Result Order LineFault) → ((n : ℕ) → IsSo P (f n)) → IsSo P (as_number found >>= f)
so_number P (Some n) f so = so n
so_number P None f so = so_err P _

so_known : (P : Order → Type 0) (guests guest : ℕ) (f : ℕ → Result Order LineFault) → (guest < guests → IsSo P (f guest)) → IsSo P (known guests guest >>= f)
so_known P guests guest f so = by_test (nat_lt guest guests) refl
  where
    by_test : (b : Bool) → nat_lt guest guests ≡ b → IsSo P ((if b then Ok guest else Err Guest) >>= f)
    by_test true is = so (grind (arith, nat_tests, is))
    by_test false is = so_err P _

-- ---- the orders of one word, two and three

tax_so : (guests : ℕ) (percent : List ℕ) → IsSo (IsOrderOf guests) (tax_of percent)
unfolding tax_of
tax_so guests percent = so_number (IsOrderOf guests) (decimal_of percent) _ (λ n. by_test n (nat_le n 99) refl)
  where
    by_test : (n : ℕ) (b : Bool) → nat_le n 99 ≡ b → IsSo (IsOrderOf guests) (if b then Ok (Tax n) else Err Range)
    by_test n true is = so_ok (IsOrderOf guests) (Tax n) (grind (arith, nat_tests, is))
    by_test n false is = so_err (IsOrderOf guests) _

guest_so : (order : ℕ → Order) (guests : ℕ) (guest : List ℕ) → ((g : ℕ) → g < guests → IsOrderOf guests (order g)) → IsSo (IsOrderOf guests) (for_guest order guests guest)
unfolding for_guest
guest_so order guests guest so = assoc (decimal_of guest)
  where
    assoc : (found : Option ℕ) → IsSo (IsOrderOf guests) (as_number found >>= known guests >>= λ g. Ok (order g))
    assoc (Some g) = so_known (IsOrderOf guests) guests g (λ k. Ok (order k)) (λ within. so_ok (IsOrderOf guests) (order g) (so g within))
    assoc None = so_err (IsOrderOf guests) _

target_so : (guests : ℕ) (guest pages : List ℕ) → IsSo (IsOrderOf guests) (target_of guests guest pages)
unfolding target_of
target_so guests guest pages =
    so_number (IsOrderOf guests) (decimal_of guest) _ (λ g. so_number (IsOrderOf guests) (decimal_of pages) _
    (λ n. so_known (IsOrderOf guests) guests g _ (λ within. so_ok (IsOrderOf guests) (Target g n) within)))

so_bytes : (P : Order → Type 0) (found : Option (List ℕ)) (f : List ℕ → Result Order LineFault) → ((b : List ℕ) → IsSo P (f b)) → IsSo P (as_number found >>= f)
so_bytes P (Some b) f so = so b
so_bytes P None f so = so_err P _

input_so : (guests : ℕ) (guest digits : List ℕ) → IsSo (IsOrderOf guests) (input_of guests guest digits)
unfolding input_of
input_so guests guest digits =
    so_number (IsOrderOf guests) (decimal_of guest) _ (λ g. so_bytes (IsOrderOf guests) (bytes_of digits) _
    (λ bytes. so_known (IsOrderOf guests) guests g _ (λ within. so_ok (IsOrderOf guests) (In g bytes) within)))

one_so : (guests : ℕ) (name : List ℕ) → IsSo (IsOrderOf guests) (order_of_one name)
unfolding order_of_one
one_so guests name =
    let P = IsOrderOf guests in
    let rows : List (List ℕ × Result Order LineFault) =
    (codes "list", Ok Guests) ∷ (codes "books", Ok Books) ∷ (codes "level", Ok Level) ∷ (codes "room", Ok Room) ∷ (codes "help", Ok Help) ∷ (codes "quit", Ok Quit) ∷ [] in
    so_row P rows name (so_ok P Guests tt, (so_ok P Books tt, (so_ok P Level tt, (so_ok P Room tt, (so_ok P Help tt, (so_ok P Quit tt, tt))))))

two_so : (guests : ℕ) (name a : List ℕ) → IsSo (IsOrderOf guests) (order_of_two guests name a)
unfolding order_of_two
two_so guests name a =
    let P = IsOrderOf guests in
    let rows : List (List ℕ × Result Order LineFault) =
    (codes "tax", tax_of a) ∷ (codes "hold", for_guest Hold guests a) ∷ (codes "go", for_guest Go guests a) ∷ (codes "log", for_guest Log guests a) ∷ (codes "drain", for_guest Drain guests a) ∷ [] in
    so_row P rows name (tax_so guests a, (guest_so Hold guests a (λ g h. h), (guest_so Go guests a (λ g h. h), (guest_so Log guests a (λ g h. h), (guest_so Drain guests a (λ g h. h), tt)))))

three_so : (guests : ℕ) (name a b : List ℕ) → IsSo (IsOrderOf guests) (order_of_three guests name a b)
unfolding order_of_three
three_so guests name a b =
    let rows : List (List ℕ × Result Order LineFault) = (codes "target", target_of guests a b) ∷ (codes "in", input_of guests a b) ∷ [] in
    so_row (IsOrderOf guests) rows name (target_so guests a b, (input_so guests a b, tt))

words_so : (guests : ℕ) (words : Words) → IsSo (IsOrderOf guests) (order_in guests words)
words_so guests (One name) = one_so guests name
words_so guests (Two name a) = two_so guests name a
words_so guests (Three name a b) = three_so guests name a b
words_so guests More = so_err (IsOrderOf guests) _

pub order_is_of : (guests : ℕ) (line : List ℕ) (order : Order) → order_of guests line ≡ Ok order → IsOrderOf guests order
order_is_of guests line order is =
    so_if (IsOrderOf guests) (nat_le (length line) 4096) (order_in guests (first_words (words_of line))) (Err Command) (λ _. words_so guests (first_words (words_of line))) (so_err (IsOrderOf guests) _) order is
