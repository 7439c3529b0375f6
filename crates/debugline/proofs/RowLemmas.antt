-- A line is a command exactly where it has the form of the command's row.
use Rattle.std.proofs.Common.{◌≡◌, ◌≢◌, ℕ, ◌*◌, ◌<◌, ◌≤◌, List, [], ◌∷◌, ◌++◌, length, refl, sym, ◌∙◌, ap, subst, arith, Bool, true, false, Option, Some, None}
use Rattle.std.specs.Prelude.{◌==◌, ◌&&◌, nat_lt, nat_le, not, codes, option_map, if◌then◌else◌}
use Rattle.std.specs.Char.{digit_value}
use Rattle.std.specs.List.{list_all, join_with_byte}
use Rattle.std.specs.Str.{bytes_eq}
use Rattle.std.specs.Str.Parse.{AllDigits}
use Rattle.std.proofs.lemmas.Bool.Decides.{nat_tests}
use Rattle.std.proofs.lemmas.List.Splits.{join_with_byte-slice_split}
use Rattle.std.proofs.lemmas.List.Sums.{list_all-from_AllPass}
use Rattle.std.proofs.lemmas.Slice.Eq.{bytes_eq-Decides}
use Rattle.hex.specs.Hex.{is_hex_digit}
use Rattle.hex.proofs.HexLemmas.{decode_of-ok}
use Rattle.line_words.specs.Bytes.{bytes_of}
use Rattle.line_words.specs.Numbers.{hexadecimal_of}
use Rattle.line_words.specs.Words.{blank, words_of, first_words, HasNoBlank, One, Two, Three}
use Rattle.line_words.proofs.Pairs.{decoded, two_digits_each, one_at_least}
use Rattle.line_words.proofs.Parts.{one_without_blank, more_behind_blank}
use Rattle.line_words.proofs.Written.{written_by_few, read_from_few}
use Rattle.debugline.specs.Commands.{Command, Regs, Reg, Set, Read, Write, Cont, Step, Break, Clear, Detach, End, register_of, length_of, data_of, set_of, read_of, write_of, row_of, one_rows, two_rows, three_rows, command_of_one, command_of_two, command_of_three, command_in, command_of}
use Rattle.debugline.specs.Lines.{Text}
use Rattle.debugline.specs.Rows.{IsNumber, IsRegister, IsLength, AreBytes, Says}
use Rattle.debugline.specs.Steps.{◌>>=◌, both}

-- ---- what a step that found something shows

same_of_some : {A : Type 0} (a b : A) → Some a ≡ Some b → a ≡ b
same_of_some a b e = cc

guarded : (b : Bool) (x y : ℕ) → (if b then Some x else None) ≡ Some y → (b ≡ true) × (x ≡ y)
guarded true x y e = (refl, same_of_some x y e)
guarded false x y e = absurd (cc)

guarded_found : {A : Type 0} (b : Bool) (found : Option A) (y : A) → (if b then found else None) ≡ Some y → (b ≡ true) × (found ≡ Some y)
guarded_found true found y e = (refl, e)
guarded_found false found y e = absurd (cc)

bound : {A B : Type 0} (found : Option A) (f : A → Option B) (y : B) → (found >>= f) ≡ Some y → (x : A) × (found ≡ Some x) × (f x ≡ Some y)
bound (Some x) f y e = (x, refl, e)
bound None f y e = absurd (cc)

mapped : {A B : Type 0} (f : A → B) (found : Option A) (y : B) → option_map f found ≡ Some y → (x : A) × (found ≡ Some x) × (f x ≡ y)
mapped f (Some x) y e = (x, refl, same_of_some (f x) y e)
mapped f None y e = absurd (cc)

both_found : {A B C : Type 0} (f : A → B → C) (a : Option A) (b : Option B) (z : C) → both f a b ≡ Some z → (x : A) × (y : B) × (a ≡ Some x) × (b ≡ Some y) × (f x y ≡ z)
both_found f (Some x) (Some y) z e = (x, y, refl, refl, same_of_some (f x y) z e)
both_found f (Some x) None z e = absurd (cc)
both_found f None b z e = absurd (cc)

first_and : (a b : Bool) → (a && b) ≡ true → (a ≡ true) × (b ≡ true)
first_and true b h = (refl, h)
first_and false b h = absurd (cc)

-- ---- arguments that are read

register_read : (digits : List ℕ) (n : ℕ) → register_of digits ≡ Some n → IsRegister digits n
unfolding register_of
register_read digits n e =
    let found = bound (hexadecimal_of digits) (λ m. if nat_lt m 38 then Some m else None) n e in
    let pass = guarded (nat_lt found.0 38) found.0 n found.2 in
    let small : found.0 < 38 = grind (arith, nat_tests, pass.0) in
    subst (λ (m : ℕ). IsRegister digits m) pass.1 (written_by_few digits found.0 found.1, small)

length_read : (digits : List ℕ) (n : ℕ) → length_of digits ≡ Some n → IsLength digits n
unfolding length_of
length_read digits n e =
    let found = bound (hexadecimal_of digits) (λ m. if nat_le 1 m && nat_le m 1024 then Some m else None) n e in
    let pass = guarded (nat_le 1 found.0 && nat_le found.0 1024) found.0 n found.2 in
    let tests = first_and (nat_le 1 found.0) (nat_le found.0 1024) pass.0 in
    let some : 1 ≤ found.0 = grind (arith, nat_tests, tests.0) in
    let few : found.0 ≤ 1024 = grind (arith, nat_tests, tests.1) in
    subst (λ (m : ℕ). IsLength digits m) pass.1 (written_by_few digits found.0 found.1, some, few)

data_read : (digits bytes : List ℕ) → data_of digits ≡ Some bytes → AreBytes digits bytes
unfolding data_of
data_read digits bytes e =
    let found = guarded_found (nat_le (length digits) 2048) (bytes_of digits) bytes e in
    let few : length digits ≤ 2048 = grind (arith, nat_tests, found.0) in
    let twice = two_digits_each digits bytes found.1 in
    ((decoded digits bytes found.1).1, one_at_least digits bytes found.1, omega arith)

-- ---- a line that has a row is its command

number_found : (digits : List ℕ) (n : ℕ) → IsNumber digits n → hexadecimal_of digits ≡ Some n
number_found digits n h = read_from_few digits n h.0 h.1

register_found : (digits : List ℕ) (n : ℕ) → IsRegister digits n → register_of digits ≡ Some n
unfolding register_of
register_found digits n h =
    let below = h.1 in
    let small : nat_lt n 38 ≡ true = grind (arith, nat_tests, below) in
    rw (number_found digits n h.0, small) refl

length_found : (digits : List ℕ) (n : ℕ) → IsLength digits n → length_of digits ≡ Some n
unfolding length_of
length_found digits n h =
    let from = h.1 in
    let to = h.2 in
    let some : nat_le 1 n ≡ true = grind (arith, nat_tests, from) in
    let few : nat_le n 1024 ≡ true = grind (arith, nat_tests, to) in
    rw (number_found digits n h.0, some, few) refl

data_found : (digits bytes : List ℕ) → AreBytes digits bytes → data_of digits ≡ Some bytes
unfolding data_of bytes_of
data_found digits bytes h =
    let from = h.1 in
    let to = h.2 in
    let twice : length digits ≡ 2 * length bytes = (decode_of-ok digits bytes h.0).2 in
    let few : nat_le (length digits) 2048 ≡ true = grind (arith, nat_tests, twice, to) in
    let full : (length digits == 0) ≡ false = grind (arith, nat_tests, twice, from) in
    rw (few, full, h.0) refl

-- ---- words without blanks

name_free : (name : List ℕ) → list_all (λ c. not (c == blank)) name ≡ true → HasNoBlank name
name_free [] h = tt
name_free (c ∷ cs) h = let pass = first_and (not (c == blank)) (list_all (λ d. not (d == blank)) cs) h in (other c pass.0, name_free cs pass.1)
  where
    other : (c : ℕ) → not (c == blank) ≡ true → c ≢ blank
    other c e is = grind (arith, nat_tests, e, is)

digits_free : (digits : List ℕ) → AllDigits 16 digits → HasNoBlank digits
digits_free [] h = tt
digits_free (c ∷ cs) h = (λ is. let low : 36 < 16 = subst (λ (x : ℕ). digit_value x < 16) is h.0 in omega arith, digits_free cs h.1)

pairs_free : (digits : List ℕ) → list_all is_hex_digit digits ≡ true → HasNoBlank digits
pairs_free [] h = tt
pairs_free (c ∷ cs) h =
    let pass = first_and (is_hex_digit c) (list_all is_hex_digit cs) h in
    (λ is. let wrong : false ≡ true = subst (λ (x : ℕ). is_hex_digit x ≡ true) is pass.0 in absurd (cc), pairs_free cs pass.1)

number_free : (digits : List ℕ) (n : ℕ) → IsNumber digits n → HasNoBlank digits
number_free digits n h = digits_free digits h.0.digits

bytes_free : (digits bytes : List ℕ) → AreBytes digits bytes → HasNoBlank digits
bytes_free digits bytes h = pairs_free digits (list_all-from_AllPass is_hex_digit digits ((decode_of-ok digits bytes h.0).1))

one_word : (name : List ℕ) → HasNoBlank name → first_words (words_of name) ≡ One name
one_word name free = ap first_words (one_without_blank name free)

two_words : (name a : List ℕ) → HasNoBlank name → HasNoBlank a → first_words (words_of (name ++ blank ∷ a)) ≡ Two name a
two_words name a free free_a = ap first_words (more_behind_blank name a free ∙ ap (λ (ws : List (List ℕ)). name ∷ ws) (one_without_blank a free_a))

three_words : (name a b : List ℕ) → HasNoBlank name → HasNoBlank a → HasNoBlank b → first_words (words_of (name ++ blank ∷ (a ++ blank ∷ b))) ≡ Three name a b
three_words name a b free free_a free_b =
    ap first_words (more_behind_blank name (a ++ blank ∷ b) free ∙ ap (λ (ws : List (List ℕ)). name ∷ ws) (more_behind_blank a b free_a ∙ ap (λ (ws : List (List ℕ)). a ∷ ws) (one_without_blank b free_b)))

-- ---- from the row to the command

lone : (line name : List ℕ) (command : Command) → HasNoBlank name → line ≡ name → command_of_one name ≡ Some command → command_of (Text line) ≡ Some command
lone line name command free is row = ap (λ (l : List ℕ). command_of (Text l)) is ∙ ap command_in (one_word name free) ∙ row

with_one : (line name a : List ℕ) (command : Command) → HasNoBlank name → HasNoBlank a → line ≡ name ++ blank ∷ a → command_of_two name a ≡ Some command → command_of (Text line) ≡ Some command
with_one line name a command free free_a is row = ap (λ (l : List ℕ). command_of (Text l)) is ∙ ap command_in (two_words name a free free_a) ∙ row

with_two : (line name a b : List ℕ) (command : Command) → HasNoBlank name → HasNoBlank a → HasNoBlank b → line ≡ name ++ blank ∷ (a ++ blank ∷ b) → command_of_three name a b ≡ Some command → command_of (Text line) ≡ Some command
with_two line name a b command free free_a free_b is row = ap (λ (l : List ℕ). command_of (Text l)) is ∙ ap command_in (three_words name a b free free_a free_b) ∙ row

pub from_row : (line : List ℕ) (command : Command) → Says line command → command_of (Text line) ≡ Some command
unfolding command_of_one command_of_two command_of_three set_of read_of write_of
from_row line Regs h = lone line (codes "regs") Regs (name_free (codes "regs") refl) h refl
from_row line Cont h = lone line (codes "cont") Cont (name_free (codes "cont") refl) h refl
from_row line Step h = lone line (codes "step") Step (name_free (codes "step") refl) h refl
from_row line Detach h = lone line (codes "detach") Detach (name_free (codes "detach") refl) h refl
from_row line End h = lone line (codes "end") End (name_free (codes "end") refl) h refl
from_row line (Reg r) h = with_one line (codes "reg") h.0 (Reg r) (name_free (codes "reg") refl) (number_free h.0 r h.1.0) h.2 (ap (option_map Reg) (register_found h.0 r h.1))
from_row line (Break a) h = with_one line (codes "break") h.0 (Break a) (name_free (codes "break") refl) (number_free h.0 a h.1) h.2 (ap (option_map Break) (number_found h.0 a h.1))
from_row line (Clear a) h = with_one line (codes "clear") h.0 (Clear a) (name_free (codes "clear") refl) (number_free h.0 a h.1) h.2 (ap (option_map Clear) (number_found h.0 a h.1))
from_row line (Set r w) h = with_two line (codes "set") h.0 h.1 (Set r w) (name_free (codes "set") refl) (number_free h.0 r h.2.0) (number_free h.1 w h.3) h.4 (rw (register_found h.0 r h.2, number_found h.1 w h.3) refl)
from_row line (Read a n) h = with_two line (codes "read") h.0 h.1 (Read a n) (name_free (codes "read") refl) (number_free h.0 a h.2) (number_free h.1 n h.3.0) h.4 (rw (number_found h.0 a h.2, length_found h.1 n h.3) refl)
from_row line (Write a bytes) h = with_two line (codes "write") h.0 h.1 (Write a bytes) (name_free (codes "write") refl) (number_free h.0 a h.2) (bytes_free h.1 bytes h.3) h.4 (rw (number_found h.0 a h.2, data_found h.1 bytes h.3) refl)

-- ---- from the command to the row

-- each row of a table, where it is this name's and has this command, shows a fact
abbrev EachRow : List (List ℕ × Option Command) → List ℕ → Command → Type 0 → Type 0
EachRow [] name command P = Unit {0}
EachRow (row ∷ rows) name command P = (name ≡ row.0 → row.1 ≡ Some command → P) × EachRow rows name command P

by_row : (b : Bool) (name0 name : List ℕ) (here later : Option Command) (command : Command) (P : Type 0) → bytes_eq name0 name ≡ b
    → (name ≡ name0 → here ≡ Some command → P) → (later ≡ Some command → P) → (if b then here else later) ≡ Some command → P
by_row true name0 name here later command P is first rest e = first (sym ((bytes_eq-Decides name0 name).0 is)) e
by_row false name0 name here later command P is first rest e = rest e

in_table : (rows : List (List ℕ × Option Command)) (name : List ℕ) (command : Command) (P : Type 0) → EachRow rows name command P → row_of rows name ≡ Some command → P
in_table [] name command P each e = absurd (cc)
in_table (row ∷ rows) name command P each e = by_row (bytes_eq row.0 name) row.0 name row.1 (row_of rows name) command P refl each.0 (in_table rows name command P each.1) e

told : (line : List ℕ) (found command : Command) → found ≡ command → Says line found → Says line command
told line found command is h = subst (Says line) is h

one_says : (line name : List ℕ) (command : Command) → line ≡ name → command_of_one name ≡ Some command → Says line command
unfolding command_of_one
one_says line name command is e = in_table one_rows name command (Says line command) (
  λ n c. told line Regs command (same_of_some Regs command c) (is ∙ n),
  (
    λ n c. told line Cont command (same_of_some Cont command c) (is ∙ n),
    (
      λ n c. told line Step command (same_of_some Step command c) (is ∙ n),
      (
        λ n c. told line Detach command (same_of_some Detach command c) (is ∙ n),
        (
          λ n c. told line End command (same_of_some End command c) (is ∙ n),
          tt,
        ),
      ),
    ),
  ),
) e

two_says : (line name a : List ℕ) (command : Command) → line ≡ name ++ blank ∷ a → command_of_two name a ≡ Some command → Says line command
unfolding command_of_two
two_says line name a command is e =
    let behind : (k : List ℕ) → name ≡ k → line ≡ k ++ blank ∷ a = λ k n. is ∙ ap (λ (m : List ℕ). m ++ blank ∷ a) n in
    in_table (two_rows a) name command (Says line command) (
      λ n c. (let x = mapped Reg (register_of a) command c in told line (Reg x.0) command x.2 (a, register_read a x.0 x.1, behind (codes "reg") n)),
      (
        λ n c. (let x = mapped Break (hexadecimal_of a) command c in told line (Break x.0) command x.2 (a, written_by_few a x.0 x.1, behind (codes "break") n)),
        (
          λ n c. (let x = mapped Clear (hexadecimal_of a) command c in told line (Clear x.0) command x.2 (a, written_by_few a x.0 x.1, behind (codes "clear") n)),
          tt,
        ),
      ),
    ) e

three_says : (line name a b : List ℕ) (command : Command) → line ≡ name ++ blank ∷ (a ++ blank ∷ b) → command_of_three name a b ≡ Some command → Says line command
unfolding command_of_three set_of read_of write_of
three_says line name a b command is e =
    let behind : (k : List ℕ) → name ≡ k → line ≡ k ++ blank ∷ (a ++ blank ∷ b) = λ k n. is ∙ ap (λ (m : List ℕ). m ++ blank ∷ (a ++ blank ∷ b)) n in
    in_table (three_rows a b) name command (Says line command) (
      λ n c. (let x = both_found Set (register_of a) (hexadecimal_of b) command c in told line (Set x.0 x.1) command x.4 (a, b, register_read a x.0 x.2, written_by_few b x.1 x.3, behind (codes "set") n)),
      (
        λ n c. (let x = both_found Read (hexadecimal_of a) (length_of b) command c in told line (Read x.0 x.1) command x.4 (a, b, written_by_few a x.0 x.2, length_read b x.1 x.3, behind (codes "read") n)),
        (
          λ n c. (let x = both_found Write (hexadecimal_of a) (data_of b) command c in told line (Write x.0 x.1) command x.4 (a, b, written_by_few a x.0 x.2, data_read b x.1 x.3, behind (codes "write") n)),
          tt,
        ),
      ),
    ) e

by_words : (words : List (List ℕ)) (line : List ℕ) (command : Command) → line ≡ join_with_byte blank words → command_in (first_words words) ≡ Some command → Says line command
by_words [] line command is e = absurd (cc)
by_words (name ∷ []) line command is e = one_says line name command is e
by_words (name ∷ a ∷ []) line command is e = two_says line name a command is e
by_words (name ∷ a ∷ b ∷ []) line command is e = three_says line name a b command is e
by_words (name ∷ a ∷ b ∷ c ∷ words) line command is e = absurd (cc)

pub to_row : (line : List ℕ) (command : Command) → command_of (Text line) ≡ Some command → Says line command
to_row line command e = by_words (words_of line) line command (sym (join_with_byte-slice_split blank line)) e
