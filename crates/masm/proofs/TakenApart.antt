-- Lines that are made of a name and of operands, and how the grammar takes them apart.
use Rattle.std.proofs.Common.{◌≡◌, ℕ, ◌-◌, ◌<◌, Bool, true, false, not, ◌&&◌, ◌==◌, List, [], ◌∷◌, ◌++◌, length, take, get_or, refl, ap, ◌∙◌, arith, Ok, Some, suc}
use Rattle.std.specs.List.{list_all, list_any, prefix_len, suffix_len, before_first, after_first}
use Rattle.std.specs.Char.{is_ascii}
use Rattle.std.proofs.lemmas.Bool.Decides.{nat_tests}
use Rattle.std.proofs.Math.Seq.{take-append_seam, drop-append-add, take-length}
use Rattle.std.proofs.lemmas.List.{length-append, get_or-append_right}
use Rattle.std.proofs.lemmas.List.Folds.{list_all-append, list_any-append}
use Rattle.std.proofs.lemmas.List.Sums.{suffix_len_is, AllPass-from_list_all}
use Rattle.masm_lines.specs.Characters.{is_blank, begins_comment, is_comma}
use Rattle.masm_lines.specs.Tokens.{trimmed, trimmed_start}
use Rattle.masm_lines.specs.Operands.{Written, written_of, operands_in, operands_up_to}

-- a character of a name or of operands: ASCII, and no blank or `#`
abbrev pub is_dense : ℕ → Bool
is_dense c = is_ascii c && (not (is_blank c) && not (begins_comment c))

-- a character of one operand: no comma either
abbrev pub is_solid : ℕ → Bool
is_solid c = is_dense c && not (is_comma c)

-- both of two are true where their conjunction is
pub both : (b c : Bool) → (b && c) ≡ true → (b ≡ true) × (c ≡ true)
both true c h = (refl, h)
both false c h = cc

-- what is not true is false
pub is_false : (b : Bool) → not b ≡ true → b ≡ false
is_false true h = cc
is_false false h = refl

-- a test that another implies passes wherever the other does
pub all_imply : (p q : ℕ → Bool) → ((c : ℕ) → p c ≡ true → q c ≡ true) → (xs : List ℕ) → list_all p xs ≡ true → list_all q xs ≡ true
all_imply p q f [] h = refl
all_imply p q f (x ∷ xs) h =
    let parts = both (p x) (list_all p xs) h in
    rw (f x parts.0) (all_imply p q f xs parts.1)

-- where all pass at the front and the next does not
pub front_stops : (p : ℕ → Bool) (xs : List ℕ) (c : ℕ) (more : List ℕ) → list_all p xs ≡ true → p c ≡ false → prefix_len p (xs ++ c ∷ more) ≡ length xs
front_stops p [] c more h stop = rw stop refl
front_stops p (x ∷ xs) c more h stop =
    let parts = both (p x) (list_all p xs) h in
    let rest = front_stops p xs c more parts.1 stop in
    rw parts.0 (omega (arith, rest))

-- where all pass
pub front_whole : (p : ℕ → Bool) (xs : List ℕ) → list_all p xs ≡ true → prefix_len p xs ≡ length xs
front_whole p [] h = refl
front_whole p (x ∷ xs) h =
    let parts = both (p x) (list_all p xs) h in
    let rest = front_whole p xs parts.1 in
    rw parts.0 (omega (arith, rest))

-- where none passes, not any does
pub none_pass : (p : ℕ → Bool) (xs : List ℕ) → list_all (λ c. not (p c)) xs ≡ true → list_any p xs ≡ false
none_pass p [] h = refl
none_pass p (x ∷ xs) h =
    let parts = both (not (p x)) (list_all (λ c. not (p c)) xs) h in
    let fails = is_false (p x) parts.0 in
    rw fails (none_pass p xs parts.1)

-- what stands before the first character that passes
pub before_it : (p : ℕ → Bool) (xs : List ℕ) (c : ℕ) (more : List ℕ) → list_all (λ x. not (p x)) xs ≡ true → p c ≡ true → before_first p (xs ++ c ∷ more) ≡ xs
before_it p xs c more h stop =
    let stops : not (p c) ≡ false = rw stop refl in
    rw (front_stops (λ x. not (p x)) xs c more h stops) (take-append_seam xs (c ∷ more))

-- what stands behind the first character that passes
pub behind_it : (p : ℕ → Bool) (xs : List ℕ) (c : ℕ) (more : List ℕ) → list_all (λ x. not (p x)) xs ≡ true → p c ≡ true → after_first p (xs ++ c ∷ more) ≡ more
behind_it p xs c more h stop =
    let stops : not (p c) ≡ false = rw stop refl in
    rw (front_stops (λ x. not (p x)) xs c more h stops) (drop-append-add xs (c ∷ more) 1)

-- all of a text stands before a character that it lacks
pub before_none : (p : ℕ → Bool) (xs : List ℕ) → list_all (λ x. not (p x)) xs ≡ true → before_first p xs ≡ xs
before_none p xs h = rw (front_whole (λ x. not (p x)) xs h) (take-length xs)

-- a text that ends with characters none of which passes
pub back_stops : (p : ℕ → Bool) (xs ys : List ℕ) → 0 < length ys → list_all (λ x. not (p x)) ys ≡ true → suffix_len p (xs ++ ys) ≡ 0
back_stops p xs ys some h =
    let size = length-append xs ys in
    let last : p (get_or (xs ++ ys) (length (xs ++ ys) - 1) 0) ≡ false =
    is_false _ (rw (get_or-append_right xs ys (length xs) (length (xs ++ ys) - 1) 0 refl (omega arith)) (AllPass-from_list_all (λ x. not (p x)) ys h (length (xs ++ ys) - 1 - length xs) 0 (omega arith))) in
    let all = suffix_len_is p (xs ++ ys) (length (xs ++ ys)) 0 (omega arith) (λ k low high. absurd (omega arith)) (λ some. last) in
    omega arith

-- a dense character is ASCII
pub dense_ascii : (c : ℕ) → is_dense c ≡ true → is_ascii c ≡ true
dense_ascii c h = (both (is_ascii c) (not (is_blank c) && not (begins_comment c)) h).0

-- a dense character is no blank
pub dense_no_blank : (c : ℕ) → is_dense c ≡ true → not (is_blank c) ≡ true
dense_no_blank c h = (both (not (is_blank c)) (not (begins_comment c)) (both (is_ascii c) (not (is_blank c) && not (begins_comment c)) h).1).0

-- a dense character is no `#`
pub dense_no_comment : (c : ℕ) → is_dense c ≡ true → not (begins_comment c) ≡ true
dense_no_comment c h = (both (not (is_blank c)) (not (begins_comment c)) (both (is_ascii c) (not (is_blank c) && not (begins_comment c)) h).1).1

-- a solid character is dense
pub solid_dense : (c : ℕ) → is_solid c ≡ true → is_dense c ≡ true
solid_dense c h = (both (is_dense c) (not (is_comma c)) h).0

-- a solid character is no comma
pub solid_no_comma : (c : ℕ) → is_solid c ≡ true → not (is_comma c) ≡ true
solid_no_comma c h = (both (is_dense c) (not (is_comma c)) h).1

-- a solid character is no blank
pub solid_no_blank : (c : ℕ) → is_solid c ≡ true → not (is_blank c) ≡ true
solid_no_blank c h = dense_no_blank c (solid_dense c h)

-- a test of all of two texts
pub all_of_two : (p : ℕ → Bool) (xs ys : List ℕ) → list_all p xs ≡ true → list_all p ys ≡ true → list_all p (xs ++ ys) ≡ true
all_of_two p xs ys h k = list_all-append p xs ys ∙ rw (h, k) refl

-- all of a text is taken
take_to : (n : ℕ) (xs : List ℕ) → n ≡ length xs → take n xs ≡ xs
take_to n xs e = ap (λ m. take m xs) e ∙ take-length xs

-- a length above 0 is not 0
pub is_some : (n : ℕ) → 0 < n → (n == 0) ≡ false
is_some n h = grind (arith, nat_tests)

-- a text that begins and ends with no blank is not trimmed
pub untrimmed : (c : ℕ) (xs ys : List ℕ) → not (is_blank c) ≡ true → suffix_len is_blank ((c ∷ xs) ++ ys) ≡ 0 → trimmed ((c ∷ xs) ++ ys) ≡ (c ∷ xs) ++ ys
unfolding trimmed trimmed_start
untrimmed c xs ys h none =
    rw (is_false (is_blank c) h, none) (take_to (length ((c ∷ xs) ++ ys) - 0) ((c ∷ xs) ++ ys) (omega arith))

-- one operand is not trimmed
pub solid_untrimmed : (xs : List ℕ) → 0 < length xs → list_all is_solid xs ≡ true → trimmed xs ≡ xs
unfolding trimmed trimmed_start
solid_untrimmed [] some h = refl
solid_untrimmed (c ∷ xs) some h =
    let no_blanks = all_imply is_solid (λ x. not (is_blank x)) solid_no_blank (c ∷ xs) h in
    let first = is_false (is_blank c) (both (not (is_blank c)) (list_all (λ x. not (is_blank x)) xs) no_blanks).0 in
    let none : suffix_len is_blank (c ∷ xs) ≡ 0 = back_stops is_blank [] (c ∷ xs) some no_blanks in
    rw (first, none) (take_to (length (c ∷ xs) - 0) (c ∷ xs) (omega arith))

-- a text is one operand
pub record IsOperand (text : List ℕ) (w : Written) : Type 0 where
  pub some : 0 < length text
  pub solid : list_all is_solid text ≡ true
  pub reads : written_of text ≡ Some w

-- an operand without a comma is the last
pub last_operand : (most : ℕ) (text : List ℕ) (w : Written) → IsOperand text w → operands_up_to (suc most) text ≡ Ok (w ∷ [])
last_operand most text w is =
    let no_commas = all_imply is_solid (λ x. not (is_comma x)) solid_no_comma text is.solid in
    rw (before_none is_comma text no_commas, solid_untrimmed text is.some is.solid, is.reads, none_pass is_comma text no_commas) refl

-- an operand with a comma behind it is followed by others
pub next_operand : (most : ℕ) (text more : List ℕ) (w : Written) (ws : List Written) → IsOperand text w → operands_up_to most more ≡ Ok ws → operands_up_to (suc most) (text ++ 44 ∷ more) ≡ Ok (w ∷ ws)
next_operand most text more w ws is others =
    let no_commas = all_imply is_solid (λ x. not (is_comma x)) solid_no_comma text is.solid in
    let has : list_any is_comma (text ++ 44 ∷ more) ≡ true = list_any-append is_comma text (44 ∷ more) ∙ rw (none_pass is_comma text no_commas) refl in
    rw (before_it is_comma text 44 more no_commas refl, solid_untrimmed text is.some is.solid, is.reads, has, behind_it is_comma text 44 more no_commas refl, others) refl

-- the operands of a line: their text, and what they are
pub record AreOperands (text : List ℕ) (ws : List Written) : Type 0 where
  pub some : 0 < length text
  pub dense : list_all is_dense text ≡ true
  pub read : operands_in text ≡ Ok ws

-- up to three operands in a text that is not empty are its operands
in_text : (text : List ℕ) (ws : List Written) → 0 < length text → operands_up_to 3 text ≡ Ok ws → operands_in text ≡ Ok ws
unfolding operands_in
in_text [] ws some h = absurd (omega (arith, some))
in_text (c ∷ text) ws some h = rw (is_some (length (c ∷ text)) some) h

-- the operands of a line with one
pub one_operand : (a : List ℕ) (x : Written) → IsOperand a x → AreOperands a (x ∷ [])
one_operand a x is = record { some = is.some; dense = all_imply is_solid is_dense solid_dense a is.solid; read = in_text a (x ∷ []) is.some (last_operand 2 a x is) }

-- a text that begins with some is not empty
with_some : (a more : List ℕ) → 0 < length a → 0 < length (a ++ more)
with_some a more h = omega (arith, length-append a more)

-- the operands of a line with two
pub two_operands : (a b : List ℕ) (x y : Written) → IsOperand a x → IsOperand b y → AreOperands (a ++ 44 ∷ b) (x ∷ y ∷ [])
two_operands a b x y isa isb = record {
  some = with_some a (44 ∷ b) isa.some;
  dense = all_of_two is_dense a (44 ∷ b) (all_imply is_solid is_dense solid_dense a isa.solid) (all_imply is_solid is_dense solid_dense b isb.solid);
  read = in_text (a ++ 44 ∷ b) (x ∷ y ∷ []) (with_some a (44 ∷ b) isa.some) (next_operand 2 a b x (y ∷ []) isa (last_operand 1 b y isb));
}

-- the operands of a line with three
pub three_operands : (a b d : List ℕ) (x y z : Written) → IsOperand a x → IsOperand b y → IsOperand d z → AreOperands (a ++ 44 ∷ (b ++ 44 ∷ d)) (x ∷ y ∷ z ∷ [])
three_operands a b d x y z isa isb isd = record {
  some = with_some a (44 ∷ (b ++ 44 ∷ d)) isa.some;
  dense = all_of_two is_dense a (44 ∷ (b ++ 44 ∷ d)) (all_imply is_solid is_dense solid_dense a isa.solid) (all_of_two is_dense b (44 ∷ d) (all_imply is_solid is_dense solid_dense b isb.solid) (all_imply is_solid is_dense solid_dense d isd.solid));
  read = in_text (a ++ 44 ∷ (b ++ 44 ∷ d)) (x ∷ y ∷ z ∷ []) (with_some a (44 ∷ (b ++ 44 ∷ d)) isa.some) (next_operand 2 a (b ++ 44 ∷ d) x (y ∷ z ∷ []) isa (next_operand 1 b d y (z ∷ []) isb (last_operand 0 d z isd)));
}
