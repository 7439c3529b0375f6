-- A line and its words.
use Rattle.std.proofs.Common.{◌≡◌, ◌≢◌, ℕ, ◌+◌, ◌<◌, ◌≤◌, List, [], ◌∷◌, ◌++◌, length, take, drop, refl, sym, ◌∙◌, ap, subst, arith, false, Option, Some}
use Rattle.std.specs.Borrow.{Bor}
use Rattle.std.specs.Prelude.{option_map}
use Rattle.std.specs.List.{position_or_len, AllByRecursion, All}
use Rattle.std.proofs.lemmas.Bool.Decides.{nat_tests}
use Rattle.std.proofs.lemmas.List.Elements.{All-from_recursion}
use Rattle.std.proofs.lemmas.List.Splits.{slice_split_first, slice_split_none, slice_split_at, length-slice_split}
use Rattle.std.proofs.lemmas.List.Sums.{fails_before_first}
use Rattle.line_words.specs.Words.{blank, is_blank, HasNoBlank, words_of, words_behind, More, first_words}
use Rattle.line_words.specs.Views.{text_view}

-- a line with a blank, by the first one
pub first_word_ends : (text : List ℕ) (end : ℕ) → end ≡ position_or_len is_blank text → end < length text → words_of text ≡ take end text ∷ words_of (drop (end + 1) text)
first_word_ends text end is within =
    subst (λ (n : ℕ). words_of text ≡ take n text ∷ words_of (drop (n + 1) text)) (sym is) (slice_split_first is_blank text 0 (subst (λ (n : ℕ). n < length text) is within))

-- a line without one
pub one_word : (text : List ℕ) → length text ≤ position_or_len is_blank text → words_of text ≡ text ∷ []
one_word text none = slice_split_none is_blank text (λ k d within. fails_before_first is_blank text k d (omega arith))

-- four words or more
more_by : (a b c : List ℕ) (words : List (List ℕ)) → 0 < length words → first_words (a ∷ b ∷ c ∷ words) ≡ More
more_by a b c [] some = absurd (omega arith)
more_by a b c (word ∷ words) some = refl

pub more_words : (a b c rest : List ℕ) → first_words (a ∷ b ∷ c ∷ words_of rest) ≡ More
more_words a b c rest = more_by a b c (words_of rest) (omega (arith, length-slice_split is_blank rest))

blanks_fail : (word : List ℕ) → HasNoBlank word → AllByRecursion (λ c. is_blank c ≡ false) word
blanks_fail [] free = tt
blanks_fail (c ∷ cs) free = (fails c free.0, blanks_fail cs free.1)
  where
    fails : (c : ℕ) → c ≢ blank → is_blank c ≡ false
    fails c other = grind (arith, nat_tests, other)

all_fail : (word : List ℕ) → HasNoBlank word → All (λ c. is_blank c ≡ false) word
all_fail word free = All-from_recursion (λ c. is_blank c ≡ false) word (blanks_fail word free)

pub one_without_blank : (word : List ℕ) → HasNoBlank word → words_of word ≡ word ∷ []
one_without_blank word free = slice_split_none is_blank word (all_fail word free)

pub more_behind_blank : (word rest : List ℕ) → HasNoBlank word → words_of (word ++ blank ∷ rest) ≡ word ∷ words_of rest
more_behind_blank word rest free = slice_split_at is_blank word blank rest (all_fail word free) refl

-- words one after another, each behind the blank that ends the one before
pub four_words : (line a b c : List ℕ) (behind_a behind_b behind_c : Option (Bor (List ℕ))) (x y z : Bor (List ℕ))
    → words_of line ≡ a ∷ words_behind (option_map text_view behind_a) → behind_a ≡ Some x
    → words_of x.now ≡ b ∷ words_behind (option_map text_view behind_b) → behind_b ≡ Some y
    → words_of y.now ≡ c ∷ words_behind (option_map text_view behind_c) → behind_c ≡ Some z
    → first_words (words_of line) ≡ More
four_words line a b c behind_a behind_b behind_c x y z first is second is' third is'' =
    let behind : Option (Bor (List ℕ)) → List (List ℕ) = λ rest. words_behind (option_map text_view rest) in
    let from_third : words_of y.now ≡ c ∷ words_of z.now = third ∙ ap (λ (r : Option (Bor (List ℕ))). c ∷ behind r) is'' in
    let from_second : words_of x.now ≡ b ∷ c ∷ words_of z.now = second ∙ ap (λ (r : Option (Bor (List ℕ))). b ∷ behind r) is' ∙ ap (λ (ws : List (List ℕ)). b ∷ ws) from_third in
    let whole : words_of line ≡ a ∷ b ∷ c ∷ words_of z.now = first ∙ ap (λ (r : Option (Bor (List ℕ))). a ∷ behind r) is ∙ ap (λ (ws : List (List ℕ)). a ∷ ws) from_second in
    ap first_words whole ∙ more_words a b c z.now
