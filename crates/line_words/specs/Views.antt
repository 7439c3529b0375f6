-- What the values of the code say.
use Rattle.std.specs.Prelude.{ℕ, List}
use Rattle.std.specs.Borrow.{Bor}
use Rattle.line_words.specs.Words.{Words, One, Two, Three, More}
use Rattle.line_words.specs.declared.words.Words.{Words as WordsCode}
use Rattle.line_words.specs.declared.words.Words.TheVariants as words

abbrev pub text_view : Bor (List ℕ) → List ℕ
text_view text = text.now

abbrev pub words_view : WordsCode → Words
words_view (words.One a) = One a.now
words_view (words.Two a b) = Two a.now b.now
words_view (words.Three a b c) = Three a.now b.now c.now
words_view words.More = More
