-- The pages that are sampled to see which are active (Waldspurger, OSDI 2002, section 5.3).
use Rattle.std.specs.Prelude.{ℕ, zero, suc, ◌%◌, List, [], ◌∷◌}
use Rattle.rand_core.specs.Stream.{Stream, next_u32}

-- so many draws of a page number, each the next word of the generator modulo the pages
unfoldable pub drawn : ℕ → ℕ → Stream → List ℕ
drawn pages zero stream = []
drawn pages (suc n) stream = (next_u32 stream).0 % pages ∷ drawn pages n (next_u32 stream).1

-- what the generator will answer after so many words
unfoldable pub after_words : ℕ → Stream → Stream
after_words zero stream = stream
after_words (suc n) stream = after_words n (next_u32 stream).1
