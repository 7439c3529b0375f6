-- The draws of a sample, one by one.
use Rattle.std.proofs.Common.{◌≡◌, ℕ, ◌%◌, ◌<◌, zero, suc, length, get_or, All, refl, ap, arith}
use Rattle.std.proofs.lemmas.Nat.{mod_below}
use Rattle.rand_core.specs.Stream.{Stream, next_u32}
use Rattle.taxpolicy.specs.Sample.{drawn, after_words}

pub count : (pages n : ℕ) (stream : Stream) → length (drawn pages n stream) ≡ n
unfolding drawn
count pages zero stream = refl
count pages (suc n) stream = ap (λ k. suc k) (count pages n (next_u32 stream).1)

pub each_word : (pages n k : ℕ) (stream : Stream) → k < n → get_or (drawn pages n stream) k 0 ≡ (next_u32 (after_words k stream)).0 % pages
unfolding drawn after_words
each_word pages zero k stream within = absurd (omega arith)
each_word pages (suc n) zero stream within = refl
each_word pages (suc n) (suc k) stream within = each_word pages n k (next_u32 stream).1 (omega arith)

pub all_below : (pages n : ℕ) (stream : Stream) → 0 < pages → All (λ page. page < pages) (drawn pages n stream)
unfolding drawn
all_below pages zero stream some k d within = absurd (omega arith)
all_below pages (suc n) stream some zero d within = mod_below (next_u32 stream).0 pages some
all_below pages (suc n) stream some (suc k) d within = all_below pages n (next_u32 stream).1 some k d (omega arith)
