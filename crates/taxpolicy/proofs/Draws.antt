-- One draw more.
use Rattle.std.proofs.Common.{◌≡◌, ℕ, ◌+◌, ◌%◌, ◌<◌, zero, suc, List, [], ◌∷◌, ◌++◌, length, take, set, refl, ap, ◌∙◌, sym, add-one}
use Rattle.std.proofs.lemmas.List.{take_more_set}
use Rattle.rand_core.specs.Stream.{Stream, next_u32}
use Rattle.taxpolicy.specs.Sample.{drawn, after_words}

after_words-suc : (n : ℕ) (s : Stream) → after_words (suc n) s ≡ (next_u32 (after_words n s)).1
unfolding after_words
after_words-suc zero s = refl
after_words-suc (suc n) s = after_words-suc n (next_u32 s).1

drawn-suc : (pages n : ℕ) (s : Stream) → drawn pages (suc n) s ≡ drawn pages n s ++ ((next_u32 (after_words n s)).0 % pages) ∷ []
unfolding drawn after_words
drawn-suc pages zero s = refl
drawn-suc pages (suc n) s = ap (λ (xs : List ℕ). ((next_u32 s).0 % pages) ∷ xs) (drawn-suc pages n (next_u32 s).1)

-- the generator after one word more
pub word_more : (n word : ℕ) (s now next : Stream) → now ≡ after_words n s → (word, next) ≡ next_u32 now → next ≡ after_words (n + 1) s
word_more n word s now next before drew =
    rw add-one (ap (λ (p : ℕ × Stream). p.1) drew ∙ ap (λ (t : Stream). (next_u32 t).1) before ∙ sym (after_words-suc n s))

-- the draws with one draw more written
pub draw_more : (pages n word : ℕ) (s now next : Stream) (draws : List ℕ) → n < length draws → now ≡ after_words n s → (word, next) ≡ next_u32 now → take n draws ≡ drawn pages n s → take (n + 1) (set draws n (word % pages)) ≡ drawn pages (n + 1) s
draw_more pages n word s now next draws within before drew so_far =
    let value : word ≡ (next_u32 (after_words n s)).0 = ap (λ (p : ℕ × Stream). p.0) drew ∙ ap (λ (t : Stream). (next_u32 t).0) before in
    take_more_set draws n (word % pages) within
    ∙ ap (λ (xs : List ℕ). xs ++ (word % pages) ∷ []) so_far
    ∙ ap (λ w. drawn pages n s ++ (w % pages) ∷ []) value
    ∙ rw add-one (sym (drawn-suc pages n s))
