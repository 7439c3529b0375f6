-- Bytes as digits, one part after another.
use Rattle.std.proofs.Common.{◌≡◌, ℕ, List, [], ◌∷◌, ◌++◌, refl, ◌∙◌, ap, w32}
use Rattle.std.specs.Int.{to_be_bytes}
use Rattle.std.specs.List.{flat_map}
use Rattle.hex.specs.Hex.{encode_lower, encode_with, lower_digits}
use Rattle.debugline.specs.Replies.{word_digits, words_text}

encode_with-append : (digits xs ys : List ℕ) → encode_with digits (xs ++ ys) ≡ encode_with digits xs ++ encode_with digits ys
unfolding encode_with
encode_with-append digits [] ys = refl
encode_with-append digits (x ∷ xs) ys = rw (encode_with-append digits xs ys) refl

-- the digits of the words' bytes are the words' digits
pub words_encoded : (words : List ℕ) → encode_lower (flat_map (λ word. to_be_bytes w32 word) words) ≡ words_text words
words_encoded [] = unfold encode_with in refl
words_encoded (word ∷ words) =
    encode_with-append lower_digits (to_be_bytes w32 word) (flat_map (λ w. to_be_bytes w32 w) words) ∙ ap (λ (text : List ℕ). word_digits word ++ text) (words_encoded words)
