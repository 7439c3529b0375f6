use Rattle.std.proofs.Common.{◌≡◌, ◌∙◌, ap, subst, arith, List, ℕ, IfOk, string_bytes, take, w32}
use Rattle.std.specs.Int.{to_be_bytes}
use Rattle.std.specs.List.{flat_map}
use Rattle.std.proofs.lemmas.Grind.{common_steps}
use Rattle.hex.specs.Hex.{encode_lower}
use Rattle.debugline.proofs.Encoded.{words_encoded}
use Rattle.debugline.proofs.answer.words_in_digits.Goals as goal

pub returns : goal.returns
returns c =
    let words = c.args.words.now in
    let whole : take c.loop-word.word-index words ≡ words = grind (arith, common_steps) in
    let bytes : c.as_slice.result.now ≡ flat_map (λ word. to_be_bytes w32 word) words = c.as_slice.ensures.value ∙ c.loop-word.invariant ∙ ap (flat_map (λ word. to_be_bytes w32 word)) whole in
    let P : List ℕ → Type 0 = λ t. IfOk c.encode.result (λ text. string_bytes text ≡ t) in
    subst P (ap encode_lower bytes ∙ words_encoded words) c.encode.ensures
