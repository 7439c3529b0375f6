-- The bytes of words, one after the other.
use Rattle.std.proofs.Common.{◌≡◌, ℕ, ◌+◌, ◌*◌, List, [], ◌∷◌, ◌++◌, length, length-append, refl, ◌∙◌, sym, ap, arith, append_assoc, append-nil, Result, Ok, Err}
use Rattle.std.specs.Int.{to_le_bytes, w32}
use Rattle.masm_lines.specs.Operands.{Value}
use Rattle.masm_lines.specs.Steps.{◌>>=◌}
use Rattle.masm_lines.specs.declared.fault.AsmFault.{AsmFault}
use Rattle.masm.specs.Meanings.{value_word, words_bytes}
use Rattle.masm.specs.Names.{Names}
use Rattle.masm.proofs.Answered.{answered}

-- four for each word
pub words_size : (names : Names) (values : List Value) (bytes : List ℕ) → words_bytes names values ≡ Ok bytes → length bytes ≡ length values * 4
words_size names [] bytes h =
    let same : [] ≡ bytes = cc in
    let none : length bytes ≡ length {A = ℕ} [] = ap length (sym same) in
    omega arith
words_size names (v ∷ vs) bytes h =
    let n = answered (value_word names v) (λ n. words_bytes names vs >>= λ more. Ok (to_le_bytes w32 n ++ more)) bytes h in
    let more = answered (words_bytes names vs) (λ more. Ok (to_le_bytes w32 n.0 ++ more)) bytes n.2 in
    let same : to_le_bytes w32 n.0 ++ more.0 ≡ bytes = cc (more.2) in
    let whole : length bytes ≡ length (to_le_bytes w32 n.0 ++ more.0) = ap length (sym same) in
    let both = length-append (to_le_bytes w32 n.0) more.0 in
    let four : length (to_le_bytes w32 n.0) ≡ 4 = refl in
    let rest = words_size names vs more.0 more.1 in
    omega arith

joined : (done word : List ℕ) (r : Result (List ℕ) AsmFault) → ((r >>= λ more. Ok (word ++ more)) >>= λ more. Ok (done ++ more)) ≡ (r >>= λ more. Ok ((done ++ word) ++ more))
joined done word (Ok more) = ap (λ (bytes : List ℕ). Ok bytes) (sym (append_assoc done word more))
joined done word (Err f) = refl

-- one word more, and those behind it
pub word_more : (names : Names) (all rest : List Value) (done : List ℕ) (v : Value) (vs : List Value) (n : ℕ)
    → words_bytes names all ≡ (words_bytes names rest >>= λ more. Ok (done ++ more)) → rest ≡ v ∷ vs → value_word names v ≡ Ok n
    → words_bytes names all ≡ (words_bytes names vs >>= λ more. Ok ((done ++ to_le_bytes w32 n) ++ more))
word_more names all rest done v vs n h e k =
    h ∙ ap (λ values. words_bytes names values >>= λ more. Ok (done ++ more)) e
    ∙ ap (λ (r : Result ℕ AsmFault). (r >>= λ n. words_bytes names vs >>= λ more. Ok (to_le_bytes w32 n ++ more)) >>= λ more. Ok (done ++ more)) k
    ∙ joined done (to_le_bytes w32 n) (words_bytes names vs)

-- a word that is none
pub word_none : (names : Names) (all rest : List Value) (done : List ℕ) (v : Value) (vs : List Value) (f : AsmFault)
    → words_bytes names all ≡ (words_bytes names rest >>= λ more. Ok (done ++ more)) → rest ≡ v ∷ vs → value_word names v ≡ Err f
    → words_bytes names all ≡ Err f
word_none names all rest done v vs f h e k =
    h ∙ ap (λ values. words_bytes names values >>= λ more. Ok (done ++ more)) e
    ∙ ap (λ (r : Result ℕ AsmFault). (r >>= λ n. words_bytes names vs >>= λ more. Ok (to_le_bytes w32 n ++ more)) >>= λ more. Ok (done ++ more)) k
