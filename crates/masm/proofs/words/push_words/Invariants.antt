use Rattle.std.proofs.Common.{◌≡◌, ◌++◌, List, ℕ, length, Ok}
use Rattle.masm.specs.Answers.{Knows}
use Rattle.masm.specs.Meanings.{words_bytes}
use Rattle.masm.specs.Names as naming
use Rattle.masm_lines.specs.Steps.{◌>>=◌}
use Rattle.masm_lines.specs.Views.{list_values, rest_values}
use Rattle.masm.proofs.words.push_words.Given as goal

abbrev pub invariant-loop-rest : goal.invariant-loop-rest
invariant-loop-rest l =
    (done : List ℕ) × (l.bytes.items ≡ l.fn.bytes.items ++ done)
    × ((known : naming.Names) → Knows l.names known → words_bytes known (list_values l.list) ≡ (words_bytes known (rest_values l.rest) >>= λ more. Ok (done ++ more)))

abbrev pub decreases-loop-rest : goal.decreases-loop-rest
decreases-loop-rest l = length (rest_values l.rest)
