-- What rounds of a work answer, where their number tells it.
use Rattle.std.specs.Prelude.{◌≡◌, ℕ}
use Rattle.memory_bench.specs.declared.work.Work.{Work}
use Rattle.memory_bench.specs.declared.work.Work.TheVariants.{AppendStep, Append}

-- rounds that append make a log of so many items
abbrev pub Answers : Work → ℕ → ℕ → Type 0
Answers AppendStep count answer = answer ≡ count
Answers Append count answer = answer ≡ count
Answers _ count answer = Unit {0}
