-- What rounds of a work answer, as far as their number tells it.
use Rattle.std.specs.Prelude.{◌≡◌, ◌≤◌, ◌*◌, ℕ}
use Rattle.host_bench.specs.declared.beside.Call.{Call}
use Rattle.host_bench.specs.declared.beside.Call.TheVariants.{Feed, Seen, Read}
use Rattle.host_bench.specs.declared.work.Work.{Work}
use Rattle.host_bench.specs.declared.work.Work.TheVariants.{WorldSteps, Slices, Calls, Scan, Evict}

-- at most three bytes a call are put; a look at a log is never shorter than the one before
abbrev pub CallsAnswer : Call → ℕ → ℕ → Type 0
CallsAnswer Feed count answer = answer ≤ 3 * count
CallsAnswer Seen count answer = answer ≡ count
CallsAnswer Read count answer = answer ≤ count

-- at most 1,024 steps a round are made, and one page is scanned or evicted
abbrev pub Answers : Work → ℕ → ℕ → Type 0
Answers WorldSteps count answer = answer ≤ 1024 * count
Answers Slices count answer = answer ≤ 1024 * count
Answers (Calls call) count answer = CallsAnswer call count answer
Answers Scan count answer = answer ≤ count
Answers Evict count answer = answer ≤ count
