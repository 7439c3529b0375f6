use Rattle.std.proofs.Common.{◌≡◌, ℕ, ◌<◌, length, get_or, arith}
use Rattle.std.proofs.lemmas.List.{get_or_read}
use Rattle.taxpolicy.specs.declared.stat.Stat.{Stat}
use Rattle.host_policy.specs.Numbers.{IsStatOf}
use Rattle.host_policy.proofs.Places.{done_more}
use Rattle.host_policy.proofs.numbers.read_stats.Goals as goal

pub loop-g-preserved : goal.loop-g-preserved
loop-g-preserved g c =
    let there : c.loop-g.g < length c.loop-g.stats = omega arith in
    let cell_there : c.loop-g.g < length c.args.cells.now = omega arith in
    λ k cell s below.
    done_more (λ (j : ℕ) (x : Stat). IsStatOf (get_or c.args.cells.now j cell).front x) c.loop-g.stats c.loop-g.g c.stat_of.result there
    (λ j d h. c.loop-g.invariant j cell d h)
    (let its : c.index-cells-g.result ≡ get_or c.args.cells.now c.loop-g.g cell = get_or_read _ _ _ cell_there c.index-cells-g.is cell in rw (← its) c.stat_of.ensures)
    k s below

pub returns : goal.returns
returns g c = record { count = omega arith; each = λ k cell s below. c.loop-g.invariant k cell s (omega arith) }
