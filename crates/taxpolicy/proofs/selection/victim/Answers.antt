use Rattle.std.proofs.Common.{◌≡◌, get_or, sym, ◌∙◌, ap, arith}
use Rattle.std.proofs.lemmas.List.{take_all}
use Rattle.std.proofs.lemmas.Option.{none-some, same_Some}
use Rattle.taxpolicy.proofs.Leasts.{victim_taken, victim_kept}
use Rattle.taxpolicy.proofs.Victims.{victim_value, victim_exact, victim_nobody, victim_within}
use Rattle.taxpolicy.proofs.selection.victim.Goals as goal
use Rattle.taxpolicy.proofs.selection.victim.Goals.{in-None, in-Some, then-stat+then-lower, else-stat, else-stat-via-then-stat+else-lower, else-stat-via-else-stat}

pub loop-i-preserved : goal.loop-i-preserved
loop-i-preserved c =
    let stats = c.args.stats.now in
    let x = c.index-stats-i.result in
    let before = c.loop-i.invariant in
    let there = c.loop-i-test.true in
    elim c.if-stat.branch [
      | then-stat+then-lower w ↦
          rw w.least-is (victim_taken _ stats c.loop-i.i x c.loop-i.least c.args.tax.below there c.index-stats-i.is before w.if-stat.true (λ g is. elim c.match-least.branch [
            | in-None m ↦ absurd (none-some g (sym m.in-None.is ∙ is))
            | in-Some m ↦
                let same : m.in-Some.g ≡ g = same_Some _ _ (sym m.in-Some.is ∙ is) in
                (m.index-stats-g.result, m.index-stats-g.is ∙ ap (λ n. get_or stats n m.index-stats-g.result) same, (grind arith))
          ]))
      | else-stat w ↦
          let kept : c.if-stat.least ≡ c.loop-i.least = w.least-is ∙ elim c.match-least.branch [ in-None m ↦ m.least-is | in-Some m ↦ m.least-is ∙ sym m.in-Some.is ] in
          rw kept (victim_kept _ stats c.loop-i.i x c.loop-i.least there c.index-stats-i.is before (λ able. elim w.else-stat.branch [
            | else-stat-via-then-stat+else-lower v ↦ elim c.match-least.branch [
              | in-None m ↦ cc
              | in-Some m ↦
                  (m.in-Some.g, m.index-stats-g.result, m.in-Some.is, m.index-stats-g.is, λ less. grind arith)
            ]
            | else-stat-via-else-stat v ↦ absurd (omega (arith, v.if-stat.false))
          ]))
    ]

pub returns-clause-within : goal.returns-clause-within
returns-clause-within c =
    let all = take_all c.loop-i.i c.args.stats.now (omega arith) in
    victim_within c.args.tax.percent c.args.stats.now c.loop-i.least (rw all at c.loop-i.invariant)

pub returns-clause-least : goal.returns-clause-least
returns-clause-least c =
    let all = take_all c.loop-i.i c.args.stats.now (omega arith) in
    victim_exact _ _ _ (rw all at c.loop-i.invariant)

pub returns-clause-nobody : goal.returns-clause-nobody
returns-clause-nobody c =
    let all = take_all c.loop-i.i c.args.stats.now (omega arith) in
    victim_nobody c.args.tax.percent _ _ (rw all at c.loop-i.invariant)

pub returns-clause-value : goal.returns-clause-value
returns-clause-value c =
    let all = take_all c.loop-i.i c.args.stats.now (omega arith) in
    victim_value _ _ _ (rw all at c.loop-i.invariant)
