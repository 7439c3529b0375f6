use Rattle.std.proofs.Common.{◌≡◌, ◌-◌, suc, sym, ap, refl, ◌∙◌, arith}
use Rattle.taxpolicy.specs.Targets.{reclaimed}
use Rattle.taxpolicy.proofs.Reclaiming.{without_page_less, reclaimed_within, reclaimed_nobody, reclaimed_more}
use Rattle.taxpolicy.proofs.allotment.reclaim.Goals as goal

pub take_page-requires : goal.take_page-requires
take_page-requires c =
    let least = (c.in-Some.ensures.least c.in-Some.g).0 refl in
    (least.guest, least.there, omega (arith, least.eligible))

pub loop-left-preserved : goal.loop-left-preserved
loop-left-preserved c =
    let least = (c.in-Some.ensures.least c.in-Some.g).0 refl in
    let before = c.loop-left.invariant in
    let less = without_page_less c.loop-left.stats c.in-Some.g least.guest least.there (omega (arith, least.eligible)) in
    let one_more : c.loop-left.left ≡ suc (c.loop-left.left - 1) = omega arith in
    let step = reclaimed_more c.args.tax.percent c.args.limit (c.loop-left.left - 1) c.loop-left.stats c.in-Some.g (omega arith) (sym c.in-Some.ensures.value) in
    record {
      total = rw c.take_page.ensures (omega (arith, less));
      same = rw c.take_page.ensures (sym step ∙ ap (λ n. reclaimed c.args.tax.percent c.args.limit n c.loop-left.stats) (sym one_more) ∙ before.same);
    }

pub returns-after-loop-left : goal.returns-after-loop-left
returns-after-loop-left c = sym (reclaimed_within c.args.tax.percent c.args.limit c.loop-left.left c.loop-left.stats (omega arith)) ∙ c.loop-left.invariant.same

pub returns-in_default : goal.returns-in_default
returns-in_default c = sym (reclaimed_nobody c.args.tax.percent c.args.limit c.loop-left.left c.loop-left.stats (sym c.victim.ensures.value ∙ c.in_default.is)) ∙ c.loop-left.invariant.same
