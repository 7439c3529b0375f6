use Rattle.std.proofs.Common.{ℕ, ◌≡◌, ◌<◌, true, length, set, ap, ◌∙◌, arith, length-set}
use Rattle.reset_machine.specs.Marks.{MarksAre, is_marked}
use Rattle.reset_machine.proofs.Marking.{page_listed}
use Rattle.reset_machine.proofs.marks.Marks.add.Goals as goal

pub invariant_of-self : goal.invariant_of-self
invariant_of-self c =
    let marked = c.self.inside.marked.items in
    let same : marked ≡ c.args.self.now.marked = ap (λ (m : MarksAre). m.marked) c.self.view_is in
    let there : c.args.page < length marked = omega (arith, ap length same, c.requires.there) in
    let now : set marked c.number.result true ≡ set marked c.args.page true = ap (λ (n : ℕ). set marked n true) c.number.ensures.value in (
      page_listed marked (set marked c.number.result true) c.self.inside.list.items c.push_reserved.new.self.items c.args.page there
          (ap (is_marked c.args.page) same ∙ c.requires.clear) c.self.invariant.0 now c.push_reserved.ensures.items,
      omega (arith, length-set marked c.number.result true, c.self.invariant.1, c.push_reserved.ensures.capacity),
    )
