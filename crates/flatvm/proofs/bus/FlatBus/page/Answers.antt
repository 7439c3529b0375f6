use Rattle.std.proofs.Common.{rules, ◌≡◌, ℕ, ◌+◌, ◌-◌, ◌*◌, take, drop, ap, ◌∙◌, arith}
use Rattle.machine.specs.Board.{page_bytes}
use Rattle.flatvm.proofs.bus.FlatBus.page.Goals as goal

pub returns-clause-bytes : goal.returns-clause-bytes
returns-clause-bytes c =
    let whole : c.number.result * 4096 + 4096 - c.number.result * 4096 ≡ 4096 = omega arith in
    let its : take 4096 (drop (c.number.result * 4096) c.deref.result.now) ≡ page_bytes c.args.page c.args.self.now.memory = search rules in
    ap (λ (n : ℕ). take n (drop (c.number.result * 4096) c.deref.result.now)) whole ∙ its
