use Rattle.std.proofs.Common.{◌≡◌, ◌+◌, ◌-◌, ◌*◌, List, ◌++◌, take, drop, length, ℕ, sym, ap, ◌∙◌, arith, append_assoc, drop-drop}
use Rattle.word32.specs.Zeros.{zeros}
use Rattle.flatvm.proofs.bus.clear_page.Goals as goal

pub returns-clause-cleared : goal.returns-clause-cleared
returns-clause-cleared c =
    let whole : c.number.result * 4096 + 4096 - c.number.result * 4096 ≡ 4096 = omega arith in
    let memory = c.args.memory.now in
    let start = c.args.page * 4096 in
    let cleared = zeros (length (take 4096 (drop start memory))) in
    rw (c.clear.ensures, whole, c.number.ensures.value)
    (ap (λ (rest : List ℕ). take start memory ++ (cleared ++ rest)) (drop-drop 4096 start memory)
    ∙ sym (append_assoc (take start memory) cleared (drop (start + 4096) memory)))
