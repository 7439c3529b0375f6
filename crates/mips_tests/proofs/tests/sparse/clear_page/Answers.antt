use Rattle.std.proofs.Common.{◌≡◌, ◌+◌, ◌-◌, ◌*◌, ℕ, List, ◌++◌, take, drop, length, sym, ap, ◌∙◌, arith, append_assoc, drop-drop}
use Rattle.word32.specs.Zeros.{zeros}
use Rattle.mips_tests.proofs.tests.sparse.clear_page.Goals as goal

-- what is left after the page, in two drops and in one
pub returns-clause-cleared : goal.returns-clause-cleared
returns-clause-cleared c =
    let bytes = c.args.bytes.now in
    let start = c.args.page * 4096 in
    let cleared = zeros (length (take 4096 (drop start bytes))) in
    let count : c.number.result * 4096 + 4096 - c.number.result * 4096 ≡ 4096 = omega arith in
    rw (c.clear.ensures, count, c.number.ensures.value)
    (ap (λ (rest : List ℕ). take start bytes ++ (cleared ++ rest)) (drop-drop 4096 start bytes) ∙ sym (append_assoc (take start bytes) cleared (drop (start + 4096) bytes)))
