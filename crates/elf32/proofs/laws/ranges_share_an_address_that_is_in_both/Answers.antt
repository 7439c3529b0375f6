use Rattle.std.proofs.Common.{◌+◌, nat_lt, max, arith}
use Rattle.std.proofs.lemmas.Bool.{ltb-true}
use Rattle.elf32.proofs.Truth.{both}
use Rattle.elf32.proofs.laws.ranges_share_an_address_that_is_in_both.Goals as goal

-- the later of the two beginnings
pub returns-clause-found : goal.returns-clause-found
returns-clause-found c = λ a b some other h.
    let parts = both (nat_lt a.address (b.address + b.size)) (nat_lt b.address (a.address + a.size)) h in
    let below = ltb-true a.address (b.address + b.size) parts.0 in
    let above = ltb-true b.address (a.address + a.size) parts.1 in
    (max a.address b.address, omega arith, omega arith, omega arith, omega arith)
