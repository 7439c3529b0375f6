use Rattle.std.proofs.Common.{rules, ◌≡◌, take, arith}
use Rattle.logfile.specs.Files.{magic}
use Rattle.logfile.specs.Faults.{digest_in}
use Rattle.logfile.proofs.Headers.{header_found}
use Rattle.logfile.proofs.header.check_header.Goals as goal

pub returns-clause-ok : goal.returns-clause-ok
returns-clause-ok c =
    let same : take 4 c.args.file.now ≡ magic = search rules in
    let of : digest_in c.args.file.now ≡ c.args.digest.now = search rules in
    header_found c.args.file.now c.args.digest.now _ (omega arith) (λ i. omega (arith, c.type_inv.file i)) (omega arith) same c.pages_in-pages.ensures (omega arith) (omega arith) of
