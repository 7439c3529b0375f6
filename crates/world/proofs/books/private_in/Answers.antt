use Rattle.std.proofs.Common.{◌≡◌, ◌∙◌, sum_by, sym, rules}
use Rattle.world.specs.Below.{private_pages, pages_in}
use Rattle.world.proofs.Totals.{sum_map}
use Rattle.world.proofs.books.private_in.Goals as goal

pub returns : goal.returns
returns c =
    let total : c.sum.result ≡ sum_by (λ t. private_pages (pages_in t)) c.args.tenants.now = search rules in
    total ∙ sym (sum_map pages_in private_pages c.args.tenants.now)
