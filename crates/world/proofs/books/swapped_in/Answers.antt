use Rattle.std.proofs.Common.{◌≡◌, ◌∙◌, sum_by, sym, rules}
use Rattle.world.specs.Below.{swapped_pages, pages_in}
use Rattle.world.proofs.Totals.{sum_map}
use Rattle.world.proofs.books.swapped_in.Goals as goal

pub returns : goal.returns
returns c =
    let total : c.sum.result ≡ sum_by (λ t. swapped_pages (pages_in t)) c.args.tenants.now = search rules in
    total ∙ sym (sum_map pages_in swapped_pages c.args.tenants.now)
