use Rattle.std.proofs.Common.{◌≡◌, ◌∙◌, ap, arith, sym}
use Rattle.world.specs.All.{pages_at, pages_in}
use Rattle.simulation.specs.Pages.{given_pages}
use Rattle.simulation.proofs.GivenPages.{few_places}
use Rattle.simulation.proofs.pages.page_counts.Goals as goal

pub overflow_sub-result-4 : goal.overflow_sub-result-4
overflow_sub-result-4 g c =
    let t = c.guest-guest.result.now in
    let same : pages_in t ≡ pages_at c.args.world.now c.args.g t = ap pages_in (c.guest-guest.ensures t) in
    let given : c.given_in.result ≡ given_pages (pages_in t) = c.given_in.ensures t ∙ ap given_pages (sym same) in
    omega (
      arith,
      few_places (pages_in t),
      given,
      c.from.ensures,
      c.page_count.ensures.value,
      c.from-given.ensures,
      c.from-private.ensures,
      c.private.ensures,
      c.from-shared.ensures,
      c.shared.ensures,
      c.from-swapped.ensures,
      c.swapped.ensures,
    )
