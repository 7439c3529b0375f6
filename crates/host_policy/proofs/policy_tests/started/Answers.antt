use Rattle.std.proofs.Common.{List, length, map, replicate, refl, sym, subst, ap, ◌∙◌}
use Rattle.frames.specs.Counts.{below}
use Rattle.guest_pages.specs.declared.page.Page.{Page}
use Rattle.guest_pages.specs.declared.page.Page.TheVariants as page
use Rattle.page_moves.specs.Books.{Books}
use Rattle.page_moves.proofs.OneOwner.{begun}
use Rattle.host_policy.proofs.policy_tests.started.Goals as goal

pub new-requires-clause-exact : goal.new-requires-clause-exact
new-requires-clause-exact g c =
    let entries = c.new_shares.result.entries in
    let slots = length c.new_store.result.pages in
    subst (λ (all : List (List Page)). Books 25 slots (map (λ (m : List Page). m) all) entries c.new_pool.result c.new_slots.result) (sym c.requires)
    (begun 25 slots 25 (replicate 25 page.Zero) entries c.new_pool.result c.new_slots.result refl c.new_shares.ensures c.new_pool.ensures.each_once c.new_pool.ensures.none_out
    (λ k. c.new_slots.ensures.each_once k ∙ ap (below k) (sym c.new_store.ensures)) c.new_slots.ensures.none_used)
